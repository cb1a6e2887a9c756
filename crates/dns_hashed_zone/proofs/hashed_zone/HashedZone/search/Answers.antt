use Rattle.std.proofs.Common.{◌≡◌, ℕ, ◌<◌, List, length, ap, subst, sym, ◌∙◌}
use Rattle.std.specs.Prelude.{IfOk}
use Rattle.dns_route.specs.Routes.{ends_name}
use Rattle.dns_denial.specs.Nsec3.{Nsec3State}
use Rattle.dns_hashed_zone.specs.HashedStates.{HashedState}
use Rattle.dns_hashed_zone.specs.Searches.{IsFound, any_matched}
use Rattle.dns_hashed_zone.proofs.MadeLaws.{matched_inside, some_whole}
use Rattle.dns_hashed_zone.proofs.hashed_zone.HashedZone.search.Goals as goal

pub found-requires-clause-some : goal.found-requires-clause-some
found-requires-clause-some c =
    let s = c.self.inside in
    subst (λ (ns : List Nsec3State). 0 < length ns) (sym c.nsecs.ensures.value) (some_whole s.zone s.hashing s.chain c.self.invariant.signed.whole)

pub found-requires-clause-above : goal.found-requires-clause-above
found-requires-clause-above c =
    let s = c.self.inside in
    let name = c.args.name.now in
    ap (λ (ns : List Nsec3State). any_matched s.hashing ns name) c.nsecs.ensures.value
    ∙ matched_inside s.zone s.hashing s.chain c.self.invariant.signed.whole name (ap (λ (t : HashedState). ends_name name t.zone.apex) c.self.view_is ∙ c.requires)

pub returns : goal.returns
returns c =
    let s = c.self.inside in
    let name = c.args.name.now in
    subst (λ (t : HashedState). IfOk c.found.result (IsFound t.hashing t.nsec3s name)) c.self.view_is (subst (λ (ns : List Nsec3State). IfOk c.found.result (IsFound s.hashing ns name)) c.nsecs.ensures.value c.found.ensures)

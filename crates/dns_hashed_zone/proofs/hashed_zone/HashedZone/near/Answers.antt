use Rattle.std.proofs.Common.{◌≡◌, ℕ, ◌<◌, List, length, subst, sym}
use Rattle.std.specs.Prelude.{IfOk}
use Rattle.dns_denial.specs.Nsec3.{Nsec3State, is_matched}
use Rattle.dns_hashed_zone.specs.HashedStates.{HashedState}
use Rattle.dns_hashed_zone.specs.Searches.{near_place}
use Rattle.dns_hashed_zone.proofs.MadeLaws.{some_whole}
use Rattle.dns_hashed_zone.proofs.hashed_zone.HashedZone.near.Goals as goal

pub near_of-requires-clause-some : goal.near_of-requires-clause-some
near_of-requires-clause-some c =
    let s = c.self.inside in
    subst (λ (ns : List Nsec3State). 0 < length ns) (sym c.nsecs.ensures.value) (some_whole s.zone s.hashing s.chain c.self.invariant.signed.whole)

pub returns-clause-place : goal.returns-clause-place
returns-clause-place c =
    let s = c.self.inside in
    let name = c.args.name.now in
    subst (λ (t : HashedState). IfOk c.near_of.result (λ n. n.place ≡ near_place t.hashing t.nsec3s name)) c.self.view_is (subst (λ (ns : List Nsec3State). IfOk c.near_of.result (λ n. n.place ≡ near_place s.hashing ns name)) c.nsecs.ensures.value c.near_of.ensures.place)

pub returns-clause-matched : goal.returns-clause-matched
returns-clause-matched c =
    let s = c.self.inside in
    let name = c.args.name.now in
    subst (λ (t : HashedState). IfOk c.near_of.result (λ n. n.matched ≡ is_matched t.hashing t.nsec3s name)) c.self.view_is (subst (λ (ns : List Nsec3State). IfOk c.near_of.result (λ n. n.matched ≡ is_matched s.hashing ns name)) c.nsecs.ensures.value c.near_of.ensures.matched)

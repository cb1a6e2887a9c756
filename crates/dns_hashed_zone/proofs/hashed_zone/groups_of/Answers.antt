use Rattle.std.proofs.Common.{◌≡◌, ℕ, List, subst, sym}
use Rattle.std.specs.Prelude.{MatchResult}
use Rattle.std.proofs.lemmas.Result.{err_from_is_err_and}
use Rattle.dns_denial.specs.Nsec3.{IsChained3, Nsec3State}
use Rattle.dns_hashed_zone.specs.HashedChecks.{Breaks3}
use Rattle.dns_hashed_zone.specs.HashedStates.{AreGroupsOf, items_of}
use Rattle.dns_hashed_zone.specs.MadeHashed.{AreSized, IsUnownedAt}
use Rattle.dns_hashed_zone.proofs.MadeLaws.{broken_by, grouped_as}
use Rattle.dns_hashed_zone.proofs.hashed_zone.groups_of.Goals as goal

pub grouped-requires-clause-sized : goal.grouped-requires-clause-sized
grouped-requires-clause-sized c = subst AreSized (sym c.nsecs-nsecs.ensures.value) c.requires.sized

pub returns-in_err-checked : goal.returns-in_err-checked
returns-in_err-checked c =
    let p = err_from_is_err_and c.from_residual.result c.from_residual.ensures.1 in
    let z = c.args.zone.now in
    let h = c.args.hashing.now in
    rw (p.1, p.2) (broken_by z h c.args.chain.now c.args.hashed.items c.in_err-checked.field-0.0 (subst (λ (ns : List Nsec3State). Breaks3 z h ns c.in_err-checked.field-0.0) c.nsecs-nsecs.ensures.value c.in_err-checked.ensures))

pub returns : goal.returns
returns c =
    let z = c.args.zone.now in
    let h = c.args.hashing.now in
    let ns = c.args.chain.now in
    let rs = c.args.hashed.items in
    let k = subst (IsChained3 z h) c.nsecs-nsecs.ensures.value c.in_ok-checked.ensures in
    let m = subst (λ (ms : List Nsec3State). MatchResult c.grouped.result (λ v. AreGroupsOf c.apex.result.now ms rs (items_of v.items)) (IsUnownedAt c.apex.result.now ms rs)) c.nsecs-nsecs.ensures.value c.grouped.ensures in
    grouped_as z h ns rs c.grouped.result k (subst (λ (apex : List (List ℕ)). MatchResult c.grouped.result (λ v. AreGroupsOf apex ns rs (items_of v.items)) (IsUnownedAt apex ns rs)) c.apex.ensures m)

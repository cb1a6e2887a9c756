use Rattle.std.proofs.Common.{◌≡◌, ℕ, true, false, List, Some, length, get_or, ap, subst, sym, ◌∙◌, arith}
use Rattle.std.specs.Str.{bytes_eq}
use Rattle.std.proofs.lemmas.Bool.{eqb-true}
use Rattle.dns_denial.specs.Nsec3.{Nsec3State}
use Rattle.dns_nsec3_data.specs.Nsec3Data.{HasHash, HasNoHash, owner_hash}
use Rattle.dns_hashed_zone.proofs.OwnerLaws.{at_place, no_hash, none_at, none_there}
use Rattle.dns_hashed_zone.proofs.groups.place_of.Goals as goal

pub returns-then-is_empty : goal.returns-then-is_empty
returns-then-is_empty c = none_there c.args.apex.now c.args.nsecs.now c.args.resource.now (eqb-true (length c.args.nsecs.now) 0 (sym c.is_empty.ensures ∙ c.if-is_empty.true))

pub returns-in_default : goal.returns-in_default
returns-in_default c =
    let e = rw c.in_default.is at c.in_ok-hash.ensures in
    no_hash c.args.apex.now c.args.nsecs.now c.args.resource.now c.requires.sized (subst (HasNoHash c.args.apex.now) c.for_ref.ensures.value e)

pub returns-then-is_of : goal.returns-then-is_of
returns-then-is_of c =
    let apex = c.args.apex.now in
    let ns = c.args.nsecs.now in
    let r = c.args.resource.now in
    let e = rw c.in-Some.is at c.in_ok-hash.ensures in
    let k = subst (λ (o : List (List ℕ)). HasHash apex o c.in-Some.hash) c.for_ref.ensures.value e in
    at_place apex ns r c.in-Some.hash c.index-nsecs-place.result c.nearest-place.result c.nearest-place.ensures.within c.index-nsecs-place.is k.is (sym c.is_of.ensures ∙ c.if-is_of.true)

pub returns : goal.returns
returns c =
    let apex = c.args.apex.now in
    let ns = c.args.nsecs.now in
    let r = c.args.resource.now in
    let e = rw c.in-Some.is at c.in_ok-hash.ensures in
    let k = subst (λ (o : List (List ℕ)). HasHash apex o c.in-Some.hash) c.for_ref.ensures.value e in
    none_at apex ns r c.requires.sorted (omega arith) c.in-Some.hash c.index-nsecs-place.result (c.index-nsecs-place.is ∙ ap (λ (i : ℕ). get_or ns i c.index-nsecs-place.result) c.nearest-place.ensures.place) k.is (sym c.is_of.ensures ∙ c.if-is_of.false)

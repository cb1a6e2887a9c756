use Rattle.std.proofs.Common.{◌≡◌, true, ap, sym, ◌∙◌, arith}
use Rattle.std.specs.Prelude.{Some, None}
use Rattle.std.proofs.lemmas.Bool.Decides.{nat_tests}
use Rattle.dns_order.specs.Keys.{canonical_key}
use Rattle.dns_zone.specs.Owned.{is_of}
use Rattle.dns_zone_tree.proofs.ErrorLaws.{crowded_by}
use Rattle.dns_zone_tree.proofs.check.is_crowded.Goals as goal

pub returns-in-Some : goal.returns-in-Some
returns-in-Some c = λ rs k.
    let t : is_of 5 c.args.resource.now ≡ true = grind (arith, nat_tests) in
    c.has_others.ensures ∙ sym (crowded_by c.args.names.now rs c.args.resource.now c.as_slice.result.now (Some c.in-Some.kinds.now) k (c.as_slice.ensures.value ∙ (c.in_ok-key.ensures ∙ ap canonical_key c.for_ref.ensures.value)) c.in-Some.ensures t)

pub returns : goal.returns
returns c = λ rs k.
    let t : is_of 5 c.args.resource.now ≡ true = grind (arith, nat_tests) in
    sym (crowded_by c.args.names.now rs c.args.resource.now c.as_slice.result.now None k (c.as_slice.ensures.value ∙ (c.in_ok-key.ensures ∙ ap canonical_key c.for_ref.ensures.value)) c.in-None.ensures t)

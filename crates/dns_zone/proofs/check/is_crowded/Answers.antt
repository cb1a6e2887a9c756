use Rattle.std.proofs.Common.{◌≡◌, true, length, ap, sym, ◌∙◌, arith}
use Rattle.std.specs.Prelude.{nat_lt}
use Rattle.std.proofs.lemmas.Bool.Decides.{nat_tests}
use Rattle.dns_zone.specs.Owned.{is_of}
use Rattle.dns_zone.proofs.CheckLaws.{crowded_by}
use Rattle.dns_zone.proofs.check.is_crowded.Goals as goal

pub returns-in-Some : goal.returns-in-Some
returns-in-Some c = λ rs k.
    let t : is_of 5 c.args.resource.now ≡ true = grind (arith, nat_tests) in
    ap (λ l. nat_lt 1 (length l)) c.in-Some.ensures.0 ∙ sym (crowded_by c.args.names.now rs c.args.resource.now c.as_slice.result.now k (c.as_slice.ensures.value ∙ c.in_ok-path.ensures) t)

pub returns : goal.returns
returns c = λ rs k.
    let t : is_of 5 c.args.resource.now ≡ true = grind (arith, nat_tests) in
    sym (crowded_by c.args.names.now rs c.args.resource.now c.as_slice.result.now k (c.as_slice.ensures.value ∙ c.in_ok-path.ensures) t ∙ ap (λ l. nat_lt 1 (length l)) c.in-None.ensures)

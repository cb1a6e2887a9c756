use Rattle.std.proofs.Common.{◌≡◌, ap, sym, ◌∙◌}
use Rattle.std.specs.Cmp.{both_ways}
use Rattle.dns_name.specs.Canonical.{same_name_Decides}
use Rattle.dns_name.specs.Labels.{folded}
use Rattle.dns_forward.proofs.matching.is_same_name.Goals as goal

pub returns : goal.returns
returns c =
    let d = same_name_Decides c.args.asked.now c.args.found.now in
    let e : folded c.for_ref.result ≡ folded c.args.asked.now = ap folded c.for_ref.ensures.value in
    both_ways _ _ (λ h. d.1 (sym e ∙ sym (c.name_eq.ensures.equal.0 h))) (λ h. c.name_eq.ensures.equal.1 (sym (d.0 h) ∙ sym e))

use Rattle.std.proofs.Common.{◌≡◌, true, sym, ◌∙◌}
use Rattle.std.specs.Prelude.{◌||◌}
use Rattle.std.proofs.lemmas.Bool.{or_left, or_right}
use Rattle.dns_route.specs.Routes.{ends_name}
use Rattle.dns_denial.proofs.SpellLaws.{stops}
use Rattle.dns_denial.proofs.encloser.encloser.Goals as goal
use Rattle.dns_denial.proofs.encloser.encloser.Goals.{then-is_below-via-then-is_below, then-is_below-via-else-is_below+then-leads_below}

pub returns-then-is_below : goal.returns-then-is_below
returns-then-is_below c =
    let n = c.args.nsec.now in
    let here : (ends_name n.owner c.labels.left || ends_name n.next c.labels.left) ≡ true = elim c.then-is_below.branch [
      | then-is_below-via-then-is_below w ↦ or_left (ends_name n.owner c.labels.left) (ends_name n.next c.labels.left) (sym c.is_below.ensures ∙ w.if-is_below.true)
      | then-is_below-via-else-is_below+then-leads_below w ↦ or_right (ends_name n.owner c.labels.left) (ends_name n.next c.labels.left) (sym w.leads_below.ensures ∙ w.if-leads_below.true)
    ] in
    sym (stops n c.labels.left here) ∙ c.labels.invariant

use Rattle.std.proofs.Common.{◌≡◌}
use Rattle.dns_forward.specs.Asked.{led_to}
use Rattle.dns_forward.proofs.all_events.led_to.Given as goal

abbrev pub invariant-outcomes : goal.invariant-outcomes
invariant-outcomes l =
    (goal.iterator-outcomes).can_next l.outcome-iterator ×
    (goal.iterator-outcomes).is_finite l.outcome-iterator ×
    (l.answer ≡ led_to l.yielded)

use Rattle.std.proofs.Common.{ap, sym, ◌∙◌}
use Rattle.dns_route.specs.Relays.{SentAnswer}
use Rattle.dns_forward.specs.Asked.{led_on}
use Rattle.dns_forward.proofs.Led.{led-more}
use Rattle.dns_forward.proofs.all_events.led_to.Goals as goal

pub outcomes-preserved : goal.outcomes-preserved
outcomes-preserved c =
    let o = c.in-Some.outcome in
    (tt, tt, c.led_on-answer.ensures ∙ (ap (λ (a : SentAnswer). led_on a o) c.outcomes.invariant.2 ∙ sym (led-more c.outcomes.yielded o)))

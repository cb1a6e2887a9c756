use Rattle.std.proofs.Common.{ap}
use Rattle.dns_forward.specs.declared.asking_event.AskingOutcome.TheVariants.{OfTick}
use Rattle.dns_forward.specs.declared.asking_event.Ticked.{Ticked}
use Rattle.dns_forward.specs.declared.asking_event.Ticked.TheVariants.{GaveUp}
use Rattle.dns_lookup.proofs.Stepped.{frame-is}
use Rattle.dns_lookup.proofs.lookup.Lookup.after_frame_tick.Goals as goal

pub returns-in-GaveUp-clause-led : goal.returns-in-GaveUp-clause-led
returns-in-GaveUp-clause-led c =
    frame-is c.args.self.now c.give_truncated.new.self (OfTick c.args.ticked) (OfTick GaveUp) c.give_truncated.result (ap (λ (t : Ticked). OfTick t) c.in-GaveUp.is) c.give_truncated.ensures.led

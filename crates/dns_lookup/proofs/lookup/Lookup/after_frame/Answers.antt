use Rattle.dns_forward.specs.declared.asking_event.AskingOutcome.TheVariants.{OfTick}
use Rattle.dns_lookup.proofs.Stepped.{frame-is}
use Rattle.dns_lookup.proofs.lookup.Lookup.after_frame.Goals as goal

pub returns-in-OfTick-clause-led : goal.returns-in-OfTick-clause-led
returns-in-OfTick-clause-led c =
    frame-is c.args.self.now c.after_frame_tick.new.self c.args.outcome (OfTick c.in-OfTick.ticked) c.after_frame_tick.result c.in-OfTick.is c.after_frame_tick.ensures.led

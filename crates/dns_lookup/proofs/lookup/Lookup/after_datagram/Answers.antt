use Rattle.std.proofs.Common.{◌∙◌, ap, Option, List, ℕ}
use Rattle.std.proofs.lemmas.Result.{IfOk-weaker}
use Rattle.dns_forward.specs.declared.asking_event.AskingOutcome.TheVariants.{OfArrival, OfTick}
use Rattle.dns_lookup.proofs.Stepped.{datagram-is}
use Rattle.dns_lookup.proofs.lookup.Lookup.after_datagram.Goals as goal

pub returns-in-OfArrival-Some-clause-ok : goal.returns-in-OfArrival-Some-clause-ok
returns-in-OfArrival-Some-clause-ok c =
    IfOk-weaker c.answered.result _ _ (λ o h.
    datagram-is c.args.self.now c.answered.new.self c.args.at c.args.outcome _ o (c.in-OfArrival-Some.is ∙ ap (λ (m : Option (List ℕ)). OfArrival m) c.in-OfArrival-Some.field-0-is) h) c.answered.ensures.ok

pub returns-in-OfTick-clause-ok : goal.returns-in-OfTick-clause-ok
returns-in-OfTick-clause-ok c =
    IfOk-weaker c.after_tick.result _ _ (λ o h.
    datagram-is c.args.self.now c.after_tick.new.self c.args.at c.args.outcome (OfTick c.in-OfTick.ticked) o c.in-OfTick.is h) c.after_tick.ensures.ok

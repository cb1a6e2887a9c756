use Rattle.std.proofs.Common.{ap}
use Rattle.std.proofs.lemmas.Result.{IfOk-weaker}
use Rattle.dns_forward.specs.declared.asking_event.AskingOutcome.TheVariants.{OfTick}
use Rattle.dns_forward.specs.declared.asking_event.Ticked.{Ticked}
use Rattle.dns_forward.specs.declared.asking_event.Ticked.TheVariants.{Send}
use Rattle.dns_lookup.proofs.Stepped.{datagram-is}
use Rattle.dns_lookup.proofs.lookup.Lookup.after_tick.Goals as goal

pub returns-in-Send-clause-ok : goal.returns-in-Send-clause-ok
returns-in-Send-clause-ok c =
    IfOk-weaker c.send_again.result _ _ (λ o h.
    datagram-is c.args.self.now c.args.self.now 0 (OfTick c.args.ticked) (OfTick Send) o (ap (λ (t : Ticked). OfTick t) c.in-Send.is) h) c.send_again.ensures

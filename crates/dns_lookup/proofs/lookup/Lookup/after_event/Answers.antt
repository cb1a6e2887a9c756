use Rattle.std.proofs.lemmas.Result.{IfOk-weaker}
use Rattle.dns_lookup.proofs.Stepped.{event-is}
use Rattle.dns_lookup.proofs.lookup.Lookup.after_event.Goals as goal

pub returns-in-Some-clause-ok : goal.returns-in-Some-clause-ok
returns-in-Some-clause-ok c =
    IfOk-weaker c.after_datagram.result _ _ (λ o h.
    event-is c.args.self.now c.after_datagram.new.self c.args.event.now c.moment.result c.args.heard c.in-Some.outcome o c.in-Some.is c.moment.ensures h) c.after_datagram.ensures.ok

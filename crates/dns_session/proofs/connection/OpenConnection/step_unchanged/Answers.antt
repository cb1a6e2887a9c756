use Rattle.dns_session.specs.Slate.{Slate, conf_rule}
use Rattle.dns_framing.specs.PolledRequest.{request_answer}
use Rattle.dns_events.specs.declared.event.EventKind.TheVariants.{Shutdown as By_shutdown}
use Rattle.dns_events.specs.declared.event.Why.TheVariants.{Ended, Fault}
use Rattle.dns_session.specs.declared.outcome.Outcome.TheVariants.{Ends}
use Rattle.dns_session.proofs.Stepped.{closes, in_leads}
use Rattle.dns_session.proofs.connection.OpenConnection.step_unchanged.Goals as goal

pub returns-in-Tick : goal.returns-in-Tick
returns-in-Tick g c = λ quick answers.
    in_leads (request_answer g.W.Future.ReplyFuture.answer g.W.Stream.ReplyStream.answer) answers c.args.self.now c.args.self.now c.tick.result c.args.event.now (rw c.in-Tick.is (c.tick.ensures answers))

pub returns-in-End : goal.returns-in-End
returns-in-End g c = λ quick answers.
    let a = request_answer g.W.Future.ReplyFuture.answer g.W.Stream.ReplyStream.answer in
    in_leads a answers c.args.self.now c.args.self.now (Ends Ended) c.args.event.now (rw c.in-End.is (closes a answers c.args.self.now Ended))

pub returns-in-Fault : goal.returns-in-Fault
returns-in-Fault g c = λ quick answers.
    let a = request_answer g.W.Future.ReplyFuture.answer g.W.Stream.ReplyStream.answer in
    in_leads a answers c.args.self.now c.args.self.now (Ends Fault) c.args.event.now (rw c.in-Fault.is (closes a answers c.args.self.now Fault))

pub returns-in-Close : goal.returns-in-Close
returns-in-Close g c = λ quick answers.
    in_leads (request_answer g.W.Future.ReplyFuture.answer g.W.Stream.ReplyStream.answer) answers c.args.self.now c.args.self.now c.wind_up.result c.args.event.now (rw c.in-Close.is (c.wind_up.ensures answers (λ (s : Slate). s.conf)))

pub returns-in-Shutdown : goal.returns-in-Shutdown
returns-in-Shutdown g c = λ quick answers.
    in_leads (request_answer g.W.Future.ReplyFuture.answer g.W.Stream.ReplyStream.answer) answers c.args.self.now c.args.self.now c.wind_up-in-Shutdown.result c.args.event.now (rw c.in-Shutdown.is (c.wind_up-in-Shutdown.ensures answers (λ (s : Slate). conf_rule By_shutdown s.conf)))

use Rattle.dns_framing.specs.PolledRequest.{request_answer}
use Rattle.dns_session.specs.declared.outcome.Outcome.TheVariants.{Nothing}
use Rattle.dns_session.proofs.Stepped.{in_leads, reconfigures, unchanged}
use Rattle.dns_session.proofs.connection.OpenConnection.step_at_once.Goals as goal

pub returns-in-Write : goal.returns-in-Write
returns-in-Write g c = λ quick answers.
    in_leads (request_answer g.W.Future.ReplyFuture.answer g.W.Stream.ReplyStream.answer) answers c.args.self.now c.write.new.self c.write.result c.args.event.now (rw c.in-Write.is (c.write.ensures answers))

pub returns-in-Reconfigure : goal.returns-in-Reconfigure
returns-in-Reconfigure g c = λ quick answers.
    let a = request_answer g.W.Future.ReplyFuture.answer g.W.Stream.ReplyStream.answer in
    in_leads a answers c.args.self.now c.reconfigure.new.self Nothing c.args.event.now (rw c.in-Reconfigure.is (reconfigures a answers c.args.self.now c.reconfigure.new.self c.in-Reconfigure.dgram c.in-Reconfigure.stream c.connection_config.result c.connection_config.ensures.value (c.reconfigure.ensures answers)))

pub returns-in_default : goal.returns-in_default
returns-in_default g c = λ quick answers. c.step_unchanged.ensures (unchanged c.args.event.now.kind quick c.in_default.not-Write c.in_default.not-Reconfigure) answers

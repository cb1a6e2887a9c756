use Rattle.std.proofs.Common.{refl}
use Rattle.dns_framing.specs.PolledRequest.{request_answer}
use Rattle.dns_session.specs.declared.client.State.TheVariants.{Open as Is_open}
use Rattle.dns_session.proofs.SawLaws.{hears_open}
use Rattle.dns_session.proofs.client.ClientCore.apply_config.Goals as goal

pub returns-in-Open-clause-follows : goal.returns-in-Open-clause-follows
returns-in-Open-clause-follows g c = λ answers.
    let old = c.args.self.now in
    let look = c.args.look.now in
    hears_open (request_answer g.W.Future.ReplyFuture.answer g.W.Stream.ReplyStream.answer) answers old (record old { version = look.version; state = Is_open c.reconfigure.new.self }) look c.in-Open.connection c.reconfigure.new.self c.connection_config.result c.connection_config.ensures.value c.if-look-self.false c.in-Open.is (c.reconfigure.ensures answers) refl refl

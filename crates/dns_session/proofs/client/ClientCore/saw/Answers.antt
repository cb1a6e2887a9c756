use Rattle.dns_framing.specs.PolledRequest.{request_answer}
use Rattle.dns_session.proofs.SawLaws.{saw_quiet, saw_end}
use Rattle.dns_session.proofs.client.ClientCore.saw.Goals as goal

pub returns-then-not-look-clause-follows : goal.returns-then-not-look-clause-follows
returns-then-not-look-clause-follows g c = λ answers. saw_quiet (request_answer g.W.Future.ReplyFuture.answer g.W.Stream.ReplyStream.answer) answers c.args.self.now c.apply_config.new.self c.args.look.now c.new.result.items c.if-not-look.true c.new.ensures.items (c.apply_config.ensures.follows answers)

pub returns-in-Ok-clause-follows : goal.returns-in-Ok-clause-follows
returns-in-Ok-clause-follows g c = λ answers. saw_end (request_answer g.W.Future.ReplyFuture.answer g.W.Stream.ReplyStream.answer) answers c.args.self.now c.apply_config.new.self (record c.apply_config.new.self { state = c.shut_down.new.state }) c.args.look.now c.in-Ok.outs.items c.if-not-look.false (c.apply_config.ensures.follows answers) (c.in-Ok.ensures.follows answers)

use Rattle.dns_framing.specs.PolledRequest.{request_answer}
use Rattle.dns_session.proofs.Stepped.{spent}
use Rattle.dns_session.proofs.client.ClientCore.is_spent.Goals as goal

pub returns-in-Exchange-clause-spent : goal.returns-in-Exchange-clause-spent
returns-in-Exchange-clause-spent g c = λ answers s h. spent (request_answer g.W.Future.ReplyFuture.answer g.W.Stream.ReplyStream.answer) answers c.args.self.now.client c.args.self.now.state s h

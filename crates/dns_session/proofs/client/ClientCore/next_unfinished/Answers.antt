use Rattle.dns_framing.specs.PolledRequest.{request_answer}
use Rattle.dns_session.proofs.Waiting.{of_open}
use Rattle.dns_session.proofs.client.ClientCore.next_unfinished.Goals as goal

pub returns-in-Open-clause-requests : goal.returns-in-Open-clause-requests
returns-in-Open-clause-requests g c = λ answers s h. c.next_unfinished.ensures answers c.args.self.now.client s (of_open (request_answer g.W.Future.ReplyFuture.answer g.W.Stream.ReplyStream.answer) answers c.args.self.now.client c.args.self.now.state c.in-Open.connection s c.in-Open.is h)

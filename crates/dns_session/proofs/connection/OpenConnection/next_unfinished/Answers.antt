use Rattle.dns_framing.specs.PolledRequest.{request_answer}
use Rattle.dns_session.specs.Unfinished.{request_at}
use Rattle.dns_session.proofs.Waiting.{agrees, next_is}
use Rattle.dns_session.proofs.connection.OpenConnection.next_unfinished.Goals as goal

pub returns : goal.returns
returns g c = λ answers client s h.
    next_is (request_at c.args.self.now.unfinished) s.requests c.args.request c.next.result (agrees (request_answer g.W.Future.ReplyFuture.answer g.W.Stream.ReplyStream.answer) answers client c.args.self.now s h) (c.next.ensures h.requests.in_order)

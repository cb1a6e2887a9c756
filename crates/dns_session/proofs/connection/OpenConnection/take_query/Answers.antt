use Rattle.dns_session.specs.Serving.{serving}
use Rattle.dns_framing.specs.PolledRequest.{request_answer}
use Rattle.dns_session.proofs.Taking.{asks_beside}
use Rattle.std.proofs.lemmas.Result.{on_ok_weaker}
use Rattle.dns_session.proofs.connection.OpenConnection.take_query.Goals as goal

pub returns : goal.returns
returns g c =
    let a = request_answer g.W.Future.ReplyFuture.answer g.W.Stream.ReplyStream.answer in
    let b = serving (g.W.SharedService.answer c.args.service.now) (g.W.SharedService.hint c.args.service.now) in
    on_ok_weaker c.ask.result (λ asks. asks_beside a b c.args.self.now c.ask.new.self _ c.take-spare.new.self asks)
    (rw (c.with_reply_memory.ensures, c.frame_request-request.ensures, c.in_ok-shared.ensures) at c.ask.ensures)

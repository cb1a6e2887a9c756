use Rattle.dns_session.specs.Serving.{serving}
use Rattle.std.proofs.Common.{sym, ◌∙◌}
use Rattle.std.proofs.lemmas.Result.{IfOk-weaker}
use Rattle.dns_framing.specs.PolledRequest.{request_answer}
use Rattle.dns_session.proofs.Lent.{fed_lent, nothing_kept}
use Rattle.dns_session.proofs.Taking.{fed}
use Rattle.dns_session.proofs.connection.OpenConnection.piece.Goals as goal

pub take_lent-requires-clause-empty : goal.take_lent-requires-clause-empty
take_lent-requires-clause-empty g c = nothing_kept c.args.self.now.framer (sym c.is_empty.ensures ∙ c.if-is_empty.true)

pub returns-then-is_empty : goal.returns-then-is_empty
returns-then-is_empty g c =
    let a = request_answer g.W.Future.ReplyFuture.answer g.W.Stream.ReplyStream.answer in
    let b = serving (g.W.SharedService.answer c.args.service.now) (g.W.SharedService.hint c.args.service.now) in
    let empty = nothing_kept c.args.self.now.framer (sym c.is_empty.ensures ∙ c.if-is_empty.true) in
    IfOk-weaker c.take_lent.result _ _ (λ outcome all. fed_lent a b c.args.at c.args.secs c.args.self.now c.take_lent.new.self c.args.octets.now outcome empty all) c.take_lent.ensures

pub returns : goal.returns
returns g c =
    let all = rw c.in_ok-feed.ensures.ok at c.in_ok-outcome.ensures in
    fed (request_answer g.W.Future.ReplyFuture.answer g.W.Stream.ReplyStream.answer) (serving (g.W.SharedService.answer c.args.service.now) (g.W.SharedService.hint c.args.service.now)) c.args.at c.args.secs c.args.self.now c.take_all.new.self c.args.octets.now c.in_ok-outcome.outcome all

use Rattle.std.proofs.lemmas.Result.{IfOk-weaker}
use Rattle.dns_session.specs.Serving.{serving}
use Rattle.dns_framing.specs.PolledRequest.{request_answer}
use Rattle.dns_session.proofs.Stepped.{in_leads, without_memory}
use Rattle.dns_session.proofs.connection.OpenConnection.step.Goals as goal

pub returns-in-Piece : goal.returns-in-Piece
returns-in-Piece g c =
    let a = request_answer g.W.Future.ReplyFuture.answer g.W.Stream.ReplyStream.answer in
    let b = serving (g.W.SharedService.answer c.args.service.now) (g.W.SharedService.hint c.args.service.now) in
    let all = rw c.as_slice-octets.ensures at c.piece.ensures in
    IfOk-weaker c.piece.result _ _ (λ outcome f. in_leads a b c.args.self.now c.piece.new.self outcome c.args.event.now (rw c.in-Piece.is f)) all

pub returns-in-Turn : goal.returns-in-Turn
returns-in-Turn g c =
    let a = request_answer g.W.Future.ReplyFuture.answer g.W.Stream.ReplyStream.answer in
    let b = serving (g.W.SharedService.answer c.args.service.now) (g.W.SharedService.hint c.args.service.now) in
    IfOk-weaker c.turn.result _ _ (λ outcome f. in_leads a b c.args.self.now c.turn.new.self outcome c.args.event.now (rw c.in-Turn.is (f b))) c.turn.ensures

pub returns-in_default : goal.returns-in_default
returns-in_default g c =
    let b = serving (g.W.SharedService.answer c.args.service.now) (g.W.SharedService.hint c.args.service.now) in
    c.step_at_once.ensures (without_memory c.args.event.now.kind c.in_default.not-Piece c.in_default.not-Turn) b

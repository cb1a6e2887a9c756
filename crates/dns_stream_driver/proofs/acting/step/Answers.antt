use Rattle.std.proofs.Common.{refl}
use Rattle.std.proofs.lemmas.Result.{IfOk-weaker}
use Rattle.dns_session.specs.Serving.{serving}
use Rattle.dns_stream_driver.proofs.acting.step.Goals as goal

pub returns-in-Piece : goal.returns-in-Piece
returns-in-Piece g c =
    let all = rw c.as_slice-octets.ensures at c.take_piece.ensures in
    IfOk-weaker c.take_piece.result _ _ (λ why f. f c.args.event.now refl refl c.in-Piece.is) all

pub returns-in-Write : goal.returns-in-Write
returns-in-Write g c = c.take_write.ensures (serving (g.W.SharedService.answer c.args.service.now) (g.W.SharedService.hint c.args.service.now)) c.args.event.now refl c.in-Write.is

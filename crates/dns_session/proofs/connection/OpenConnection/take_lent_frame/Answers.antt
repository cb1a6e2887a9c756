use Rattle.dns_session.specs.Serving.{serving}
use Rattle.std.proofs.Common.{◌≡◌, None}
use Rattle.std.proofs.lemmas.Result.{IfOk-weaker}
use Rattle.dns_session.specs.Frames.{first_frame}
use Rattle.dns_framing.specs.PolledRequest.{request_answer}
use Rattle.dns_session.proofs.Lent.{kept_lent, lent_or_short}
use Rattle.dns_session.proofs.connection.OpenConnection.take_lent_frame.Goals as goal

pub returns-in_default : goal.returns-in_default
returns-in_default g c =
    let a = request_answer g.W.Future.ReplyFuture.answer g.W.Stream.ReplyStream.answer in
    let b = serving (g.W.SharedService.answer c.args.service.now) (g.W.SharedService.hint c.args.service.now) in
    let none : first_frame c.args.octets.now ≡ None = rw c.in_default.is at c.in_ok-frame.ensures in
    IfOk-weaker c.keep_lent.result _ _ (λ p k. kept_lent a b c.args.at c.args.secs c.args.self.now c.keep_lent.new.self c.args.octets.now p.1 p.0 c.requires.empty none k.0 k.2) c.keep_lent.ensures

pub returns : goal.returns
returns g c =
    let a = request_answer g.W.Future.ReplyFuture.answer g.W.Stream.ReplyStream.answer in
    let b = serving (g.W.SharedService.answer c.args.service.now) (g.W.SharedService.hint c.args.service.now) in
    let h = rw c.in-Some.is at c.in_ok-frame.ensures in
    lent_or_short a b c.args.at c.args.secs c.args.self.now c.take_frame.new.self c.args.octets.now c.in-Some.frame.items c.in-Some.size c.in_ok-ended.ended c.requires.empty h.0 h.1 c.in_ok-ended.ensures

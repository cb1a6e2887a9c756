use Rattle.dns_session.specs.Serving.{serving}
use Rattle.std.proofs.Common.{◌≡◌, ◌∙◌, ap, Some}
use Rattle.std.proofs.lemmas.Result.{IfOk-weaker}
use Rattle.dns_session.specs.Frames.{first_frame}
use Rattle.dns_framing.specs.PolledRequest.{request_answer}
use Rattle.dns_framing.proofs.FramesLemmas.{first-framed}
use Rattle.dns_session.proofs.Taking.{none_left, taken_or_short}
use Rattle.dns_session.proofs.connection.OpenConnection.take_one.Goals as goal

pub returns-in_default : goal.returns-in_default
returns-in_default g c =
    let h = rw c.in_default.is at c.in_ok-frame.ensures.some in
    rw h.1 (none_left (request_answer g.W.Future.ReplyFuture.answer g.W.Stream.ReplyStream.answer) (serving (g.W.SharedService.answer c.args.service.now) (g.W.SharedService.hint c.args.service.now)) c.args.at c.args.secs c.args.self.now h.0)

pub returns : goal.returns
returns g c =
    let a = request_answer g.W.Future.ReplyFuture.answer g.W.Stream.ReplyStream.answer in
    let b = serving (g.W.SharedService.answer c.args.service.now) (g.W.SharedService.hint c.args.service.now) in
    let h = rw c.in-Some.is at c.in_ok-frame.ensures.some in
    let f = c.in-Some.frame.items in
    let e : first_frame c.args.self.now.framer ≡ Some (f, c.next.new.self) = ap first_frame h.1 ∙ first-framed f c.next.new.self in
    IfOk-weaker c.take_frame.result _ _ (λ outcome takes. taken_or_short a b c.args.at c.args.secs c.args.self.now c.take_frame.new.self f c.next.new.self outcome e takes) c.take_frame.ensures

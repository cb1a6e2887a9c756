use Rattle.dns_session.specs.Serving.{serving}
use Rattle.std.proofs.Common.{◌≤◌, [], length, refl}
use Rattle.std.proofs.lemmas.Result.{IfOk-weaker}
use Rattle.dns_framing.specs.PolledRequest.{request_answer}
use Rattle.dns_session.proofs.Begun.{begun_short}
use Rattle.dns_session.proofs.exchange.begin_cut.Goals as goal

pub returns-in_default : goal.returns-in_default
returns-in_default g c =
    let a = request_answer g.W.Future.ReplyFuture.answer g.W.Stream.ReplyStream.answer in
    let b = serving (g.W.SharedService.answer c.args.service.now) (g.W.SharedService.hint c.args.service.now) in
    λ number s unused d. begun_short a b number c.args.addr c.args.at c.args.secs c.args.octets.items [] s unused c.in_default.ensures.1 refl

pub returns : goal.returns
returns g c =
    let long : 12 ≤ length c.in-Ok.message = rw c.in-Ok.ensures.0 c.in-Ok.ensures.1 in
    IfOk-weaker c.begin_message.result _ _ (λ p f. rw (← c.in-Ok.ensures.0) (f long)) c.begin_message.ensures

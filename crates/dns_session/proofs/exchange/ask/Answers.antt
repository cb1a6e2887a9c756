use Rattle.std.proofs.Common.{refl}
use Rattle.dns_session.specs.Serving.{serving}
use Rattle.dns_framing.specs.PolledRequest.{request_answer}
use Rattle.dns_session.proofs.Begun.{called}
use Rattle.dns_session.proofs.exchange.ask.Goals as goal

pub returns : goal.returns
returns g c =
    let a = request_answer g.W.Future.ReplyFuture.answer g.W.Stream.ReplyStream.answer in
    let b = serving (g.W.SharedService.answer c.args.service.now) (g.W.SharedService.hint c.args.service.now) in
    (refl, called a b c.in_ok-kept.kept c.args.request c.in_ok-kept.ensures.answers c.in_ok-kept.ensures.message c.in_ok-kept.ensures.limit)

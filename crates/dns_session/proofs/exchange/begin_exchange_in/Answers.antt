use Rattle.dns_session.specs.Serving.{serving}
use Rattle.std.proofs.lemmas.Result.{IfOk-weaker}
use Rattle.dns_framing.specs.PolledRequest.{request_answer}
use Rattle.dns_session.proofs.Stepped.{exchange_spent}
use Rattle.dns_session.proofs.exchange.begin_exchange_in.Goals as goal

pub returns-clause-begun : goal.returns-clause-begun
returns-clause-begun g c = IfOk-weaker c.begin_cut.result _ _ (λ p f. rw c.cut_given-octets.ensures at f) c.begin_cut.ensures

pub returns-clause-spent : goal.returns-clause-spent
returns-clause-spent g c =
    let a = request_answer g.W.Future.ReplyFuture.answer g.W.Stream.ReplyStream.answer in
    let b = serving (g.W.SharedService.answer c.args.service.now) (g.W.SharedService.hint c.args.service.now) in
    IfOk-weaker c.begin_cut.result _ _ (λ p f. exchange_spent a b p.0) c.begin_cut.ensures

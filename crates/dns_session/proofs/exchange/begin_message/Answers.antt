use Rattle.dns_session.specs.Serving.{serving}
use Rattle.std.proofs.Common.{◌≡◌, ap, true, false}
use Rattle.std.proofs.lemmas.Result.{IfOk-weaker}
use Rattle.dns_base.specs.Header.{header_of}
use Rattle.dns_framing.specs.PolledRequest.{request_answer}
use Rattle.dns_session.specs.Datagrams.{datagrams_to}
use Rattle.dns_session.proofs.Begun.{begun_response, begun_query}
use Rattle.dns_session.proofs.exchange.begin_message.Goals as goal

pub returns-then-header : goal.returns-then-header
returns-then-header g c =
    let a = request_answer g.W.Future.ReplyFuture.answer g.W.Stream.ReplyStream.answer in
    let b = serving (g.W.SharedService.answer c.args.service.now) (g.W.SharedService.hint c.args.service.now) in
    let response : (header_of c.args.message).qr ≡ true = rw (← c.header.ensures) c.if-header.true in
    IfOk-weaker c.refuse.result _ _ (λ p says long n s unused d. rw says.0 (begun_response a b n c.args.addr c.args.at c.args.secs c.args.message c.args.config.now (datagrams_to n p.1) s unused long response d (says.1 n))) c.refuse.ensures

pub returns : goal.returns
returns g c =
    let a = request_answer g.W.Future.ReplyFuture.answer g.W.Stream.ReplyStream.answer in
    let b = serving (g.W.SharedService.answer c.args.service.now) (g.W.SharedService.hint c.args.service.now) in
    let query : (header_of c.args.message).qr ≡ false = rw (← c.header.ensures) c.if-header.false in
    IfOk-weaker c.ask.result _ _ (λ p says long n s unused d. begun_query a b p.0 n c.args.addr c.args.at c.args.secs c.args.message c.args.config.now (datagrams_to n p.1) s unused long query says.1 d (ap (datagrams_to n) says.0)) (rw (c.with_reply_memory.ensures, c.shared_request-request.ensures, c.in_ok-shared.ensures) at c.ask.ensures)

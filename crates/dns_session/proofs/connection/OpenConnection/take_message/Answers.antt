use Rattle.std.proofs.Common.{◌≡◌, false, true, sym, ◌∙◌}
use Rattle.std.proofs.lemmas.Bool.{false≢true}
use Rattle.std.proofs.lemmas.Result.{on_err_weaker, on_ok_weaker}
use Rattle.dns_base.specs.Header.{header_of}
use Rattle.dns_session.specs.Serving.{serving}
use Rattle.dns_framing.specs.PolledRequest.{request_answer}
use Rattle.dns_session.proofs.Taking.{on_each_err, refuses_message}
use Rattle.dns_session.proofs.connection.OpenConnection.take_message.Goals as goal

pub returns-then-header-clause-ok : goal.returns-then-header-clause-ok
returns-then-header-clause-ok g c =
    let a = request_answer g.W.Future.ReplyFuture.answer g.W.Stream.ReplyStream.answer in
    let b = serving (g.W.SharedService.answer c.args.service.now) (g.W.SharedService.hint c.args.service.now) in
    let response : (header_of c.args.message).qr ≡ true = rw (← c.header.ensures) c.if-header.true in
    on_ok_weaker c.refuse.result (λ is. refuses_message a b c.args.at c.args.secs c.args.self.now c.refuse.new.self c.args.message response is) c.refuse.ensures.ok

pub returns-then-header-clause-err : goal.returns-then-header-clause-err
returns-then-header-clause-err g c = on_err_weaker c.refuse.result (λ room response. room) c.refuse.ensures.err

pub returns-clause-err : goal.returns-clause-err
returns-clause-err g c =
    let query : (header_of c.args.message).qr ≡ false = rw (← c.header.ensures) c.if-header.false in
    on_each_err c.take_query.result (λ response. absurd (false≢true (sym query ∙ response)))

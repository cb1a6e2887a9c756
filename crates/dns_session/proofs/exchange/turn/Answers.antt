use Rattle.std.proofs.lemmas.Result.{IfOk-weaker}
use Rattle.dns_framing.specs.PolledRequest.{request_answer}
use Rattle.dns_session.proofs.KeptTurns.{of_turn}
use Rattle.dns_session.proofs.exchange.turn.Goals as goal

pub returns : goal.returns
returns g c =
    let a = request_answer g.F.ReplyFuture.answer g.R.ReplyStream.answer in
    IfOk-weaker c.datagrams_to.result _ _ (λ outs says answers. rw c.if-request-ne0.false (of_turn a answers c.args.client c.args.unfinished.now c.turn_unfinished.new.unfinished c.in_ok-octets.octets outs.items (c.in_ok-octets.ensures answers) says)) c.datagrams_to.ensures

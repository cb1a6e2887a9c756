use Rattle.std.proofs.lemmas.Result.{IfOk-weaker}
use Rattle.dns_framing.specs.PolledRequest.{request_answer}
use Rattle.dns_session.proofs.Exchanged.{in_exchanges}
use Rattle.dns_session.proofs.exchange.exchange_step.Goals as goal

pub returns-in-Turn : goal.returns-in-Turn
returns-in-Turn g c =
    let a = request_answer g.F.ReplyFuture.answer g.R.ReplyStream.answer in
    IfOk-weaker c.turn.result _ _ (λ outs turns answers. in_exchanges a answers c.args.client c.args.unfinished.now c.turn.new.unfinished outs.items c.args.event.now (rw c.in-Turn.is (turns answers))) c.turn.ensures

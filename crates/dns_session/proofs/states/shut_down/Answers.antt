use Rattle.std.proofs.lemmas.Result.{IfOk-weaker}
use Rattle.dns_framing.specs.PolledRequest.{request_answer}
use Rattle.dns_session.proofs.SawLaws.{shuts_open}
use Rattle.dns_session.proofs.states.shut_down.Goals as goal

pub returns-clause-follows : goal.returns-clause-follows
returns-clause-follows g c =
    let a = request_answer g.W.Future.ReplyFuture.answer g.W.Stream.ReplyStream.answer in
    IfOk-weaker c.carry_out.result _ _ (λ outs said answers. shuts_open a answers c.args.client c.args.state.now c.carry_out.new.state c.in-Open.connection c.wind_up-outcome.result outs.items c.in-Open.is (c.wind_up-outcome.ensures answers) said c.carry_out.ensures.state) c.carry_out.ensures.outs

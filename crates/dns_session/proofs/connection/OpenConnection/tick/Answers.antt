use Rattle.std.proofs.Common.{sym, ◌∙◌}
use Rattle.dns_framing.specs.PolledRequest.{request_answer}
use Rattle.dns_session.proofs.Ticked.{ticks_out, ticks_busy, ticks_early}
use Rattle.dns_session.proofs.connection.OpenConnection.tick.Goals as goal
use Rattle.dns_session.proofs.connection.OpenConnection.tick.Goals.{else-self-eq0-via-then-self-eq0+else-idle_timeout_expired, else-self-eq0-via-else-self-eq0}

pub returns-then-idle_timeout_expired : goal.returns-then-idle_timeout_expired
returns-then-idle_timeout_expired g c = λ answers.
    ticks_out (request_answer g.W.Future.ReplyFuture.answer g.W.Stream.ReplyStream.answer) answers c.args.self.now c.args.at c.if-self-eq0.true (sym c.idle_timeout_expired.ensures ∙ c.if-idle_timeout_expired.true)

pub returns : goal.returns
returns g c = λ answers.
    elim c.else-self-eq0.branch [
      | else-self-eq0-via-then-self-eq0+else-idle_timeout_expired w ↦ ticks_early (request_answer g.W.Future.ReplyFuture.answer g.W.Stream.ReplyStream.answer) answers c.args.self.now c.args.at (sym w.idle_timeout_expired.ensures ∙ w.if-idle_timeout_expired.false)
      | else-self-eq0-via-else-self-eq0 w ↦ ticks_busy (request_answer g.W.Future.ReplyFuture.answer g.W.Stream.ReplyStream.answer) answers c.args.self.now c.args.at w.if-self-eq0.false
    ]

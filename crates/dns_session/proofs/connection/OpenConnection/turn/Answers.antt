use Rattle.std.proofs.Common.{refl}
use Rattle.dns_framing.specs.PolledRequest.{request_answer}
use Rattle.dns_session.proofs.TurnedOpen.{turned}
use Rattle.dns_session.proofs.connection.OpenConnection.turn.Goals as goal

pub returns : goal.returns
returns g c = λ answers client s h. (
  refl,
  turned (request_answer g.W.Future.ReplyFuture.answer g.W.Stream.ReplyStream.answer) answers client c.args.at c.args.self.now c.turn_at.new.unfinished c.turn_at.new.invoker c.recount-self.result c.args.request c.in_ok-was.was' c.in_ok-was.now s (rw c.set_moment.ensures at c.in_ok-was.ensures.here) c.in_ok-was.ensures.others (rw c.count.ensures at c.recount-self.ensures) h,
)

use Rattle.dns_framing.specs.PolledRequest.{request_answer}
use Rattle.dns_session.proofs.KeptTurns.{turned_none}
use Rattle.dns_session.proofs.polling.turn_unfinished.Goals as goal

pub returns-in-None : goal.returns-in-None
returns-in-None g c = λ answers. rw c.in-None.is (turned_none (request_answer g.F.ReplyFuture.answer g.R.ReplyStream.answer) answers)

pub returns-then-done : goal.returns-then-done
returns-then-done g c = λ answers. rw c.in-Some.is (rw c.if-done.true at (c.in_ok-octets-in-Some.ensures.follows answers))

pub returns : goal.returns
returns g c = λ answers. rw c.in-Some.is (rw c.if-done.false at (c.in_ok-octets-in-Some.ensures.follows answers))

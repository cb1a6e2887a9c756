-- After a poll of its future a stream answers as the future does, or as the future's stream.
use Rattle.std.proofs.Common.{ℕ, suc, Result, IfOk, ◌≡◌, subst, sym}
use Rattle.std.specs.Prelude.{OnOk}
use Rattle.dns_stream.specs.Streams.{middleware_answer}
use Rattle.dns_stream.proofs.Followed.{followed_later, followed_now}
use Rattle.dns_stream.proofs.middleware.MiddlewareStreamReplyStream.poll_next.Goals as goal

pub returns-in-IdentityFuture-clause-now : goal.returns-in-IdentityFuture-clause-now
returns-in-IdentityFuture-clause-now g c =
    let f = g.F.ReplyFuture.answer in
    let r = g.R.ReplyStream.answer in
    let m = g.M.ReplyStream.answer in
    let o = g.O.ReplyStream.answer in
    subst (λ s. IfOk c.follow.result (λ p. p ≡ middleware_answer f r m o s 0)) (sym c.in-IdentityFuture.is)
    (followed_now f r m o c.in-IdentityFuture.future c.poll_future-polled.new.future c.follow.new.self c.poll_future-polled.result c.follow.result c.poll_future-polled.ensures.pending c.poll_future-polled.ensures.ready c.follow.ensures)

pub returns-in-IdentityFuture-clause-later : goal.returns-in-IdentityFuture-clause-later
returns-in-IdentityFuture-clause-later g c =
    let f = g.F.ReplyFuture.answer in
    let r = g.R.ReplyStream.answer in
    let m = g.M.ReplyStream.answer in
    let o = g.O.ReplyStream.answer in
    subst (λ s. OnOk c.follow.result ((k : ℕ) → middleware_answer f r m o c.follow.new.self k ≡ middleware_answer f r m o s (suc k))) (sym c.in-IdentityFuture.is)
    (followed_later f r m o c.in-IdentityFuture.future c.poll_future-polled.new.future c.follow.new.self c.poll_future-polled.result c.follow.result c.poll_future-polled.ensures.pending c.poll_future-polled.ensures.ready c.follow.ensures)

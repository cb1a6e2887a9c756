use Rattle.std.proofs.Common.{◌∙◌, arith, le_trans}
use Rattle.dns_accepts.proofs.Loops.{so_far_ended, so_far_lost, so_far_more, rose_where_lost, rose_where_more}
use Rattle.dns_accepts.proofs.acceptor.Acceptor.accept_all.Goals as goal

pub returns-in-Some-ended-clause-ran : goal.returns-in-Some-ended-clause-ran
returns-in-Some-ended-clause-ran g c = record {
  observed = so_far_ended c.in-Some-ended.end c.args.count c.loop.tally.taken _ _ _ _ _ _ _ _ _ _ _ c.loop.invariant.observed c.in-Some-ended.ensures.ended;
  rose = c.loop.invariant.rose;
  accepts_later = c.loop.invariant.accepts_later;
  starts_later = c.loop.invariant.starts_later;
}

pub returns-in_default-arrival-clause-ran : goal.returns-in_default-arrival-clause-ran
returns-in_default-arrival-clause-ran g c = record {
  observed = so_far_lost c.in_default-arrival.field-0 c.args.count c.loop.tally.taken c.in_default.ensures.ended.1.look _ _ _ _ _ _ _ _ _ _ _ _ _ _ _ _ c.loop.invariant.observed
      c.in_default.ensures.ended.1.called c.in_default.ensures.ended.1.shown (rw c.in_default-arrival.is at c.accept_once-next.ensures.brought) c.in_default.ensures.ended.0;
  rose = rose_where_lost c.loop.tally.faulted c.in_default-arrival.field-0 _ _ _ _ _ _ c.loop.invariant.rose
      (rw c.in_default-arrival.is at c.accept_once-next.ensures.accepts) (rw c.in_default-arrival.is at c.accept_once-next.ensures.starts);
  accepts_later = le_trans c.loop.invariant.accepts_later c.accept_once-next.ensures.accepts_later;
  starts_later = le_trans c.loop.invariant.starts_later c.accept_once-next.ensures.starts_later;
}

pub loop-preserved : goal.loop-preserved
loop-preserved g c = record {
  book = c.accept_once-next.ensures.same ∙ (c.ended.ensures.same ∙ c.loop.invariant.book);
  observed = so_far_more c.in-Ok.arrival c.args.count c.loop.tally.taken c.note.new.self.taken c.in_default.ensures.ended.1.look _ _ _ _ _ _ _ _ _ _ _ _ _ _ _ _ c.loop.invariant.observed
      c.in_default.ensures.ended.1.called c.in_default.ensures.ended.1.shown (rw c.in-Ok.is at c.accept_once-next.ensures.brought)
      c.in_default.ensures.ended.0 (omega (arith, c.ranges.count.fits)) c.note.ensures.taken;
  rose = rw c.note.ensures.faulted (rose_where_more c.loop.tally.faulted c.in-Ok.arrival _ _ _ _ _ _ c.loop.invariant.rose
      (rw c.in-Ok.is at c.accept_once-next.ensures.accepts) (rw c.in-Ok.is at c.accept_once-next.ensures.starts)
      c.accept_once-next.ensures.accepts_later c.accept_once-next.ensures.starts_later);
  accepts_later = le_trans c.loop.invariant.accepts_later c.accept_once-next.ensures.accepts_later;
  starts_later = le_trans c.loop.invariant.starts_later c.accept_once-next.ensures.starts_later;
}

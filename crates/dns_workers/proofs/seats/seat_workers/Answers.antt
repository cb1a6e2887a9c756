use Rattle.std.proofs.Common.{◌∙◌, ◌<◌, ap, get_or, length, add-one, arith}
use Rattle.std.proofs.lemmas.List.{get_or_default}
use Rattle.dns_book.specs.Seats.{first_half}
use Rattle.dns_workers.proofs.OneByOne.{one_turned}
use Rattle.dns_workers.proofs.seats.seat_workers.Goals as goal

pub loop-worker-preserved : goal.loop-worker-preserved
loop-worker-preserved g c =
    let i = c.loop-worker.worker-index in
    let now = c.loop-worker.workers in
    let w = get_or now i c.worker-item.result in
    let lt : i < length now = omega arith in
    record {
      left = rw add-one (c.take_half-seat.ensures.left ∙ ap first_half c.loop-worker.invariant.left);
      book = c.take_half-seat.ensures.same ∙ c.loop-worker.invariant.book;
      turned = one_turned _ i c.args.workers.now now w c.take_half-seat.new.self lt (get_or_default now i c.worker-item.result w lt) c.loop-worker.invariant.turned
          (rw (← c.loop-worker.invariant.left, ← c.loop-worker.invariant.book) c.take_half-seat.ensures.seat, c.take_half-seat.ensures.parts);
    }

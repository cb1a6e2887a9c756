use Rattle.std.proofs.Common.{◌≡◌, ap, length, arith}
use Rattle.std.proofs.lemmas.List.{with_items_is}
use Rattle.dns_workers.proofs.HostEndCauses.{rose_by}
use Rattle.dns_workers.proofs.ServedWorkers.{workers_served}
use Rattle.dns_workers.proofs.workers_host.WorkersHost.serve.Goals as goal

pub returns-clause-served : goal.returns-clause-served
returns-clause-served g c =
    let before = c.args.self.now.workers.items in
    let seated = c.seat_workers-first.new.workers in
    let served = c.both_beside-first.new.self.workers.items in
    let left = c.join_workers-seat.new.workers in
    let one : length c.as_mut_slice.result.now ≡ length before = ap length c.as_mut_slice.ensures.value in
    let two : length c.as_mut_slice-2.result.now ≡ length served = ap length c.as_mut_slice-2.ensures.value in
    let as_many : length seated ≡ length before = omega arith in
    let gave_all : length left ≡ length served = omega arith in
    let put = with_items_is c.args.self.now.workers seated (omega (arith, c.as_mut_slice.ensures.len)) in
    let kept = with_items_is c.both_beside-first.new.self.workers left (omega (arith, c.as_mut_slice-2.ensures.len)) in
    workers_served _ _ _ _ _ _ _ _ _ _ _ _ _ _ _ _ _ c.both_beside-first.result.1 c.both_beside-first.result.2 c.shutdown.result c.args.seat.book c.args.seat.known
    c.seat_workers-first.result.known c.both_beside-first.result.0.known c.join_workers-seat.result.0.known c.shutdown.new.seat.known c.args.self.now _
    c.both_beside-first.new.self.spawner seated _ served left as_many put c.both_beside-first.ensures.as_many kept gave_all
    (rw c.as_mut_slice.ensures.value at c.seat_workers-first.ensures.left) c.seat_workers-first.ensures.each
    (rw c.as_mut_slice.ensures.value at c.seat_workers-first.ensures.parts) c.both_beside-first.ensures.accepts c.both_beside-first.ensures.served
    c.join_all.ensures.given c.join_all.ensures.same (rw c.as_mut_slice-2.ensures.value at c.join_workers-seat.ensures.joined)
    (rw c.as_mut_slice-2.ensures.value at c.join_workers-seat.ensures.parts)
    (rw (c.as_mut_slice-2.ensures.value, c.end_of_accepts-end.ensures) at c.join_workers-seat.ensures.end) c.shutdown.ensures.called

pub returns-clause-cause : goal.returns-clause-cause
returns-clause-cause g c = rose_by _ _ _ _ _ _ _ _ _ _ _ _ _ _ _ _ _ _ _ _ _ (returns-clause-served g c)

use Rattle.dns_transport.proofs.dgram.serve_from.Goals as goal

pub returns-clause-observed : goal.returns-clause-observed
returns-clause-observed g c = rw (c.take_seat-seat.ensures, c.put_seat.ensures) c.serve_in_slot-seat.ensures.observed

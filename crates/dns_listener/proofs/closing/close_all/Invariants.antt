use Rattle.std.proofs.Common.{take}
use Rattle.std.specs.List.{All}
use Rattle.dns_book.specs.Causes.{HasShutdown}
use Rattle.dns_listener.proofs.closing.close_all.Given as goal

abbrev pub invariant-each : goal.invariant-each
invariant-each g l = All (λ r. HasShutdown r.seat.known.seen) (take l.one-index l.running)

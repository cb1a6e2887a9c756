use Rattle.std.proofs.Common.{◌≡◌, length}
use Rattle.dns_incoming.specs.Incoming.{taken_items}
use Rattle.dns_incoming.proofs.incoming.IncomingTransfer.take_items.Given as goal

abbrev pub invariant-each : goal.invariant-each
invariant-each l = taken_items l.self l.left ≡ taken_items l.fn.self l.fn.items

abbrev pub decreases-each : goal.decreases-each
decreases-each l = length l.left

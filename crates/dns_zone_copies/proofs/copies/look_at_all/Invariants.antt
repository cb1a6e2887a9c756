use Rattle.std.proofs.Common.{◌≡◌, drop, take}
use Rattle.dns_zone_copies.specs.Looking.{LooksAtAll}
use Rattle.dns_zone_copies.proofs.copies.look_at_all.Given as goal

abbrev pub invariant-each : goal.invariant-each
invariant-each g l = record {
  looked : LooksAtAll l.now (take l.secondary-index l.initial.secondaries) (take l.secondary-index l.secondaries) l.changed;
  rest : drop l.secondary-index l.secondaries ≡ drop l.secondary-index l.initial.secondaries;
}

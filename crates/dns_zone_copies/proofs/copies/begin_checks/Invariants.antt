use Rattle.std.proofs.Common.{◌≡◌, ◌≤◌, drop, take}
use Rattle.std.specs.List.{AllZip}
use Rattle.dns_zone_copies.specs.Looking.{MayBegin}
use Rattle.dns_zone_copies.proofs.copies.begin_checks.Given as goal

abbrev pub invariant-each : goal.invariant-each
invariant-each g l = record {
  room : l.left ≤ l.fn.room;
  begun : AllZip (MayBegin l.now) (take l.place l.initial.secondaries) (take l.place l.secondaries);
  rest : drop l.place l.secondaries ≡ drop l.place l.initial.secondaries;
}

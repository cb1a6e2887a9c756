use Rattle.std.proofs.Common.{◌≡◌, drop, map, take}
use Rattle.std.specs.List.{list_any}
use Rattle.dns_zone_copies.specs.Looking.{has_obsolete_copy, without_obsolete_copy}
use Rattle.dns_zone_copies.proofs.copies.discard_all.Given as goal

abbrev pub invariant-each : goal.invariant-each
invariant-each g l = record {
  any : l.any ≡ list_any (has_obsolete_copy l.now) (take l.secondary-index l.initial.secondaries);
  done : take l.secondary-index l.secondaries ≡ map (without_obsolete_copy l.now) (take l.secondary-index l.initial.secondaries);
  rest : drop l.secondary-index l.secondaries ≡ drop l.secondary-index l.initial.secondaries;
}

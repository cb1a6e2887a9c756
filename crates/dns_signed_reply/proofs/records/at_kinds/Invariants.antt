use Rattle.std.proofs.Common.{◌≡◌, take}
use Rattle.dns_zone.specs.Places.{at_places}
use Rattle.dns_zone_tree.specs.Kinds.{places_of}
use Rattle.dns_signed_reply.proofs.records.at_kinds.Given as goal

abbrev pub invariant-each : goal.invariant-each
invariant-each l = l.found.items ≡ at_places l.records (places_of l.rtype (take l.kind-index l.kinds))

use Rattle.std.proofs.Common.{◌≡◌, map, take}
use Rattle.dns_zone.specs.Places.{at_places}
use Rattle.dns_zone_tree.specs.Kinds.{places_of}
use Rattle.dns_zone_tree.specs.Wildcards.{given_as}
use Rattle.dns_signed_reply.proofs.records.at_kinds_as.Given as goal

abbrev pub invariant-each : goal.invariant-each
invariant-each l = l.found.items ≡ map (given_as l.name) (at_places l.records (places_of l.rtype (take l.kind-index l.kinds)))

use Rattle.std.proofs.Common.{◌≡◌, drop}
use Rattle.dns_zone.specs.Places.{at_places}
use Rattle.dns_zone_tree.specs.Kinds.{places_of}
use Rattle.dns_signed_zone.specs.SignedZones.{head_of}
use Rattle.dns_signed_zone.proofs.signed_zone.first_server.Given as goal

abbrev pub invariant-each : goal.invariant-each
invariant-each l = head_of (at_places l.records (places_of 2 (drop l.kind-index l.kinds))) ≡ head_of (at_places l.records (places_of 2 l.kinds))

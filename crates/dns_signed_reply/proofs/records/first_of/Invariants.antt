use Rattle.std.proofs.Common.{◌≡◌, drop}
use Rattle.dns_zone.specs.Places.{at_places}
use Rattle.dns_zone_tree.specs.Kinds.{places_of}
use Rattle.dns_name_server.specs.Steps.{head_of}
use Rattle.dns_signed_reply.proofs.records.first_of.Given as goal

abbrev pub invariant-each : goal.invariant-each
invariant-each l = head_of (at_places l.records (places_of l.rtype (drop l.kind-index l.kinds))) ≡ head_of (at_places l.records (places_of l.rtype l.kinds))

use Rattle.std.proofs.Common.{◌≡◌, take}
use Rattle.dns_zone.specs.Places.{at_places}
use Rattle.dns_signed_reply.proofs.records.at_places.Given as goal

abbrev pub invariant-each : goal.invariant-each
invariant-each l = l.found.items ≡ at_places l.records (take l.place-index l.places)

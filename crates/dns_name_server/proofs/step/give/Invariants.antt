use Rattle.std.proofs.Common.{◌≡◌, ◌++◌, map, take}
use Rattle.dns_base.specs.Records.{record_of}
use Rattle.dns_zone.specs.Places.{at_places}
use Rattle.dns_zone_tree.specs.Kinds.{places_of}
use Rattle.dns_zone_tree.specs.Wildcards.{given_as}
use Rattle.dns_name_server.proofs.step.give.Given as goal

abbrev pub invariant-each : goal.invariant-each
invariant-each l = l.given ≡ l.fn.given ++ map record_of (map (given_as l.name) (at_places l.records (places_of l.rtype (take l.kind-index l.kinds))))

use Rattle.std.proofs.Common.{◌≡◌, ◌++◌, map, take}
use Rattle.dns_base.specs.Records.{record_of}
use Rattle.dns_zone.specs.Places.{at_places}
use Rattle.dns_zone_tree.specs.Kinds.{places_of}
use Rattle.dns_signed_reply.specs.DirectReplies.{covering}
use Rattle.dns_signed_reply.proofs.placed.write_all_placed.Given as goal

abbrev pub invariant-each : goal.invariant-each
invariant-each l = l.into ≡ l.fn.into ++ map record_of (covering l.signed (at_places l.records (places_of 46 (take l.kind-index l.kinds))))

use Rattle.std.proofs.Common.{◌≡◌, ◌++◌, map, take}
use Rattle.std.specs.List.{filter}
use Rattle.dns_base.specs.Records.{data_type}
use Rattle.dns_zone.specs.Places.{at_places}
use Rattle.dns_zone_tree.specs.Kinds.{places_of}
use Rattle.dns_denial.specs.Signed.{is_signature}
use Rattle.dns_signed_reply.specs.SignedReplies.{timed}
use Rattle.dns_signed_reply.proofs.rrsigs.add_all_placed.Given as goal

abbrev pub invariant-each : goal.invariant-each
invariant-each l =
    l.into.items ≡ l.fn.into.items ++ map (timed l.signed) (filter (is_signature (data_type l.signed.rdata)) (at_places l.records (places_of 46 (take l.kind-index l.kinds))))

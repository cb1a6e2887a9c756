use Rattle.std.proofs.Common.{◌≡◌, drop}
use Rattle.std.specs.List.{list_all}
use Rattle.dns_base.specs.Records.{data_type}
use Rattle.dns_message.specs.declared.record.Record.{Record}
use Rattle.dns_zone.specs.Places.{at_places}
use Rattle.dns_zone_tree.specs.Kinds.{places_of}
use Rattle.dns_hashed_zone.specs.Meetings.{is_type_listed}
use Rattle.dns_hashed_zone.proofs.check.are_listed.Given as goal

abbrev pub invariant-each : goal.invariant-each
invariant-each l =
    list_all (λ (r : Record). is_type_listed l.cut l.nsec (data_type r.rdata)) (at_places l.records (places_of 255 (drop l.kind-index l.kinds)))
    ≡ list_all (λ (r : Record). is_type_listed l.cut l.nsec (data_type r.rdata)) (at_places l.records (places_of 255 l.kinds))

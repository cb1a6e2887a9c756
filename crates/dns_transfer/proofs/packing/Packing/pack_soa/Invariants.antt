use Rattle.std.proofs.Common.{◌≡◌, List, ◌++◌, map, drop}
use Rattle.std.specs.List.{filter}
use Rattle.dns_base.specs.Msg.{ResourceRecord}
use Rattle.dns_base.specs.Records.{record_of}
use Rattle.dns_zone.specs.Owned.{is_of}
use Rattle.dns_transfer.specs.Packings.{packed}
use Rattle.dns_transfer.proofs.packing.Packing.pack_soa.Given as goal

abbrev pub invariant-each : goal.invariant-each
invariant-each l = (rest : List ResourceRecord) → packed l.self (map record_of (filter (is_of 6) (drop l.record-index l.records)) ++ rest) ≡ packed l.fn.self (map record_of (filter (is_of 6) l.records) ++ rest)

use Rattle.std.proofs.Common.{◌≡◌, List, ◌++◌, map, drop}
use Rattle.std.specs.List.{filter}
use Rattle.dns_base.specs.Msg.{ResourceRecord}
use Rattle.dns_base.specs.Records.{record_of}
use Rattle.dns_transfer.specs.Packings.{packed}
use Rattle.dns_transfer.specs.Transfers.{is_no_soa}
use Rattle.dns_transfer.proofs.packing.Packing.pack_others.Given as goal

abbrev pub invariant-each : goal.invariant-each
invariant-each l = (rest : List ResourceRecord) → packed l.self (map record_of (filter (is_no_soa) (drop l.record-index l.records)) ++ rest) ≡ packed l.fn.self (map record_of (filter (is_no_soa) l.records) ++ rest)

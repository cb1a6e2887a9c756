-- Records that are kept as they are written (RFC 1035, section 4.1.3), names uncompressed, with their number.
use Rattle.std.specs.Prelude.{ℕ, ◌≡◌, List, length}
use Rattle.std.specs.List.{AllByRecursion}
use Rattle.dns_base.specs.Msg.{HasOwner}
use Rattle.dns_base.specs.Replaced.{records_at, spelling}

-- octets that are that many records and nothing else
pub record AreWireRecords (o : List ℕ) (count : ℕ) : Type 0 where
  pub many : length (records_at o count 0) ≡ count
  pub named : AllByRecursion HasOwner (records_at o count 0)
  pub whole : o ≡ spelling (records_at o count 0)

-- Bunches that are being made: those that are done, and the one that is begun.
use Rattle.std.specs.Prelude.{ℕ, ◌≡◌, ◌≤◌, List, ◌++◌, ◌∷◌, [], length, map, Bool}
use Rattle.std.specs.List.{filter}
use Rattle.dns_base.specs.Msg.{ResourceRecord}
use Rattle.dns_base.specs.Records.{record_of}
use Rattle.dns_base.specs.Replaced.{spelling}
use Rattle.dns_message.specs.declared.record.Record.{Record}
use Rattle.dns_transfer.specs.Transfers.{bunches}

pub record Packing : Type 0 where
  pub done : List (List ResourceRecord)
  pub current : List ResourceRecord

-- the bunches, once these records are packed as well
abbrev pub packed : Packing → List ResourceRecord → List (List ResourceRecord)
packed p rest = p.done ++ bunches p.current rest

-- how many octets the bunch that is begun takes
pub record IsSized (current : List ResourceRecord) (size : ℕ) : Type 0 where
  pub value : size ≡ length (spelling current)
  pub few : size ≤ 65800

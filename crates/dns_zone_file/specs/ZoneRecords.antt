-- What stands in a zone file.
use Rattle.std.specs.Prelude.{ℕ, ◌≡◌, ◌≤◌, ◌<◌, false, length}
use Rattle.hex.specs.Hex.{IsBytes}
use Rattle.dns_name.specs.Labels.{IsName}
use Rattle.dns_message.specs.TypedData.{IsTyped}
use Rattle.dns_message.specs.Records.{data_octets, data_type}
use Rattle.dns_message.specs.declared.record.Record.{Record}
use Rattle.dns_presentation.specs.Types.{is_meta}
use Rattle.dns_zone_file.specs.Lines.{HoldOctets}

-- a record of class IN, of a type that is one of data
pub record IsZoneRecord (r : Record) : Type 0 where
  pub owner : IsName r.owner
  pub octets : HoldOctets r.owner
  pub class : r.class ≡ 1
  pub ttl : r.ttl < 4294967296
  pub rtype : data_type r.rdata < 65536
  pub no_meta : is_meta (data_type r.rdata) ≡ false
  pub typed : IsTyped r.rdata
  pub few : length (data_octets r.rdata) ≤ 65535
  pub bytes : IsBytes (data_octets r.rdata)

-- The numbers of a zone's start (RFC 1035, section 3.3.13).
use Rattle.std.specs.Prelude.{ℕ, List, ◌++◌, Ok}
use Rattle.dns_name.specs.Place.{Read, four}
use Rattle.dns_message.specs.declared.zone.ZoneNumbers.{ZoneNumbers}
use Rattle.dns_message.specs.Read.{◌>>=◌, four_at}

abbrev pub zone_octets : ZoneNumbers → List ℕ
zone_octets z = four z.serial.0 ++ (four z.refresh ++ (four z.retry ++ (four z.expire ++ four z.minimum)))

-- two TTLs
unfoldable pub ttls_at : List ℕ → ℕ → Read (ℕ × ℕ)
ttls_at o at = do
  first ← four_at o at
  second ← four_at o first.1
  Ok ((first.0, second.0), second.1)

unfoldable pub zone_at : List ℕ → ℕ → Read ZoneNumbers
zone_at o at = do
  serial ← four_at o at
  early ← ttls_at o serial.1
  late ← ttls_at o early.1
  Ok (record { serial = record { 0 = serial.0 }; refresh = early.0.0; retry = early.0.1; expire = late.0.0; minimum = late.0.1 }, late.1)

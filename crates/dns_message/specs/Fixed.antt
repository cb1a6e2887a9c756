-- What stands between the owner and the data of a record (RFC 1035, section 3.2.1): its type, its class, its TTL and how many
-- octets its data takes.
use Rattle.std.specs.Prelude.{ℕ, List, ◌++◌, length, Ok}
use Rattle.dns_name.specs.Place.{Read, two, four}
use Rattle.dns_message.specs.declared.fixed.FixedFields.{FixedFields}
use Rattle.dns_message.specs.Msg.{ResourceRecord}
use Rattle.dns_message.specs.Read.{◌>>=◌, two_at, four_at}

abbrev pub fixed_octets : FixedFields → List ℕ
fixed_octets f = two f.rtype ++ (two f.class ++ (four f.ttl ++ two f.size))

unfoldable pub fixed_at : List ℕ → ℕ → Read FixedFields
fixed_at o at = do
  rtype ← two_at o at
  class ← two_at o rtype.1
  ttl ← four_at o class.1
  size ← two_at o ttl.1
  Ok (record { rtype = rtype.0; class = class.0; ttl = ttl.0; size = size.0 }, size.1)

-- the fixed fields of a record
abbrev pub fixed_of : ResourceRecord → FixedFields
fixed_of r = record { rtype = r.rtype; class = r.class; ttl = r.ttl; size = length r.rdata }

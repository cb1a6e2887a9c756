-- Records that have no room in a reply.
use Rattle.std.specs.Prelude.{ℕ, Bool, length, nat_lt}
use Rattle.dns_base.specs.Records.{record_of}
use Rattle.dns_base.specs.Wire.{record_octets}
use Rattle.dns_message.specs.declared.record.Record.{Record}

-- that many octets at most for one record: then a reply has room for it beside a question and an OPT record
abbrev pub record_limit : ℕ
record_limit = 65000

abbrev pub is_long : Record → Bool
is_long r = nat_lt record_limit (length (record_octets (record_of r)))

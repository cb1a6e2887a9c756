-- A reply that says that recursion is available (RFC 1035, section 4.1.1).
use Rattle.std.specs.Prelude.{true}
use Rattle.dns_base.specs.Msg.{Msg}

abbrev pub offering : Msg → Msg
offering m = record m { header = record m.header { ra = true } }

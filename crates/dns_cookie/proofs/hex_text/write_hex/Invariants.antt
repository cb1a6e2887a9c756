use Rattle.std.proofs.Common.{take}
use Rattle.std.specs.Fmt.{HasWritten, IsPlainFormatter}
use Rattle.hex.specs.Hex.{encode_upper}
use Rattle.dns_cookie.proofs.hex_text.write_hex.Given as goal

abbrev pub invariant-octets : goal.invariant-octets
invariant-octets g l = IsPlainFormatter l.initial.f → HasWritten g.W.Write.write_str_gives l.initial.f (encode_upper (take l.octet-index l.octets)) l.f

use Rattle.std.proofs.Common.{rules, sym}
use Rattle.dns_cookie.proofs.HexText.{octet_text}
use Rattle.dns_cookie.proofs.hex_text.write_octet.Goals as goal

pub returns : goal.returns
returns g c = rw (sym (octet_text c.args.octet c.ranges.octet.fits)) (search rules)

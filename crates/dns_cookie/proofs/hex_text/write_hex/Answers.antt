use Rattle.std.proofs.Common.{rules}
use Rattle.std.proofs.Output.{has_written_append, has_written_of_eq}
use Rattle.hex.specs.Hex.{encode_with}
use Rattle.dns_cookie.proofs.HexText.{text_more}
use Rattle.dns_cookie.proofs.hex_text.write_hex.Goals as goal

pub octets-init : goal.octets-init
unfolding encode_with
octets-init g c = search rules

pub octets-preserved : goal.octets-preserved
octets-preserved g c = λ plain.
    has_written_of_eq _ _ _ _ _ (text_more c.args.octets.now c.octets.octet-index c.octets-test.true)
    (has_written_append _ _ _ _ _ _ (c.octets.invariant plain) (search rules))

use Rattle.std.proofs.Common.{[]}
use Rattle.dns_base.specs.Wire.{wire}
use Rattle.dns_signing.specs.SignedReplies.{code_of, signed_message}
use Rattle.dns_signing.proofs.Verifying.{first_signs}
use Rattle.dns_signing.proofs.laws.signed_replies_verify.Goals as goal

pub returns : goal.returns
returns c = λ p m least now at bare long.
    c.signed_messages_verify.ensures p.key p.stamp m p.prior [] (wire (signed_message p (code_of p m) m)) (code_of p m) least now bare at.named long at.timely.0 at.timely.1 (first_signs p m at.first)

-- The room of a reply by the hint that a request keeps.
use Rattle.std.proofs.Common.{◌≡◌, ℕ, false, Option, refl, ap, ◌∙◌}
use Rattle.dns_service.specs.declared.message.TransportSpecificContext.{TransportSpecificContext}
use Rattle.dns_service.specs.declared.message.TransportSpecificContext.TheVariants.{Udp, NonUdp}
use Rattle.dns_service.specs.Req.{Req}
use Rattle.dns_service.specs.Transport.{hint_of, hinted, limit, limit_over}
use Rattle.dns_tsig.specs.Found.{Signed}
use Rattle.dns_tsig.specs.Keys.{KeyParts}
use Rattle.dns_signing.specs.Layer.{Policy, clock, signer_of}
use Rattle.dns_signing.specs.Room.{room_of}
use Rattle.dns_signing.specs.SignedReplies.{SignerParts}

same_limit : (t : TransportSpecificContext) (h : Option ℕ) → limit_over t (limit (hint_of (hinted h t))) ≡ limit_over t (limit h)
same_limit (Udp before) h = refl
same_limit (NonUdp timeout) h = refl

abbrev with_room : {M : Type 0} → Policy → KeyParts → Req M → Signed → Option ℕ → SignerParts
with_room p k r s y = record {
  key = k;
  stamp = record { time = clock r; fudge = p.fudge; error = 0 };
  room = room_of k y;
  prior = s.tsig.mac;
  begun = false;
  request = s.bare;
  ended = false;
}

pub signer_kept : {M : Type 0} (p : Policy) (k : KeyParts) (r : Req M) (s : Signed) (x h : Option ℕ) (t : TransportSpecificContext) → x ≡ hint_of (hinted h t) → t ≡ r.transport → signer_of p k r s x ≡ signer_of p k r s h
signer_kept p k r s x h t e g =
    let all : x ≡ hint_of (hinted h r.transport) = e ∙ ap (λ (y : TransportSpecificContext). hint_of (hinted h y)) g in
    ap (λ (y : Option ℕ). signer_of p k r s y) all ∙ ap (λ (y : Option ℕ). with_room p k r s y) (same_limit r.transport h)

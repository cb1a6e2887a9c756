-- What the layer answers, by what a request's octets are.
use Rattle.std.proofs.Common.{◌≡◌, ℕ, [], Option, Some, None, Ok, ap, ◌∙◌}
use Rattle.dns_service.specs.Answer.{Answer}
use Rattle.dns_service.specs.Req.{Req, with_metadata}
use Rattle.dns_tsig.specs.Found.{Signed, found}
use Rattle.dns_tsig.specs.Keys.{KeyParts, key_for}
use Rattle.dns_tsig.specs.Verdicts.{message_refusal}
use Rattle.dns_signing.specs.Layer.{Policy, by_key, by_octets, clock, refusal_of, signer_of, sole, taken_off, tsig_answer, verified}
use Rattle.dns_signing.specs.Refused.{unknown_reply}
use Rattle.dns_signing.specs.SignedReplies.{signed_answers}

module _ (answer : Req (Option ℕ) → ℕ → Answer) (hint : Req (Option ℕ) → Option ℕ) (p : Policy) (r : Req (Unit {0})) where
  pub as_before : (k : ℕ) → found r.octets ≡ Ok None → tsig_answer answer hint p r k ≡ answer (with_metadata r None) k
  as_before k e = ap (λ x. by_octets answer hint p r x k) e

  pub signed_back : (s : Signed) (n : ℕ) (key : KeyParts) (k : ℕ) → found r.octets ≡ Ok (Some s) → key_for p.keys s.tsig ≡ Some (n, key) → message_refusal key p.least (clock r) [] s ≡ None → tsig_answer answer hint p r k ≡ signed_answers (answer (taken_off r s n)) (signer_of p key r s (hint (taken_off r s n))) k
  signed_back s n key k e f h = ap (λ x. by_octets answer hint p r x k) e ∙ (ap (λ x. by_key answer hint p r s x k) f ∙ ap (λ x. verified answer hint p r s n key x k) h)

  pub unknown : (s : Signed) (k : ℕ) → found r.octets ≡ Ok (Some s) → key_for p.keys s.tsig ≡ None → tsig_answer answer hint p r k ≡ sole (unknown_reply (refusal_of p.fudge r s)) k
  unknown s k e f = ap (λ x. by_octets answer hint p r x k) e ∙ ap (λ x. by_key answer hint p r s x k) f

-- The reply that refuses a request, as it is made.
use Rattle.std.proofs.Common.{◌≡◌, ℕ, ◌-◌, List, ap, ◌∙◌}
use Rattle.dns_base.specs.Msg.{Msg, ResourceRecord}
use Rattle.dns_base.specs.Wire.{wire}
use Rattle.dns_tsig.specs.declared.error.TsigError.{TsigError}
use Rattle.dns_tsig.specs.Keys.{KeyParts}
use Rattle.dns_tsig.specs.Refusals.{other_octets, signed_refusal, unsigned_refusal}
use Rattle.dns_tsig.specs.Tsig.{Tsig, six, tsig_record}
use Rattle.dns_signing.specs.ErrorResponse.{error_within}
use Rattle.dns_signing.specs.Refused.{RefusalParts, signed_reply, unsigned_reply, with_record_within, with_signed, with_unsigned}
use Rattle.dns_signing.specs.Room.{size_with, unsigned_size}

-- a record of two is pushed, by what each part of it is
pub unsigned_made : (p : RefusalParts) (e : TsigError) (size now n : ℕ) (m new : Msg) (o : List ℕ) (t : Tsig) (r : ResourceRecord) →
    new ≡ with_record_within size m r → size ≡ p.size → r ≡ tsig_record (unsigned_refusal e now p.fudge t o) → o ≡ wire m → t ≡ p.tsig → now ≡ p.now →
    m ≡ error_within (p.size - n) p.octets 9 → n ≡ unsigned_size t → new ≡ unsigned_reply p e
unsigned_made p e size now n m new o t r pushed sized made octets tsig clock begun taken =
    let here : r ≡ tsig_record (unsigned_refusal e p.now p.fudge p.tsig (wire m)) =
    made ∙ (ap (λ (x : List ℕ). tsig_record (unsigned_refusal e now p.fudge t x)) octets ∙
    (ap (λ (x : Tsig). tsig_record (unsigned_refusal e now p.fudge x (wire m))) tsig ∙
    ap (λ (x : ℕ). tsig_record (unsigned_refusal e x p.fudge p.tsig (wire m))) clock)) in
    let room : m ≡ error_within (p.size - unsigned_size p.tsig) p.octets 9 = begun ∙ ap (λ (x : ℕ). error_within (p.size - x) p.octets 9) (taken ∙ ap unsigned_size tsig) in
    pushed ∙ (ap (λ (x : ℕ). with_record_within x m r) sized ∙ (ap (with_record_within p.size m) here ∙ ap (with_unsigned p e) room))

pub signed_made : (p : RefusalParts) (k : KeyParts) (e : TsigError) (size now n : ℕ) (m new : Msg) (o : List ℕ) (t : Tsig) (r : ResourceRecord) →
    new ≡ with_record_within size m r → size ≡ p.size → r ≡ tsig_record (signed_refusal k e now p.fudge t o) → o ≡ wire m → t ≡ p.tsig → now ≡ p.now →
    m ≡ error_within (p.size - n) p.octets 9 → n ≡ size_with k (other_octets e (six p.now)) → new ≡ signed_reply p k e
signed_made p k e size now n m new o t r pushed sized made octets tsig clock begun taken =
    let here : r ≡ tsig_record (signed_refusal k e p.now p.fudge p.tsig (wire m)) =
    made ∙ (ap (λ (x : List ℕ). tsig_record (signed_refusal k e now p.fudge t x)) octets ∙
    (ap (λ (x : Tsig). tsig_record (signed_refusal k e now p.fudge x (wire m))) tsig ∙
    ap (λ (x : ℕ). tsig_record (signed_refusal k e x p.fudge p.tsig (wire m))) clock)) in
    let room : m ≡ error_within (p.size - size_with k (other_octets e (six p.now))) p.octets 9 = begun ∙ ap (λ (x : ℕ). error_within (p.size - x) p.octets 9) taken in
    pushed ∙ (ap (λ (x : ℕ). with_record_within x m r) sized ∙ (ap (with_record_within p.size m) here ∙ ap (with_signed p k e) room))

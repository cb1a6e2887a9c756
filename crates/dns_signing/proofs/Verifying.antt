-- What a client makes of a signed reply.
use Rattle.std.proofs.Common.{◌≡◌, ℕ, ◌+◌, ◌*◌, ◌/◌, ◌%◌, Bool, false, List, [], ◌∷◌, ◌++◌, length, take, ap, sym, ◌∙◌, arith, length-append, append_assoc, append-nil}
use Rattle.std.specs.List.{flat_map}
use Rattle.std.proofs.lemmas.List.Concat.{flat_map-append}
use Rattle.dns_name.specs.Place.{two}
use Rattle.dns_base.specs.Msg.{Msg, ResourceRecord}
use Rattle.dns_base.specs.Sections.{field}
use Rattle.dns_base.specs.Wire.{body, question_octets, record_octets, wire}
use Rattle.dns_tsig.specs.Sending.{code_behind}
use Rattle.dns_tsig.specs.Signed.{Signs, tsig_by, with_tsig}
use Rattle.dns_tsig.specs.Streams.{chain_at}
use Rattle.dns_tsig.specs.Tsig.{Tsig, tsig_record}
use Rattle.dns_signing.specs.SignedReplies.{SignerParts, code_of, signed_message}

halves : (n : ℕ) → 256 * (n / 256) + n % 256 ≡ n
halves n = omega arith

-- a record after all others
body_more : (m : Msg) (r : ResourceRecord) → body (record m { additional = m.additional ++ r ∷ [] }) ≡ body m ++ record_octets r
body_more m r =
    let fq = flat_map question_octets m.questions in
    let fa = flat_map record_octets m.answers in
    let fu = flat_map record_octets m.authority in
    let fd = flat_map record_octets m.additional in
    let o = record_octets r in
    let last : flat_map record_octets (m.additional ++ r ∷ []) ≡ fd ++ o = flat_map-append record_octets m.additional (r ∷ []) ∙ ap (λ (xs : List ℕ). fd ++ xs) (append-nil o) in
    let joined : (fq ++ (fa ++ (fu ++ fd))) ++ o ≡ fq ++ (fa ++ (fu ++ (fd ++ o))) = append_assoc fq (fa ++ (fu ++ fd)) o ∙ ap (λ (xs : List ℕ). fq ++ xs) (append_assoc fa (fu ++ fd) o ∙ ap (λ (xs : List ℕ). fa ++ xs) (append_assoc fu fd o)) in
    ap (λ (xs : List ℕ). fq ++ (fa ++ (fu ++ xs))) last ∙ sym joined

pub wire_more : (m : Msg) (t : Tsig) → wire (record m { additional = m.additional ++ tsig_record t ∷ [] }) ≡ with_tsig (wire m) t
unfolding wire
wire_more m t =
    let r = tsig_record t in
    let more : length (m.additional ++ r ∷ []) ≡ field 10 (wire m) + 1 = omega (arith, length-append m.additional (r ∷ []), halves (length m.additional)) in
    ap (λ (n : ℕ). take 10 (wire m) ++ (two n ++ body (record m { additional = m.additional ++ r ∷ [] }))) more ∙ ap (λ (xs : List ℕ). take 10 (wire m) ++ (two (field 10 (wire m) + 1) ++ xs)) (body_more m r)

-- the first reply is signed after the MAC of the request
pub first_signs : (p : SignerParts) (m : Msg) → p.begun ≡ false → Signs p.key p.prior p.stamp [] (wire m) (wire (signed_message p (code_of p m) m)) (code_of p m)
first_signs p m e = record {
  code = ap (λ (b : Bool). code_behind p.key (chain_at p.prior b) p.stamp (wire m)) e;
  octets = wire_more m (tsig_by p.key p.stamp (wire m) [] (code_of p m));
}

-- How long a message is with an OPT record more.
use Rattle.std.proofs.Common.{◌≡◌, ℕ, ◌+◌, List, [], ◌∷◌, ◌++◌, length, ap, ◌∙◌, arith, length-append, append-nil}
use Rattle.std.specs.List.{flat_map}
use Rattle.std.proofs.lemmas.List.Concat.{flat_map-append}
use Rattle.dns_base.specs.Msg.{ResourceRecord}
use Rattle.dns_base.specs.Wire.{question_octets, record_octets, wire}
use Rattle.dns_base.specs.Built.{Built, with_additional}
use Rattle.dns_opt.specs.OptRecords.{OptHead, opt_record, opt_state}

more_records : (rs : List ResourceRecord) (r : ResourceRecord) → length (flat_map record_octets (rs ++ r ∷ [])) ≡ length (flat_map record_octets rs) + length (record_octets r)
more_records rs r = ap length (flat_map-append record_octets rs (r ∷ []) ∙ ap (λ t. flat_map record_octets rs ++ t) (append-nil (record_octets r))) ∙ length-append (flat_map record_octets rs) (record_octets r)

record_length : (b : Built) (r : ResourceRecord) → length (wire (with_additional b r).message) ≡ length (wire b.message) + length (record_octets r)
unfolding wire
record_length b r =
    let m = b.message in
    let fq = flat_map question_octets m.questions in
    let fa = flat_map record_octets m.answers in
    let fn = flat_map record_octets m.authority in
    let fr = flat_map record_octets m.additional in
    let more = flat_map record_octets (m.additional ++ r ∷ []) in
    let a = length-append fq (fa ++ (fn ++ fr)) in
    let b = length-append fa (fn ++ fr) in
    let c = length-append fn fr in
    let a' = length-append fq (fa ++ (fn ++ more)) in
    let b' = length-append fa (fn ++ more) in
    let c' = length-append fn more in
    let d = more_records m.additional r in
    omega arith

-- an OPT record takes eleven octets and its options
pub opt_grows : (h : OptHead) (o : List ℕ) (b : Built) → length (wire (with_additional b (opt_record (opt_state h o))).message) ≡ length (wire b.message) + length o + 11
opt_grows h o b = omega (arith, record_length b (opt_record (opt_state h o)))

-- What is written is read again.
use Rattle.std.proofs.Common.{Bool, ◌≡◌, ℕ, ◌+◌, ◌*◌, ◌/◌, ◌%◌, ◌≤◌, ◌<◌, List, [], ◌∷◌, ◌++◌, length, drop, Ok, refl, ap, sym, ◌∙◌, arith, true, false, nat_lt, length-append, append_assoc, append-nil}
use Rattle.std.specs.List.{flat_map, AllByRecursion}
use Rattle.std.proofs.lemmas.List.{drop-drop}
use Rattle.std.proofs.Math.Seq.{take-append_seam, drop-append_seam}
use Rattle.std.proofs.lemmas.Bool.Decides.{nat_tests}
use Rattle.dns_name.specs.Place.{Read, two, four}
use Rattle.dns_name.specs.Labels.{spell, IsName}
use Rattle.dns_name.proofs.Spelt.{name_spelt}
use Rattle.dns_message.specs.declared.header.Header.{Header}
use Rattle.dns_message.specs.declared.question.Question.{Question}
use Rattle.dns_message.specs.Header.{bit, low_bit, header_of, header_octets, IsHeader}
use Rattle.dns_message.specs.Msg.{Msg, ResourceRecord, IsMessage, HasName, HasOwner}
use Rattle.dns_message.specs.Wire.{question_octets, record_octets, counts, body, wire}
use Rattle.dns_message.specs.Read.{two_at, four_at, octets_at, question_at}
use Rattle.dns_message.specs.declared.fixed.FixedFields.{FixedFields}
use Rattle.dns_message.specs.Fixed.{fixed_at, fixed_octets, fixed_of}
use Rattle.dns_message.specs.Standing.{Standing, data_at, standing_at, record_at}
use Rattle.dns_message.specs.Sections.{items_from, questions_of, answers_of, authority_of, additional_of, message_of}

-- what lies after octets at a place
pub past : (o a more : List ℕ) (at : ℕ) → drop at o ≡ a ++ more → drop (at + length a) o ≡ more
past o a more at h = sym (drop-drop (length a) at o) ∙ (ap (drop (length a)) h ∙ drop-append_seam a more)

pub two_written : (o more : List ℕ) (at n : ℕ) → drop at o ≡ two n ++ more → two_at o at ≡ Ok (n, at + 2)
unfolding two_at
two_written o more at n h =
    let e : 256 * (n / 256) + n % 256 ≡ n = omega arith in
    rw h (ap (λ x. Ok (x, at + 2)) e)

pub four_written : (o more : List ℕ) (at n : ℕ) → drop at o ≡ four n ++ more → four_at o at ≡ Ok (n, at + 4)
unfolding four_at
four_written o more at n h =
    let e : 65536 * (n / 65536) + n % 65536 ≡ n = omega arith in
    let k : at + 2 + 2 ≡ at + 4 = omega arith in
    let a = two_written o (two (n % 65536) ++ more) at (n / 65536) h in
    let b = two_written o more (at + 2) (n % 65536) (past o (two (n / 65536)) (two (n % 65536) ++ more) at h) in
    rw (a, b, e, k) refl

pub octets_written : (o more d : List ℕ) (at : ℕ) → drop at o ≡ d ++ more → octets_at (length d) o at ≡ Ok (d, at + length d)
unfolding octets_at
octets_written o more d at h =
    let e : nat_lt (length (d ++ more)) (length d) ≡ false = grind (arith, nat_tests, length-append {A = ℕ}) in
    rw (h, e, take-append_seam) refl

pub question_written : (q : Question) (o more : List ℕ) (at : ℕ) → IsName q.qname → drop at o ≡ question_octets q ++ more → question_at o at ≡ Ok (q, at + length (question_octets q))
unfolding question_at
question_written q o more at n h =
    let s = spell q.qname in
    let h0 : drop at o ≡ s ++ (two q.qtype ++ (two q.qclass ++ more)) = h ∙ append_assoc s (two q.qtype ++ two q.qclass) more in
    let a = name_spelt q.qname o (two q.qtype ++ (two q.qclass ++ more)) at h0 n in
    let h1 = past o s (two q.qtype ++ (two q.qclass ++ more)) at h0 in
    let b = two_written o (two q.qclass ++ more) (at + length s) q.qtype h1 in
    let h2 = past o (two q.qtype) (two q.qclass ++ more) (at + length s) h1 in
    let c = two_written o more (at + length s + 2) q.qclass h2 in
    let e : at + length s + 2 + 2 ≡ at + length (question_octets q) = omega (arith, length-append s (two q.qtype ++ two q.qclass)) in
    rw (a, b, c) (ap (λ x. Ok (q, x)) e)

fixed_written : (f : FixedFields) (o more : List ℕ) (at : ℕ) → drop at o ≡ fixed_octets f ++ more → fixed_at o at ≡ Ok (f, at + 10)
unfolding fixed_at
fixed_written f o more at h =
    let t3 : List ℕ = two f.size ++ more in
    let t2 : List ℕ = four f.ttl ++ t3 in
    let t1 : List ℕ = two f.class ++ t2 in
    let a = two_written o t1 at f.rtype h in
    let h1 = past o (two f.rtype) t1 at h in
    let b = two_written o t2 (at + 2) f.class h1 in
    let h2 = past o (two f.class) t2 (at + 2) h1 in
    let c = four_written o t3 (at + 2 + 2) f.ttl h2 in
    let h3 = past o (four f.ttl) t3 (at + 2 + 2) h2 in
    let d = two_written o more (at + 2 + 2 + 4) f.size h3 in
    let e : at + 2 + 2 + 4 + 2 ≡ at + 10 = omega arith in
    rw (a, b, c, d) (ap (λ n. Ok (f, n)) e)

-- a record that is written stands there: its data after its owner and its fixed fields
abbrev pub data_place : ResourceRecord → ℕ → ℕ
data_place r at = at + length (spell r.owner) + 10

abbrev pub standing_by : ResourceRecord → List ℕ → ℕ → Standing
standing_by r o p = record { resource = r; content = data_at r.rtype o (p + length r.rdata) p }

fields_written : (r : ResourceRecord) (o more : List ℕ) (at : ℕ) → drop at o ≡ record_octets r ++ more → drop at o ≡ spell r.owner ++ (fixed_octets (fixed_of r) ++ (r.rdata ++ more))
fields_written r o more at h = h ∙ append_assoc (spell r.owner) (fixed_octets (fixed_of r) ++ r.rdata) more

pub rdata_written : (r : ResourceRecord) (o more : List ℕ) (at : ℕ) → drop at o ≡ record_octets r ++ more → drop (data_place r at) o ≡ r.rdata ++ more
rdata_written r o more at h =
    let s = spell r.owner in
    let f = fixed_octets (fixed_of r) in
    past o f (r.rdata ++ more) (at + length s) (past o s (f ++ (r.rdata ++ more)) at (fields_written r o more at h))

pub standing_written : (r : ResourceRecord) (o more : List ℕ) (at : ℕ) → IsName r.owner → drop at o ≡ record_octets r ++ more → standing_at o at ≡ Ok (standing_by r o (data_place r at), at + length (record_octets r))
unfolding standing_at
standing_written r o more at n h =
    let s = spell r.owner in
    let rest : List ℕ = fixed_octets (fixed_of r) ++ (r.rdata ++ more) in
    let h0 = fields_written r o more at h in
    let a = name_spelt r.owner o rest at h0 n in
    let b = fixed_written (fixed_of r) o (r.rdata ++ more) (at + length s) (past o s rest at h0) in
    let c = octets_written o more r.rdata (data_place r at) (rdata_written r o more at h) in
    let e : data_place r at + length r.rdata ≡ at + length (record_octets r) = omega (arith, length-append s (fixed_octets (fixed_of r) ++ r.rdata)) in
    rw (a, b, c) (ap (λ y. Ok (standing_by r o (data_place r at), y)) e)

pub record_written : (r : ResourceRecord) (o more : List ℕ) (at : ℕ) → IsName r.owner → drop at o ≡ record_octets r ++ more → record_at o at ≡ Ok (r, at + length (record_octets r))
unfolding record_at
record_written r o more at n h = rw (standing_written r o more at n h) refl

module _ {A : Type 0} (one : ℕ → Read A) (spelling : A → List ℕ) (P : A → Type 0) (o : List ℕ)
    (each : (x : A) (more : List ℕ) (at : ℕ) → P x → drop at o ≡ spelling x ++ more → one at ≡ Ok (x, at + length (spelling x))) where
  pub items_written : (xs : List A) (more : List ℕ) (at : ℕ) → AllByRecursion P xs → drop at o ≡ flat_map spelling xs ++ more → items_from one (length xs) at ≡ (xs, Ok (at + length (flat_map spelling xs)))
  items_written [] more at p h = ap (λ x. ([], Ok x)) (omega arith)
  items_written (x ∷ xs) more at p h =
      let h0 : drop at o ≡ spelling x ++ (flat_map spelling xs ++ more) = h ∙ append_assoc (spelling x) (flat_map spelling xs) more in
      let a = each x (flat_map spelling xs ++ more) at p.0 h0 in
      let b = items_written xs more (at + length (spelling x)) p.1 (past o (spelling x) (flat_map spelling xs ++ more) at h0) in
      let e : at + length (spelling x) + length (flat_map spelling xs) ≡ at + length (spelling x ++ flat_map spelling xs) = omega (arith, length-append (spelling x) (flat_map spelling xs)) in
      rw (a, b) (ap (λ y. (x ∷ xs, Ok y)) e)

pub halves : (n : ℕ) → 256 * (n / 256) + n % 256 ≡ n
halves n = omega arith

-- a header that is written is read again
flag : (b : Bool) (n : ℕ) → n % 2 ≡ bit b → low_bit n ≡ b
flag true n h = rw h refl
flag false n h = rw h refl

bits : (b : Bool) → bit b ≤ 1
bits true = omega arith
bits false = omega arith

upper_back : (q a t r : Bool) (o : ℕ) → o < 16 →
    let n : ℕ = 128 * bit q + 8 * o + 4 * bit a + 2 * bit t + bit r in
    (low_bit (n / 128) ≡ q) × (n / 8 % 16 ≡ o) × (low_bit (n / 4) ≡ a) × (low_bit (n / 2) ≡ t) × (low_bit n ≡ r)
upper_back q a t r o h =
    let x = bits q in
    let y = bits a in
    let z = bits t in
    let w = bits r in
    (flag q _ (omega arith), omega arith, flag a _ (omega arith), flag t _ (omega arith), flag r _ (omega arith))

lower_back : (a z d c : Bool) (o : ℕ) → o < 16 →
    let n : ℕ = 128 * bit a + 64 * bit z + 32 * bit d + 16 * bit c + o in
    (low_bit (n / 128) ≡ a) × (low_bit (n / 64) ≡ z) × (low_bit (n / 32) ≡ d) × (low_bit (n / 16) ≡ c) × (n % 16 ≡ o)
lower_back a z d c o h =
    let x = bits a in
    let y = bits z in
    let v = bits d in
    let w = bits c in
    (flag a _ (omega arith), flag z _ (omega arith), flag d _ (omega arith), flag c _ (omega arith), omega arith)

pub header_back : (h : Header) (o : List ℕ) → IsHeader h → header_of (header_octets h ++ o) ≡ h
header_back h o i =
    let u = upper_back h.qr h.aa h.tc h.rd h.opcode i.opcode in
    let l = lower_back h.ra h.z h.ad h.cd h.rcode i.rcode in
    rw (halves h.id, u.0, u.1, u.2, u.3, u.4, l.0, l.1, l.2, l.3, l.4) refl

pub questions_written : (m : Msg) → IsMessage m → questions_of (wire m) ≡ (m.questions, Ok (12 + length (flat_map question_octets m.questions)))
unfolding questions_of wire
questions_written m n =
    rw (halves (length m.questions))
    (items_written (question_at (wire m)) question_octets HasName (wire m) (λ q more at p h. question_written q (wire m) more at p h)
    m.questions (flat_map record_octets m.answers ++ (flat_map record_octets m.authority ++ flat_map record_octets m.additional)) 12 n.questions refl)

-- where the sections of records begin in a message that is written, and where the last one ends
abbrev pub answers_place : Msg → ℕ
answers_place m = 12 + length (flat_map question_octets m.questions)

abbrev pub authority_place : Msg → ℕ
authority_place m = answers_place m + length (flat_map record_octets m.answers)

abbrev pub additional_place : Msg → ℕ
additional_place m = authority_place m + length (flat_map record_octets m.authority)

abbrev pub end_place : Msg → ℕ
end_place m = additional_place m + length (flat_map record_octets m.additional)

-- what stands there
abbrev pub behind_authority : Msg → List ℕ
behind_authority m = flat_map record_octets m.additional

abbrev pub behind_answers : Msg → List ℕ
behind_answers m = flat_map record_octets m.authority ++ behind_authority m

pub answers_here : (m : Msg) → drop (answers_place m) (wire m) ≡ flat_map record_octets m.answers ++ behind_answers m
unfolding wire
answers_here m = past (wire m) (flat_map question_octets m.questions) (flat_map record_octets m.answers ++ behind_answers m) 12 refl

pub authority_here : (m : Msg) → drop (authority_place m) (wire m) ≡ behind_answers m
authority_here m = past (wire m) (flat_map record_octets m.answers) (behind_answers m) (answers_place m) (answers_here m)

pub additional_here : (m : Msg) → drop (additional_place m) (wire m) ≡ behind_authority m ++ []
additional_here m = past (wire m) (flat_map record_octets m.authority) (behind_authority m) (authority_place m) (authority_here m) ∙ sym (append-nil (behind_authority m))

records_written : (o : List ℕ) (xs : List ResourceRecord) (more : List ℕ) (at : ℕ) → AllByRecursion HasOwner xs → drop at o ≡ flat_map record_octets xs ++ more →
    items_from (record_at o) (length xs) at ≡ (xs, Ok (at + length (flat_map record_octets xs)))
records_written o = items_written (record_at o) record_octets HasOwner o (λ r more at p h. record_written r o more at p h)

pub answers_written : (m : Msg) → IsMessage m → answers_of (wire m) ≡ (m.answers, Ok (authority_place m))
unfolding answers_of wire
answers_written m n =
    rw (questions_written m n, halves (length m.answers))
    (records_written (wire m) m.answers (behind_answers m) (answers_place m) n.answers (answers_here m))

pub authority_written : (m : Msg) → IsMessage m → authority_of (wire m) ≡ (m.authority, Ok (additional_place m))
unfolding authority_of wire
authority_written m n =
    rw (answers_written m n, halves (length m.authority))
    (records_written (wire m) m.authority (behind_authority m) (authority_place m) n.authority (authority_here m))

pub additional_written : (m : Msg) → IsMessage m → additional_of (wire m) ≡ (m.additional, Ok (end_place m))
unfolding additional_of wire
additional_written m n =
    rw (authority_written m n, halves (length m.additional))
    (records_written (wire m) m.additional [] (additional_place m) n.additional (additional_here m))

pub header_written : (m : Msg) → IsMessage m → header_of (wire m) ≡ m.header
unfolding wire
header_written m n = header_back m.header (counts m ++ body m) n.header

-- a message that is written reads back as itself
pub read_back : (m : Msg) → IsMessage m → message_of (wire m) ≡ m
unfolding message_of
read_back m n = rw (header_written m n, questions_written m n, answers_written m n, authority_written m n, additional_written m n) refl

-- and all of its octets are read
pub all_readable : (m : Msg) → IsMessage m → (additional_of (wire m)).1 ≡ Ok (length (wire m))
unfolding wire
all_readable m n =
    let a = length-append (flat_map question_octets m.questions) (flat_map record_octets m.answers ++ behind_answers m) in
    let b = length-append (flat_map record_octets m.answers) (behind_answers m) in
    let c = length-append (flat_map record_octets m.authority) (behind_authority m) in
    let e : end_place m ≡ length (wire m) = omega arith in
    rw (additional_written m n) (ap (λ x. Ok x) e)

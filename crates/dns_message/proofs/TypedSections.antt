-- The sections of a message that is written, record for record.
use Rattle.std.proofs.Common.{◌≡◌, ℕ, ◌+◌, ◌≤◌, List, [], ◌∷◌, ◌++◌, length, drop, Result, Ok, refl, sym, ap, subst, ◌∙◌, arith, length-append, length-drop, append_assoc}
use Rattle.std.specs.List.{flat_map, AllByRecursion, AllZip}
use Rattle.dns_name.specs.declared.error.ParseError.{ParseError}
use Rattle.dns_name.specs.Labels.{spell, IsName}
use Rattle.dns_message.specs.declared.record.Record.{Record}
use Rattle.dns_message.specs.Msg.{Msg, ResourceRecord, IsMessage, HasOwner}
use Rattle.dns_message.specs.Wire.{record_octets, wire}
use Rattle.dns_message.specs.Records.{data_octets, record_of}
use Rattle.dns_message.specs.Fixed.{fixed_octets, fixed_of}
use Rattle.dns_message.specs.Standing.{Standing, standing_at, typed, typed_by}
use Rattle.dns_message.specs.Sections.{all_of, items_from, to_come, reached, questions_of, answers_of, authority_of, standing_answers, standing_authority, standing_additional}
use Rattle.dns_message.specs.TypedData.{IsTyped, StandsFor, IsReadAs, ReadsBack}
use Rattle.dns_message.proofs.Coming.{all_come, given_first}
use Rattle.dns_message.proofs.Written.{past, halves, data_place, standing_by, rdata_written, standing_written, questions_written, answers_written, authority_written, answers_place, authority_place, additional_place, behind_answers, behind_authority, answers_here, authority_here, additional_here}
use Rattle.dns_message.proofs.TypedWritten.{data_written}

typed_here : (r : Record) (o more : List ℕ) (p : ℕ) → IsTyped r.rdata → drop p o ≡ data_octets r.rdata ++ more → p ≤ length o → typed (standing_by (record_of r) o p) ≡ Ok r
typed_here r o more p i h k = ap (typed_by (record_of r)) (data_written r.rdata o more p i h k)

stands_by : (x : ResourceRecord) (o more : List ℕ) (p : ℕ) → drop p o ≡ x.rdata ++ more → p ≤ length o → (r : Record) → IsTyped r.rdata → record_of r ≡ x → typed (standing_by x o p) ≡ Ok r
stands_by x o more p h k r i e = subst (λ (y : ResourceRecord). drop p o ≡ y.rdata ++ more → typed (standing_by y o p) ≡ Ok r) e (λ g. typed_here r o more p i g k) h

-- a record that is written stands there, and what stands there is the record
stands_written : (x : ResourceRecord) (o more : List ℕ) (at : ℕ) → IsName x.owner → drop at o ≡ record_octets x ++ more → (s : Standing) × (standing_at o at ≡ Ok (s, at + length (record_octets x))) × StandsFor x s
stands_written x o more at n h =
    let p = data_place x at in
    let k : p ≤ length o = omega (arith, ap length h, length-drop at o, length-append (record_octets x) more, length-append (spell x.owner) (fixed_octets (fixed_of x) ++ x.rdata)) in
    (standing_by x o p, standing_written x o more at n h, (refl, stands_by x o more p (rdata_written x o more at h) k))

-- records that are written come as they stand
all_stand : (xs : List ResourceRecord) (o more : List ℕ) (at : ℕ) → AllByRecursion HasOwner xs → drop at o ≡ flat_map record_octets xs ++ more → AllZip IsReadAs xs (to_come (standing_at o) (length xs) at)
all_stand [] o more at n h = tt
all_stand (x ∷ xs) o more at n h =
    let rest : List ℕ = flat_map record_octets xs ++ more in
    let h0 : drop at o ≡ record_octets x ++ rest = h ∙ append_assoc (record_octets x) (flat_map record_octets xs) more in
    let w = stands_written x o rest at n.0 h0 in
    let behind : ℕ = at + length (record_octets x) in
    rw w.1
    (subst (λ (l : List (Result Standing ParseError)). AllZip IsReadAs (x ∷ xs) l) (sym (given_first w.0 (items_from (standing_at o) (length xs) behind)))
    (w.2, all_stand xs o more behind n.1 (past o (record_octets x) rest at h0)))

section_back : (xs : List ResourceRecord) (o more : List ℕ) (at : ℕ) → AllByRecursion HasOwner xs → drop at o ≡ flat_map record_octets xs ++ more → ReadsBack xs (Ok (all_of (items_from (standing_at o) (length xs) at)))
section_back xs o more at n h = subst (λ (l : List (Result Standing ParseError)). AllZip IsReadAs xs l) (all_come (standing_at o) (length xs) at) (all_stand xs o more at n h)

pub answers_back : (m : Msg) → IsMessage m → ReadsBack m.answers (reached (questions_of (wire m)).1 (standing_answers (wire m)))
unfolding wire
answers_back m n =
    rw (questions_written m n, halves (length m.answers))
    (section_back m.answers (wire m) (behind_answers m) (answers_place m) n.answers (answers_here m))

pub authority_back : (m : Msg) → IsMessage m → ReadsBack m.authority (reached (answers_of (wire m)).1 (standing_authority (wire m)))
unfolding wire
authority_back m n =
    rw (answers_written m n, halves (length m.authority))
    (section_back m.authority (wire m) (behind_authority m) (authority_place m) n.authority (authority_here m))

pub additional_back : (m : Msg) → IsMessage m → ReadsBack m.additional (reached (authority_of (wire m)).1 (standing_additional (wire m)))
unfolding wire
additional_back m n =
    rw (authority_written m n, halves (length m.additional))
    (section_back m.additional (wire m) [] (additional_place m) n.additional (additional_here m))

-- A message whose additional records of a type are dropped, and one that gets a record in their place.
use Rattle.std.proofs.Common.{◌≡◌, ℕ, suc, ◌+◌, ◌≤◌, List, [], ◌∷◌, ◌++◌, length, drop, take, nat_eq, true, false, if◌then◌else◌, Ok, refl, ap, sym, subst, ◌∙◌, arith, length-append, append_assoc, append-nil}
use Rattle.std.specs.List.{flat_map, AllByRecursion}
use Rattle.std.proofs.lemmas.List.Concat.{flat_map-append}
use Rattle.std.proofs.Math.Seq.{take-append_seam, drop-append_seam}
use Rattle.dns_base.specs.Sections.{field}
use Rattle.dns_base.specs.declared.draft.Section.TheVariants.{Additional}
use Rattle.dns_base.specs.Header.{header_octets}
use Rattle.dns_base.specs.Msg.{Msg, ResourceRecord, IsMessage, HasOwner}
use Rattle.dns_base.specs.Wire.{question_octets, record_octets, counts, wire}
use Rattle.dns_base.specs.Standing.{record_at}
use Rattle.dns_base.specs.Built.{Built, with_record}
use Rattle.dns_base.specs.Draft.{IsDraft, counted, start_of}
use Rattle.dns_base.specs.Replaced.{other_than, less_type, records_at, spelling, AreSpelt}
use Rattle.dns_message.proofs.Written.{past, record_written, items_written}
use Rattle.dns_base.proofs.Pushed.{built, viewed, drafted, draft_wire, longer, fields, count_room}
use Rattle.dns_base.proofs.Rewound.{framed, kept, starts, start_known}
use Rattle.dns_base.proofs.Sieved.{sieved, fewer}

-- the message with these additional records
abbrev pub having : Msg → List ResourceRecord → Msg
having m rs = record m { additional = rs }

-- what is before the additional records
abbrev pub before : Msg → List ℕ
before m = header_octets m.header ++ (counts m ++ kept Additional m)

before_length : (m : Msg) → length (before m) ≡ 12 + length (kept Additional m)
before_length m = omega arith

-- a message with octets after it
parted : (m : Msg) (p : List ℕ) → wire m ++ p ≡ before m ++ (spelling m.additional ++ p)
unfolding wire
parted m p =
    let fq = flat_map question_octets m.questions in
    let fa = flat_map record_octets m.answers in
    let fn = flat_map record_octets m.authority in
    let fr = flat_map record_octets m.additional in
    let h : List ℕ = header_octets m.header ++ counts m in
    let e : (fq ++ (fa ++ (fn ++ fr))) ++ p ≡ (fq ++ (fa ++ fn)) ++ (fr ++ p) =
    append_assoc fq (fa ++ (fn ++ fr)) p
    ∙ (ap (λ t. fq ++ t) (append_assoc fa (fn ++ fr) p ∙ (ap (λ t. fa ++ t) (append_assoc fn fr p) ∙ sym (append_assoc fa fn (fr ++ p))))
    ∙ sym (append_assoc fq (fa ++ fn) (fr ++ p))) in
    ap (λ t. h ++ t) e

behind_before : (m : Msg) (p : List ℕ) → drop (12 + length (kept Additional m)) (wire m ++ p) ≡ spelling m.additional ++ p
behind_before m p = ap (λ n. drop n (wire m ++ p)) (sym (before_length m)) ∙ (ap (drop (length (before m))) (parted m p) ∙ drop-append_seam (before m) (spelling m.additional ++ p))

up_to_before : (m : Msg) (p : List ℕ) → take (12 + length (kept Additional m)) (wire m ++ p) ≡ before m
up_to_before m p = ap (λ n. take n (wire m ++ p)) (sym (before_length m)) ∙ (ap (take (length (before m))) (parted m p) ∙ take-append_seam (before m) (spelling m.additional ++ p))

-- the records that are read there
pub read_there : (m : Msg) (p : List ℕ) → IsMessage m → records_at (wire m ++ p) (length m.additional) (12 + length (kept Additional m)) ≡ m.additional
read_there m p n =
    let o = wire m ++ p in
    ap (λ i. i.0) (items_written (record_at o) record_octets HasOwner o (λ r more at k h. record_written r o more at k h) m.additional p (12 + length (kept Additional m)) n.additional (behind_before m p))

pub spelt_there : (m : Msg) (p : List ℕ) → IsMessage m → AreSpelt (wire m ++ p) (length m.additional) (12 + length (kept Additional m))
spelt_there m p n =
    let o = wire m ++ p in
    let at = 12 + length (kept Additional m) in
    let x = spelling m.additional in
    let r = read_there m p n in
    let h = behind_before m p in
    let s : drop at o ≡ x ++ drop (at + length x) o = h ∙ ap (λ t. x ++ t) (sym (past o x p at h)) in
    record {
      many = ap length r;
      named = subst (AllByRecursion HasOwner) (sym r) n.additional;
      within = omega (arith, ap length (parted m p), length-append (before m) (x ++ p), before_length m);
      stand = subst (λ rs. drop at o ≡ spelling rs ++ drop (at + length (spelling rs)) o) (sym r) s;
    }

-- the octets when the records are moved together
sieved_there : (m : Msg) (p : List ℕ) (t : ℕ) → IsMessage m → sieved (wire m ++ p) t (length m.additional) (12 + length (kept Additional m)) ≡ before m ++ (spelling (other_than t m.additional) ++ p)
sieved_there m p t n =
    let o = wire m ++ p in
    let at = 12 + length (kept Additional m) in
    let q = before m in
    ap (λ rs. take at o ++ (spelling (other_than t rs) ++ drop (at + length (spelling rs)) o)) (read_there m p n)
    ∙ (ap (λ x. x ++ (spelling (other_than t m.additional) ++ drop (at + length (spelling m.additional)) o)) (up_to_before m p)
    ∙ ap (λ x. q ++ (spelling (other_than t m.additional) ++ x)) (past o (spelling m.additional) p at (behind_before m p)))

wire_having : (m : Msg) (rs : List ResourceRecord) → counted 10 (length rs) (before m ++ spelling rs) ≡ wire (having m rs)
unfolding wire
wire_having m rs =
    let fq = flat_map question_octets m.questions in
    let fa = flat_map record_octets m.answers in
    let fn = flat_map record_octets m.authority in
    let x = spelling rs in
    let e : (fq ++ (fa ++ fn)) ++ x ≡ fq ++ (fa ++ (fn ++ x)) = append_assoc fq (fa ++ fn) x ∙ ap (λ t. fq ++ t) (append_assoc fa fn x) in
    ap (λ t. framed m.header (length m.questions) (length m.answers) (length m.authority) (length rs) t) e

pub having_length : (m : Msg) (rs : List ResourceRecord) → length (wire (having m rs)) ≡ 12 + length (kept Additional m) + length (spelling rs)
unfolding wire
having_length m rs =
    let fq = flat_map question_octets m.questions in
    let fa = flat_map record_octets m.answers in
    let fn = flat_map record_octets m.authority in
    let x = spelling rs in
    omega (arith, length-append fq (fa ++ (fn ++ x)), length-append fa (fn ++ x), length-append fn x, length-append fq (fa ++ fn), length-append fa fn)

lawful_having : (m : Msg) (rs : List ResourceRecord) → IsMessage m → AllByRecursion HasOwner rs → IsMessage (having m rs)
lawful_having m rs i n = record { header = i.header; questions = i.questions; answers = i.answers; authority = i.authority; additional = n }

others_named : (t : ℕ) (rs : List ResourceRecord) → AllByRecursion HasOwner rs → AllByRecursion HasOwner (other_than t rs)
others_named t [] n = tt
others_named t (r ∷ rs) n = elim (nat_eq r.rtype t) as (λ b. AllByRecursion HasOwner (if b then other_than t rs else r ∷ other_than t rs)) [ true ↦ others_named t rs n.1 | false ↦ (n.0, others_named t rs n.1) ]

named_more : (rs : List ResourceRecord) (r : ResourceRecord) → AllByRecursion HasOwner rs → HasOwner r → AllByRecursion HasOwner (rs ++ r ∷ [])
named_more [] r h p = (p, tt)
named_more (x ∷ rs) r h p = (h.0, named_more rs r h.1 p)

-- if as many records are of other types, all are
pub all_others : (t : ℕ) (rs : List ResourceRecord) → length (other_than t rs) ≡ length rs → other_than t rs ≡ rs
all_others t [] e = refl
all_others t (r ∷ rs) e =
    let f = (fewer t rs).0 in
    elim (nat_eq r.rtype t) as (λ b. length (if b then other_than t rs else r ∷ other_than t rs) ≡ suc (length rs) → (if b then other_than t rs else r ∷ other_than t rs) ≡ r ∷ rs) [
      | true ↦ λ h. absurd (omega (arith, f, h))
      | false ↦ λ h. ap (λ l. r ∷ l) (all_others t rs (omega (arith, h)))
    ] e

pub none_removed : (t : ℕ) (b : Built) → length (other_than t b.message.additional) ≡ length b.message.additional → b ≡ less_type t b
none_removed t b e = ap (λ rs. record b { message = having b.message rs }) (sym (all_others t b.message.additional e))

-- the records are dropped
pub removed : (o o' : List ℕ) (limit : ℕ) (b : Built) (t start count n : ℕ) → IsDraft o limit → viewed o limit ≡ b → start_of Additional (wire b.message) ≡ Ok start → count ≡ length b.message.additional → n ≡ length (other_than t b.message.additional) →
    drop 2 o' ≡ counted 10 n (sieved (drop 2 o) t count start) → 14 ≤ length o' → IsDraft o' limit × (viewed o' limit ≡ less_type t b)
removed o o' limit b t start count n d v h k l e f =
    let w = draft_wire o limit b d v in
    let m = b.message in
    let rs = other_than t m.additional in
    let a = start_known Additional o start limit b d v h in
    let z : drop 2 o ≡ wire m ++ [] = w.0 ∙ sym (append-nil (wire m)) in
    let q = before m in
    let g : drop 2 o' ≡ wire (having m rs) =
    e ∙ (ap (λ x. counted 10 x (sieved (drop 2 o) t count start)) l
    ∙ (ap (λ x. counted 10 (length rs) (sieved x t count start)) z
    ∙ (ap (λ x. counted 10 (length rs) (sieved (wire m ++ []) t x start)) k
    ∙ (ap (λ x. counted 10 (length rs) (sieved (wire m ++ []) t (length m.additional) x)) a
    ∙ (ap (counted 10 (length rs)) (sieved_there m [] t w.1 ∙ ap (λ x. q ++ x) (append-nil (spelling rs)))
    ∙ wire_having m rs))))) in
    let s = fewer t m.additional in
    let y = drafted o' (having m rs) limit g (lawful_having m rs w.1 (others_named t m.additional w.1.additional)) (omega (arith, having_length m rs, having_length m m.additional, s.1, w.2)) d.limited (omega arith) in
    (y.0, y.1 ∙ ap (λ x. built (having m rs) x) (sym w.3))

-- how long the message is with the record in place of those of the type
pub replaced_length : (o : List ℕ) (limit : ℕ) (b : Built) (t start : ℕ) (r : ResourceRecord) → IsDraft o limit → viewed o limit ≡ b → start_of Additional (wire b.message) ≡ Ok start →
    (length (wire (with_record Additional (less_type t b) r).message) ≡ start + length (spelling (other_than t b.message.additional)) + length (record_octets r)) × (b.limit ≡ limit)
replaced_length o limit b t start r d v h =
    let m = b.message in
    let rs = other_than t m.additional in
    let x = flat_map-append record_octets rs (r ∷ []) ∙ ap (λ t. spelling rs ++ t) (append-nil (record_octets r)) in
    let a = start_known Additional o start limit b d v h in
    (omega (arith, having_length m (rs ++ r ∷ []), ap length x, length-append (spelling rs) (record_octets r), a), (draft_wire o limit b d v).3)

pub replaced : (o p o' : List ℕ) (limit : ℕ) (b : Built) (t start count n : ℕ) (r : ResourceRecord) → IsDraft o limit → viewed o limit ≡ b → start_of Additional (wire b.message) ≡ Ok start → count ≡ length b.message.additional → n ≡ length (other_than t b.message.additional) →
    HasOwner r → p ≡ o ++ record_octets r → start + length (spelling (other_than t b.message.additional)) + length (record_octets r) ≤ limit →
    drop 2 o' ≡ counted 10 (n + 1) (sieved (drop 2 p) t count start) → 14 ≤ length o' → IsDraft o' limit × (viewed o' limit ≡ with_record Additional (less_type t b) r)
replaced o p o' limit b t start count n r d v h k l i j s e f =
    let w = draft_wire o limit b d v in
    let m = b.message in
    let rs = other_than t m.additional in
    let more = rs ++ r ∷ [] in
    let a = start_known Additional o start limit b d v h in
    let q = before m in
    let x = record_octets r in
    let c : n + 1 ≡ length more = omega (arith, l, length-append rs (r ∷ [])) in
    let u : spelling rs ++ x ≡ spelling more = sym (flat_map-append record_octets rs (r ∷ []) ∙ ap (λ t. spelling rs ++ t) (append-nil x)) in
    let z : drop 2 p ≡ wire m ++ x = longer o p x limit b d v j in
    let g : drop 2 o' ≡ wire (having m more) =
    e ∙ (ap (λ x. counted 10 x (sieved (drop 2 p) t count start)) c
    ∙ (ap (λ y. counted 10 (length more) (sieved y t count start)) z
    ∙ (ap (λ y. counted 10 (length more) (sieved (wire m ++ x) t y start)) k
    ∙ (ap (λ y. counted 10 (length more) (sieved (wire m ++ x) t (length m.additional) y)) a
    ∙ (ap (counted 10 (length more)) (sieved_there m x t w.1 ∙ ap (λ y. q ++ y) u)
    ∙ wire_having m more))))) in
    let y = drafted o' (having m more) limit g (lawful_having m more w.1 (named_more rs r (others_named t m.additional w.1.additional) i))
    (omega (arith, (replaced_length o limit b t start r d v h).0, s, d.limited)) d.limited (omega arith) in
    (y.0, y.1 ∙ ap (λ x. built (having m more) x) (sym w.3))

-- the records stand there, after the header
pub spelt_draft : (o p x : List ℕ) (limit : ℕ) (b : Built) (start count : ℕ) → IsDraft o limit → viewed o limit ≡ b → start_of Additional (wire b.message) ≡ Ok start → count ≡ length b.message.additional → x ≡ wire b.message ++ p → AreSpelt x count start
spelt_draft o p x limit b start count d v h k e =
    let a = start_known Additional o start limit b d v h in
    subst (λ y. AreSpelt y count start) (sym e) (subst (λ c. AreSpelt (wire b.message ++ p) c start) (sym k) (subst (AreSpelt (wire b.message ++ p) (length b.message.additional)) (sym a) (spelt_there b.message p (draft_wire o limit b d v).1)))

pub start_late : (o : List ℕ) (limit : ℕ) (b : Built) (start : ℕ) → IsDraft o limit → viewed o limit ≡ b → start_of Additional (wire b.message) ≡ Ok start → 12 ≤ start
start_late o limit b start d v h = omega (arith, start_known Additional o start limit b d v h)

-- ---- a message's additional records

pub start_here : (m : Msg) (n : ℕ) → IsMessage m → start_of Additional (wire m) ≡ Ok n → n ≡ 12 + length (kept Additional m)
start_here m n i h = let k = starts Additional m i in cc

pub spelt_message : (m : Msg) (n : ℕ) → IsMessage m → start_of Additional (wire m) ≡ Ok n → AreSpelt (wire m) (length m.additional) n
spelt_message m n i h =
    subst (λ o. AreSpelt o (length m.additional) n) (append-nil (wire m)) (subst (AreSpelt (wire m ++ []) (length m.additional)) (sym (start_here m n i h)) (spelt_there m [] i))

pub read_message : (m : Msg) (n : ℕ) → IsMessage m → start_of Additional (wire m) ≡ Ok n → records_at (wire m) (length m.additional) n ≡ m.additional
read_message m n i h =
    ap (λ o. records_at o (length m.additional) n) (sym (append-nil (wire m))) ∙ (ap (records_at (wire m ++ []) (length m.additional)) (start_here m n i h) ∙ read_there m [] i)

-- there is room for counts and sums
pub others_fit : (o : List ℕ) (limit : ℕ) (b : Built) (t start : ℕ) → IsDraft o limit → viewed o limit ≡ b → start_of Additional (wire b.message) ≡ Ok start →
    (start + length (spelling (other_than t b.message.additional)) ≤ 65535) × (length (other_than t b.message.additional) + 1 ≤ 65535)
others_fit o limit b t start d v h =
    let w = draft_wire o limit b d v in
    let m = b.message in
    let f = fewer t m.additional in
    let c : field 10 (drop 2 o) ≡ length m.additional = ap (field 10) w.0 ∙ (fields m).3 in
    (omega (arith, start_known Additional o start limit b d v h, having_length m m.additional, f.1, w.2), omega (arith, f.0, c, count_room o limit Additional d))

pub others_length : (m : Msg) (t start : ℕ) → IsMessage m → start_of Additional (wire m) ≡ Ok start →
    (length (wire (having m (other_than t m.additional))) ≡ start + length (spelling (other_than t m.additional))) × (start + length (spelling (other_than t m.additional)) ≤ length (wire m))
others_length m t start l h =
    let a = start_here m start l h in
    let f = fewer t m.additional in
    (omega (arith, a, having_length m (other_than t m.additional)), omega (arith, a, having_length m m.additional, f.1))

-- Records in wire form, and several of them at the end of a built message.
use Rattle.std.proofs.Common.{◌≡◌, ℕ, ◌+◌, ◌-◌, ◌≤◌, ◌<◌, List, [], ◌∷◌, ◌++◌, length, drop, refl, ap, sym, subst, ◌∙◌, arith, Result, Err, length-append, length-drop, append_assoc, append-nil}
use Rattle.std.specs.Prelude.{⊤, ◌↔◌, IsTrue, nat_eq, true}
use Rattle.std.specs.List.{flat_map, AllByRecursion}
use Rattle.std.proofs.lemmas.List.Concat.{flat_map-append}
use Rattle.std.proofs.lemmas.Bool.Decides.{nat_tests}
use Rattle.dns_base.specs.declared.draft.Section.{Section}
use Rattle.dns_base.specs.declared.draft.Section.TheVariants.{Answer, Authority, Additional}
use Rattle.dns_base.specs.declared.draft.Starts.{Starts}
use Rattle.dns_base.specs.Msg.{Msg, ResourceRecord, IsMessage, HasOwner}
use Rattle.dns_base.specs.Wire.{question_octets, record_octets, body, wire}
use Rattle.dns_base.specs.Sections.{field}
use Rattle.dns_base.specs.Standing.{record_at}
use Rattle.dns_base.specs.Built.{Built, NoAuthority, IsLast, Pushes}
use Rattle.dns_base.specs.Builds.{and_records, with_records}
use Rattle.dns_base.specs.Draft.{IsDraft, AreStarts, count_place, counted, moved_behind}
use Rattle.dns_base.specs.Replaced.{records_at, spelling}
use Rattle.dns_base.specs.WireRecords.{AreWireRecords}
use Rattle.dns_message.proofs.Written.{halves, items_written, record_written}
use Rattle.dns_base.proofs.Pushed.{built, viewed, drafted, draft_wire, longer, framed, field_on, few_records, sizes, counted_length}
use Rattle.dns_base.proofs.Placed.{AreStartsOf, starts_read, starts_stand, answer_ends, authority_ends, additional_ends, message_length}

-- ---- records in wire form

-- octets that records spell are those records
pub spelt_by : (o : List ℕ) (n : ℕ) (rs : List ResourceRecord) → o ≡ spelling rs → n ≡ length rs → AllByRecursion HasOwner rs → AreWireRecords o n × (records_at o n 0 ≡ rs)
spelt_by o n rs e l h =
    let k : records_at o n 0 ≡ rs = ap (λ m. records_at o m 0) l ∙ ap (λ i. i.0) (items_written (record_at o) record_octets HasOwner o (λ r more at p g. record_written r o more at p g) rs [] 0 h (e ∙ sym (append-nil (spelling rs)))) in
    (record { many = ap length k ∙ sym l; named = subst (AllByRecursion HasOwner) (sym k) h; whole = e ∙ ap spelling (sym k) }, k)

all_on : {A : Type 0} (P : A → Type 0) (xs ys : List A) → AllByRecursion P xs → AllByRecursion P ys → AllByRecursion P (xs ++ ys)
all_on P [] ys h g = g
all_on P (x ∷ xs) ys h g = (h.0, all_on P xs ys h.1 g)

-- a record more
pub spelt_more : (o p : List ℕ) (n m : ℕ) (r : ResourceRecord) → AreWireRecords o n → HasOwner r → p ≡ o ++ record_octets r → m ≡ n + 1 → AreWireRecords p m × (records_at p m 0 ≡ records_at o n 0 ++ r ∷ [])
spelt_more o p n m r i h e l =
    let rs = records_at o n 0 in
    spelt_by p m (rs ++ r ∷ [])
    (e ∙ (ap (λ t. t ++ record_octets r) i.whole ∙ sym (flat_map-append record_octets rs (r ∷ []) ∙ ap (λ t. spelling rs ++ t) (append-nil (record_octets r)))))
    (omega (arith, i.many, l, length-append rs (r ∷ [])))
    (all_on HasOwner rs (r ∷ []) i.named (h, tt))

pub spelt_empty : AreWireRecords [] 0 × (records_at [] 0 0 ≡ [])
spelt_empty = spelt_by [] 0 [] refl refl tt

-- whether there is none
is_zero : (n : ℕ) → n ≡ 0 → nat_eq n 0 ≡ true
is_zero n h = grind (arith, nat_tests)

zero_is : (n : ℕ) → nat_eq n 0 ≡ true → n ≡ 0
zero_is n h = grind (arith, nat_tests)

pub are_none : (n : ℕ) (rs : List ResourceRecord) → n ≡ length rs → IsTrue (nat_eq n 0) ↔ (rs ≡ [])
are_none n [] h = ((λ _. refl), (λ _. is_zero n h))
are_none n (r ∷ rs) h = ((λ e. absurd (omega (arith, h, zero_is n e))), (λ e. absurd (cc)))

-- as many octets as records at least
pub spelt_few : (o : List ℕ) (n : ℕ) → AreWireRecords o n → n ≤ length o
spelt_few o n i = omega (arith, i.many, few_records (records_at o n 0), ap length i.whole)

-- ---- records more

body_answers : (m : Msg) (rs : List ResourceRecord) → NoAuthority m → body (and_records Answer m rs) ≡ body m ++ spelling rs
body_answers m rs h =
    let fq = flat_map question_octets m.questions in
    let fa = flat_map record_octets m.answers in
    rw (h.authority, h.additional, flat_map-append record_octets m.answers rs, append-nil (fa ++ spelling rs), append-nil fa)
    (sym (append_assoc fq fa (spelling rs)))

body_authorities : (m : Msg) (rs : List ResourceRecord) → m.additional ≡ [] → body (and_records Authority m rs) ≡ body m ++ spelling rs
body_authorities m rs h =
    let fq = flat_map question_octets m.questions in
    let fa = flat_map record_octets m.answers in
    let fn = flat_map record_octets m.authority in
    rw (h, flat_map-append record_octets m.authority rs, append-nil (fn ++ spelling rs), append-nil fn)
    (ap (λ t. fq ++ t) (sym (append_assoc fa fn (spelling rs))) ∙ sym (append_assoc fq (fa ++ fn) (spelling rs)))

body_additionals : (m : Msg) (rs : List ResourceRecord) → body (and_records Additional m rs) ≡ body m ++ spelling rs
body_additionals m rs =
    let fq = flat_map question_octets m.questions in
    let fa = flat_map record_octets m.answers in
    let fn = flat_map record_octets m.authority in
    let fr = flat_map record_octets m.additional in
    let x = spelling rs in
    rw (flat_map-append record_octets m.additional rs)
    (ap (λ t. fq ++ (fa ++ t)) (sym (append_assoc fn fr x)) ∙ (ap (λ t. fq ++ t) (sym (append_assoc fa (fn ++ fr) x)) ∙ sym (append_assoc fq (fa ++ (fn ++ fr)) x)))

records_wire : (s : Section) (m : Msg) (rs : List ResourceRecord) → IsLast s m → counted (count_place s) (field (count_place s) (wire m ++ spelling rs) + length rs) (wire m ++ spelling rs) ≡ wire (and_records s m rs)
unfolding wire
records_wire Answer m rs h =
    let x = body m ++ spelling rs in
    ap (λ n. framed m.header (length m.questions) n (length m.authority) (length m.additional) x) (ap (λ n. n + length rs) (halves (length m.answers)) ∙ sym (length-append m.answers rs))
    ∙ ap (λ t. framed m.header (length m.questions) (length (m.answers ++ rs)) (length m.authority) (length m.additional) t) (sym (body_answers m rs h))
records_wire Authority m rs h =
    let x = body m ++ spelling rs in
    ap (λ n. framed m.header (length m.questions) (length m.answers) n (length m.additional) x) (ap (λ n. n + length rs) (halves (length m.authority)) ∙ sym (length-append m.authority rs))
    ∙ ap (λ t. framed m.header (length m.questions) (length m.answers) (length (m.authority ++ rs)) (length m.additional) t) (sym (body_authorities m rs h))
records_wire Additional m rs h =
    let x = body m ++ spelling rs in
    ap (λ n. framed m.header (length m.questions) (length m.answers) (length m.authority) n x) (ap (λ n. n + length rs) (halves (length m.additional)) ∙ sym (length-append m.additional rs))
    ∙ ap (λ t. framed m.header (length m.questions) (length m.answers) (length m.authority) (length (m.additional ++ rs)) t) (sym (body_additionals m rs))

records_length : (s : Section) (m : Msg) (rs : List ResourceRecord) → IsLast s m → length (wire (and_records s m rs)) ≡ length (wire m) + length (spelling rs)
records_length s m rs h = ap length (sym (records_wire s m rs h)) ∙ counted_length (count_place s) (field (count_place s) (wire m ++ spelling rs) + length rs) (wire m) (spelling rs)

lawful_records : (s : Section) (m : Msg) (rs : List ResourceRecord) → IsMessage m → AllByRecursion HasOwner rs → IsMessage (and_records s m rs)
lawful_records Answer m rs i n = record { header = i.header; questions = i.questions; answers = all_on HasOwner m.answers rs i.answers n; authority = i.authority; additional = i.additional }
lawful_records Authority m rs i n = record { header = i.header; questions = i.questions; answers = i.answers; authority = all_on HasOwner m.authority rs i.authority n; additional = i.additional }
lawful_records Additional m rs i n = record { header = i.header; questions = i.questions; answers = i.answers; authority = i.authority; additional = all_on HasOwner m.additional rs i.additional n }

-- how long the message is with the records
pub records_grow : (o : List ℕ) (limit : ℕ) (b : Built) (s : Section) (rs : List ResourceRecord) → IsDraft o limit → viewed o limit ≡ b → IsLast s b.message →
    (length (wire (and_records s b.message rs)) ≡ length o - 2 + length (spelling rs)) × (b.limit ≡ limit)
records_grow o limit b s rs d v h =
    let w = draft_wire o limit b d v in
    let l = ap length w.0 in
    (omega (arith, records_length s b.message rs h, l, length-drop 2 o), w.3)

-- the count of a section has room for as many records as fit
section_few : (s : Section) (m : Msg) (rs : List ResourceRecord) → field (count_place s) (wire m) + length rs + 12 ≤ length (wire (and_records s m rs))
unfolding wire
section_few Answer m rs = omega (arith, halves (length m.answers), length-append m.answers rs, (sizes (and_records Answer m rs)).1)
section_few Authority m rs = omega (arith, halves (length m.authority), length-append m.authority rs, (sizes (and_records Authority m rs)).2)
section_few Additional m rs = omega (arith, halves (length m.additional), length-append m.additional rs, (sizes (and_records Additional m rs)).3)

-- with their octets after the message
pub counts_room : (o p : List ℕ) (limit : ℕ) (b : Built) (s : Section) (rs : List ResourceRecord) → IsDraft o limit → viewed o limit ≡ b → IsLast s b.message → p ≡ o ++ spelling rs → length o - 2 + length (spelling rs) ≤ limit →
    (13 < length p) × (field (count_place s) (drop 2 p) + length rs < 65536)
counts_room o p limit b s rs d v h e f =
    let w = draft_wire o limit b d v in
    let x : field (count_place s) (drop 2 p) ≡ field (count_place s) (wire b.message) = ap (field (count_place s)) (longer o p (spelling rs) limit b d v e) ∙ field_on s b.message (spelling rs) in
    let g = records_grow o limit b s rs d v h in
    let z = (sizes b.message).0 in
    (omega (arith, z, ap length w.0, length-drop 2 o, ap length e, length-append o (spelling rs)), omega (arith, x, section_few s b.message rs, g.0, f, d.limited))

-- a push of records
pub records_done : (o p o' : List ℕ) (limit : ℕ) (b : Built) (s : Section) (rs : List ResourceRecord) → IsDraft o limit → viewed o limit ≡ b → AllByRecursion HasOwner rs → IsLast s b.message →
    p ≡ o ++ spelling rs → drop 2 o' ≡ counted (count_place s) (field (count_place s) (drop 2 p) + length rs) (drop 2 p) → length o' ≡ length p → length o - 2 + length (spelling rs) ≤ limit →
    IsDraft o' limit × (viewed o' limit ≡ with_records s b rs)
records_done o p o' limit b s rs d v n h hp k l f =
    let w = draft_wire o limit b d v in
    let m = b.message in
    let e : drop 2 o' ≡ wire (and_records s m rs) =
    k ∙ (ap (λ t. counted (count_place s) (field (count_place s) t + length rs) t) (longer o p (spelling rs) limit b d v hp) ∙ records_wire s m rs h) in
    let g = records_grow o limit b s rs d v h in
    let t = drafted o' (and_records s m rs) limit e (lawful_records s m rs w.1 n) (omega (arith, g.0, f, d.limited)) d.limited (omega (arith, d.framed, l, ap length hp, length-append o (spelling rs))) in
    (t.0, t.1 ∙ ap (λ x. built (and_records s m rs) x) (sym w.3))

-- ---- where sections begin then

with_more : (s : Section) (m : Msg) (rs : List ResourceRecord) (p : Starts) (n : ℕ) → IsLast s m → AreStartsOf p m → n ≡ length (wire (and_records s m rs)) → AreStartsOf (moved_behind p s n) (and_records s m rs)
with_more Answer m rs p n h a e Answer = a Answer
with_more Answer m rs p n h a e Authority = e ∙ authority_ends (and_records Answer m rs) (record { authority = h.authority; additional = h.additional })
with_more Answer m rs p n h a e Additional = e ∙ additional_ends (and_records Answer m rs) h.additional
with_more Authority m rs p n h a e Answer = a Answer
with_more Authority m rs p n h a e Authority = a Authority
with_more Authority m rs p n h a e Additional = e ∙ additional_ends (and_records Authority m rs) h
with_more Additional m rs p n h a e Answer = a Answer
with_more Additional m rs p n h a e Authority = a Authority
with_more Additional m rs p n h a e Additional = a Additional

pub starts_appended : (o o' : List ℕ) (limit n : ℕ) (b : Built) (s : Section) (rs : List ResourceRecord) (p q : Starts) → IsDraft o limit → viewed o limit ≡ b → AreStarts p (drop 2 o) → IsLast s b.message →
    IsDraft o' limit → viewed o' limit ≡ with_records s b rs → n + 2 ≡ length o' → q ≡ moved_behind p s n → AreStarts q (drop 2 o')
starts_appended o o' limit n b s rs p q d v a h d' v' l e =
    starts_stand o' limit (with_records s b rs) q (moved_behind p s n) d' v' e
    (with_more s b.message rs p n h (starts_read o limit b p d v a) (message_length o' limit n (with_records s b rs) d' v' l))

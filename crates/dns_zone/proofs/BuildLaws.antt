-- Records that are added by their places, and what has no room in a message.
use Rattle.std.proofs.Common.{◌≡◌, ℕ, zero, suc, ◌+◌, ◌≤◌, ◌<◌, Bool, true, false, List, [], ◌∷◌, ◌++◌, length, map, drop, cond, get_or, Err, Ok, refl, ap, sym, subst, ◌∙◌, arith, append_assoc, nat_le}
use Rattle.std.specs.Prelude.{⊤, if◌then◌else◌, Some, None, Result}
use Rattle.std.specs.List.{cons_option, filter, slice_get}
use Rattle.std.proofs.lemmas.List.{drop_more, map-append}
use Rattle.std.proofs.lemmas.List.Elements.{filter_map-append}
use Rattle.std.proofs.lemmas.Bool.Decides.{nat_tests}
use Rattle.dns_base.specs.declared.draft.Section.{Section}
use Rattle.dns_base.specs.declared.draft.Section.TheVariants.{Answer, Authority, Additional}
use Rattle.dns_base.specs.declared.error.PushError.{PushError}
use Rattle.dns_base.specs.declared.error.PushError.TheVariants.{ShortBuf, OutOfMemory as NoMemory}
use Rattle.dns_message.specs.declared.question.Question.{Question}
use Rattle.dns_base.specs.Built.{Built, Pushes, empty, with_header, with_question, with_record}
use Rattle.dns_base.specs.Builds.{Becomes, Builds, KeepsLimit, unlimited, with_records}
use Rattle.dns_base.specs.Header.{header_of}
use Rattle.dns_base.specs.Msg.{Msg, ResourceRecord}
use Rattle.dns_base.specs.Records.{IsLawful, record_of}
use Rattle.dns_base.specs.Replies.{Answers, answer_header, have_room, with_copied, with_questions, within_limit}
use Rattle.dns_base.specs.Sections.{questions_of}
use Rattle.dns_base.specs.Wire.{wire}
use Rattle.dns_message.specs.declared.record.Record.{Record}
use Rattle.dns_base.proofs.BuildLaws.{grows, no_records, question_first, questions_grow, wire_size}
use Rattle.dns_zone.specs.Owned.{AreLawful, HasLawfulData, ZoneState, is_of}
use Rattle.dns_zone.specs.Places.{at_places}
use Rattle.dns_zone.specs.ZoneReply.{ZoneReply, delegation, negative_soa, referral}
use Rattle.dns_zone.specs.ZoneTurns.{zone_begun, zone_message}

-- ---- records that are added

-- some records, and then others
pub records_then : (s : Section) (b : Built) (xs ys : List ResourceRecord) → with_records s (with_records s b xs) ys ≡ with_records s b (xs ++ ys)
records_then Answer b xs ys = ap (λ l. record b { message = record b.message { answers = l } }) (append_assoc b.message.answers xs ys)
records_then Authority b xs ys = ap (λ l. record b { message = record b.message { authority = l } }) (append_assoc b.message.authority xs ys)
records_then Additional b xs ys = ap (λ l. record b { message = record b.message { additional = l } }) (append_assoc b.message.additional xs ys)

pub limit_stays : (s : Section) (b : Built) (rs : List ResourceRecord) → (with_records s b rs).limit ≡ b.limit
limit_stays Answer b rs = refl
limit_stays Authority b rs = refl
limit_stays Additional b rs = refl

-- one record is pushed
pub one_pushed : (s : Section) (b : Built) (x : ResourceRecord) → with_records s b (x ∷ []) ≡ with_record s b x
one_pushed Answer b x = refl
one_pushed Authority b x = refl
one_pushed Additional b x = refl

-- what is pushed is what is built
pub becomes_of : (old new more : Built) (r : Result ⊤ PushError) → Pushes old new more r → Becomes new more r
becomes_of old new more (Ok x) h = h
becomes_of old new more (Err ShortBuf) h = h.1
becomes_of old new more (Err NoMemory) h = tt

pub lawful_at : (rs : List Record) (i : ℕ) (r : Record) → AreLawful rs → slice_get rs i ≡ Some r → IsLawful r.rdata
lawful_at [] i r h e = absurd (cc)
lawful_at (x ∷ rs) zero r h e =
    let s : x ≡ r = cc in
    subst HasLawfulData s h.0
lawful_at (x ∷ rs) (suc i) r h e = lawful_at rs i r h.1 e

-- the record at a place is pushed
pub place_pushed : (s : Section) (b new : Built) (rs : List Record) (i : ℕ) (x : Record) (r : Result ⊤ PushError) → slice_get rs i ≡ Some x → Pushes b new (with_record s b (record_of x)) r → Becomes new (with_records s b (map record_of (at_places rs (i ∷ [])))) r
place_pushed s b new rs i x r e h =
    let f : with_records s b (map record_of (at_places rs (i ∷ []))) ≡ with_record s b (record_of x) = ap (λ o. with_records s b (map record_of (cons_option o []))) e ∙ one_pushed s b (record_of x) in
    subst (λ (m : Built). Becomes new m r) (sym f) (becomes_of b new (with_record s b (record_of x)) r h)

-- there is none at a place
pub place_empty : (s : Section) (b : Built) (rs : List Record) (i : ℕ) → slice_get rs i ≡ None → b ≡ with_records s b (map record_of (at_places rs (i ∷ [])))
place_empty s b rs i e = sym (ap (λ o. with_records s b (map record_of (cons_option o []))) e ∙ no_records s b)

-- places one after another
pub places_then : (s : Section) (b : Built) (rs : List Record) (is js : List ℕ) → with_records s (with_records s b (map record_of (at_places rs is))) (map record_of (at_places rs js)) ≡ with_records s b (map record_of (at_places rs (is ++ js)))
places_then s b rs is js =
    records_then s b (map record_of (at_places rs is)) (map record_of (at_places rs js))
    ∙ ap (with_records s b) (sym (ap (map record_of) (filter_map-append (slice_get rs) is js) ∙ map-append record_of (at_places rs is) (at_places rs js)))

-- records without room have none with others after them
pub then_refused : (s : Section) (b new new' : Built) (xs ys : List ResourceRecord) (more : Built) (e : PushError) → Becomes new (with_records s b xs) (Err e) → with_records s b (xs ++ ys) ≡ more → Becomes new' more (Err e)
then_refused s b new new' xs ys more ShortBuf p h =
    let g = grows s (with_records s b xs) ys in
    let i = ap (λ (k : Built). length (wire k.message)) (records_then s b xs ys ∙ h) in
    let j = ap (λ (k : Built). k.limit) h in
    omega (arith, g, i, j, p, limit_stays s b xs, limit_stays s b (xs ++ ys))
then_refused s b new new' xs ys more NoMemory p h = tt

-- a place among several without room
pub place_refused : (s : Section) (b new new' : Built) (rs : List Record) (is : List ℕ) (i : ℕ) (more : Built) (e : PushError) → i < length is → Becomes new (with_records s b (map record_of (at_places rs (get_or is i 0 ∷ [])))) (Err e) →
    with_records s b (map record_of (at_places rs (drop i is))) ≡ more → Becomes new' more (Err e)
place_refused s b new new' rs is i more e h p same =
    let x = get_or is i 0 in
    let rest = drop (i + 1) is in
    let d : drop i is ≡ x ∷ rest = drop_more is i 0 h in
    let f : map record_of (at_places rs (x ∷ rest)) ≡ map record_of (at_places rs (x ∷ [])) ++ map record_of (at_places rs rest) =
    ap (map record_of) (filter_map-append (slice_get rs) (x ∷ []) rest) ∙ map-append record_of (at_places rs (x ∷ [])) (at_places rs rest)
    in
    then_refused s b new new' (map record_of (at_places rs (x ∷ []))) (map record_of (at_places rs rest)) more e p
    (ap (with_records s b) (sym f) ∙ (ap (λ l. with_records s b (map record_of (at_places rs l))) (sym d) ∙ same))

get_past : (rs : List Record) (i : ℕ) → length rs ≤ i → slice_get rs i ≡ None
get_past [] i h = refl
get_past (x ∷ rs) zero h = absurd (omega arith)
get_past (x ∷ rs) (suc i) h = get_past rs i (omega arith)

-- no record is at a place past the last
pub none_pushed : (s : Section) (b : Built) (rs : List Record) (i : ℕ) → length rs ≤ i → KeepsLimit b → (b ≡ with_records s b (map record_of (at_places rs (i ∷ [])))) × KeepsLimit (with_records s b (map record_of (at_places rs (i ∷ []))))
none_pushed s b rs i h k =
    let e = place_empty s b rs i (get_past rs i h) in
    (e, subst KeepsLimit e k)

-- ---- replies

-- what has no room has none within more
pub more_refused : (m n : Msg) (e : PushError) → length (wire m) ≤ length (wire n) → Builds (unlimited m) (Err e) → Builds (unlimited n) (Err e)
more_refused m n ShortBuf s h = omega (arith, s, h)
more_refused m n NoMemory s h = tt

pub begun_within : (o : List ℕ) (r : ZoneReply) → length (wire (zone_begun o r.rcode r.aa)) ≤ length (wire (zone_message o r))
begun_within o r = omega (arith, wire_size (zone_begun o r.rcode r.aa), wire_size (zone_message o r))

-- ---- questions that are copied

no_room_step : (b : Built) (q : Question) (qs : List Question) (w : Bool) → nat_le (length (wire (with_question b q).message)) b.limit ≡ w →
    ((with_copied (with_question b q) qs).1 ≡ false → b.limit < length (wire (with_questions (with_question b q) qs).message)) →
    (if w then with_copied (with_question b q) qs else (b, false)).1 ≡ false → b.limit < length (wire (with_questions (with_question b q) qs).message)
no_room_step b q qs true e ih h = ih h
no_room_step b q qs false e ih h =
    let l : b.limit < length (wire (with_question b q).message) = grind (arith, nat_tests) in
    omega (arith, l, questions_grow (with_question b q) qs)

no_room : (b : Built) (qs : List Question) → (with_copied b qs).1 ≡ false → b.limit < length (wire (with_questions b qs).message)
no_room b [] h = absurd (cc)
no_room b (q ∷ qs) h =
    let i = ap (λ (k : Built). length (wire k.message)) (question_first b q qs) in
    omega (arith, i, no_room_step b q qs (within_limit (with_question b q)) refl (no_room (with_question b q) qs) h)

-- a reply that isn't begun has no room
pub begun_refused : (o : List ℕ) (rcode : ℕ) (aa : Bool) → have_room (unlimited empty) o rcode ≡ false → 65535 < length (wire (zone_begun o rcode aa))
begun_refused o rcode aa h =
    let b = with_header (unlimited empty) (answer_header empty.header (header_of o) rcode) in
    let l = no_room b (questions_of o).0 h in
    omega (arith, l, wire_size (with_questions b (questions_of o).0).message, wire_size (zone_begun o rcode aa))

pub start_refused : (b : Built) (o : List ℕ) (rcode : ℕ) (aa : Bool) (e : PushError) → b ≡ unlimited empty → Answers b o rcode (Err e) → Builds (unlimited (zone_begun o rcode aa)) (Err e)
start_refused b o rcode aa ShortBuf i h = begun_refused o rcode aa (ap (λ (k : Built). have_room k o rcode) (sym i) ∙ h)
start_refused b o rcode aa NoMemory i h = tt

-- a reply whose beginning has no room has none
pub begun_short : (o : List ℕ) (r : ZoneReply) (code : ℕ) (e : PushError) → code ≡ r.rcode → Builds (unlimited (zone_begun o code r.aa)) (Err e) → Builds (unlimited (zone_message o r)) (Err e)
begun_short o r code e i h =
    more_refused (zone_begun o r.rcode r.aa) (zone_message o r) e (begun_within o r) (subst (λ (k : ℕ). Builds (unlimited (zone_begun o k r.aa)) (Err e)) i h)

-- data of one more record can be written
pub lawful_more : (rs : List Record) (r : Record) → AreLawful rs → IsLawful r.rdata → AreLawful (rs ++ r ∷ [])
lawful_more [] r h k = (k, tt)
lawful_more (x ∷ rs) r h k = (h.0, lawful_more rs r h.1 k)

some_lawful : (p : Record → Bool) (rs : List Record) → AreLawful rs → AreLawful (filter p rs)
some_lawful p [] h = tt
some_lawful p (r ∷ rs) h = elim (p r) as (λ (b : Bool). AreLawful (cond b (r ∷ filter p rs) (filter p rs))) [ true ↦ (h.0, some_lawful p rs h.1) | false ↦ some_lawful p rs h.1 ]

first_lawful : (rs : List Record) (n : Record) → AreLawful rs → map negative_soa rs ≡ n ∷ [] → IsLawful n.rdata
first_lawful [] n h e = absurd (cc)
first_lawful (x ∷ rs) n h e =
    let i : negative_soa x ≡ n = cc in
    subst HasLawfulData i h.0

-- the SOA record of negative answers can be written
pub negative_lawful : (rs : List Record) (n : Record) → AreLawful rs → map negative_soa (filter (is_of 6) rs) ≡ n ∷ [] → IsLawful n.rdata
negative_lawful rs n h e = first_lawful (filter (is_of 6) rs) n (some_lawful (is_of 6) rs h) e

builds_none : (new more : Built) (e : PushError) → Becomes new more (Err e) → Builds more (Err e)
builds_none new more ShortBuf h = h
builds_none new more NoMemory h = tt

-- if the name servers of a cut have no room
pub delegation_short : (o : List ℕ) (z rs : List Record) (b new : Built) (servers : List ℕ) (e : PushError) → b ≡ unlimited (zone_begun o 0 false) → rs ≡ z →
    Becomes new (with_records Authority b (map record_of (at_places rs servers))) (Err e) → Builds (unlimited (zone_message o (delegation (at_places z servers)))) (Err e)
delegation_short o z rs b new servers e i j h =
    let m = zone_message o (delegation (at_places z servers)) in
    let k : with_records Authority b (map record_of (at_places rs servers)) ≡ unlimited m = ap (λ (c : Built). with_records Authority c (map record_of (at_places rs servers))) i ∙ ap (λ l. with_records Authority (unlimited (zone_begun o 0 false)) (map record_of (at_places l servers))) j in
    builds_none new (unlimited m) e (subst (λ (c : Built). Becomes new c (Err e)) k h)

-- a referral whose authority section has no room has none
pub referral_short : (o : List ℕ) (z : ZoneState) (servers : List Record) (e : PushError) → Builds (unlimited (zone_message o (delegation servers))) (Err e) → Builds (unlimited (zone_message o (referral z servers))) (Err e)
referral_short o z servers e h =
    let m = zone_message o (delegation servers) in
    let n = zone_message o (referral z servers) in
    more_refused m n e (omega (arith, wire_size m, wire_size n)) h

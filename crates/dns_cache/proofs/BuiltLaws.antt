-- Messages that are built of marked records.
use Rattle.std.proofs.Common.{◌≡◌, ℕ, suc, ◌+◌, ◌-◌, ◌≤◌, ◌<◌, true, false, List, [], ◌∷◌, ◌++◌, map, length, take, drop, get_or, Option, None, Result, Ok, Err, refl, ap, ap₂, sym, subst, ◌∙◌, arith, append-nil, length-append}
use Rattle.std.specs.Prelude.{nat_eq, if◌then◌else◌, flat_map, option_map, OnOk}
use Rattle.std.specs.List.{AllByRecursion}
use Rattle.std.proofs.lemmas.List.{map-append, length-map, drop_at, take_at}
use Rattle.std.proofs.Math.Seq.{drop-cons}
use Rattle.std.proofs.lemmas.Grind.{flat_map-append}
use Rattle.dns_name.specs.Place.{four}
use Rattle.dns_message.specs.declared.header.Header.{Header}
use Rattle.dns_message.specs.declared.header.HeaderCounts.{HeaderCounts}
use Rattle.dns_message.specs.declared.question.Question.{Question}
use Rattle.dns_base.specs.declared.draft.Section.{Section}
use Rattle.dns_base.specs.declared.error.PushError.{PushError}
use Rattle.dns_base.specs.Builds.{Becomes, unlimited, with_records}
use Rattle.dns_base.specs.Built.{Built, Pushes, with_record}
use Rattle.dns_base.specs.Header.{header_of}
use Rattle.dns_base.specs.Msg.{HasOwner, IsMessage, Msg, ResourceRecord}
use Rattle.dns_base.specs.Replaced.{other_than}
use Rattle.dns_base.specs.Sections.{counts_of, message_of, questions_of}
use Rattle.dns_base.specs.Wire.{record_octets, wire}
use Rattle.dns_base.proofs.BuildLaws.{push_refused_at, wire_size}
use Rattle.dns_base.proofs.Pushed.{counts_are}
use Rattle.dns_base.proofs.RecordsInWireForm.{spelt_by}
use Rattle.dns_opt.specs.OptRecords.{OptState, listed, opt_record_among, opt_state_of}
use Rattle.dns_opt.specs.Reopened.{opt_among}
use Rattle.dns_route.specs.OwnReplies.{kept_whole}
use Rattle.dns_route.specs.ReplyMessage.{reply_message, reply_with_opt}
use Rattle.dns_service.specs.Copied.{copied}
use Rattle.dns_cache.specs.Aged.{aged, aged_record, asked_header}
use Rattle.dns_cache.specs.AgedRecords.{AreMarkedRecords, AreTheirs, IsMarkedRecord, aged_records, first_record, record_in}
use Rattle.dns_cache.specs.AskedCache.{bare_octets}
use Rattle.dns_cache.specs.Marks.{IsKept, aged_ttl, mark_of, marked_size}
use Rattle.dns_cache.specs.Ttls.{records_of}
use Rattle.dns_cache.specs.declared.marks.Mark.{Mark}
use Rattle.dns_cache.proofs.AgedLaws.{one_aged, same_size}
use Rattle.dns_cache.proofs.KeptLaws.{bare_copied}
use Rattle.dns_cache.proofs.MarkLaws.{size_of}
use Rattle.dns_cache.proofs.TypedLaws.{same_owner}

-- ---- one record

in_octets : (r : ResourceRecord) → HasOwner r → record_in (record_octets r) ≡ r
in_octets r h = ap first_record (spelt_by (record_octets r) 1 (r ∷ []) (sym (append-nil (record_octets r))) refl (h, tt)).1

one_marked : (r : ResourceRecord) → HasOwner r → length (record_octets r) ≤ 65535 → IsMarkedRecord (mark_of r) (record_octets r)
one_marked r h s =
    let e : r ≡ record_in (record_octets r) = sym (in_octets r h) in
    record { named = subst HasOwner e h; whole = ap record_octets e; marked = ap mark_of e; short = s }

module _ (age : ℕ) (k : Mark) (o : List ℕ) (m : IsMarkedRecord k o) where
  pub aged_size : length o ≡ length (record_octets (aged_record age (record_in o)))
  aged_size = ap length m.whole ∙ sym (same_size age (record_in o))

  pub aged_owner : HasOwner (aged_record age (record_in o))
  aged_owner = subst (λ (n : List (List ℕ)). HasOwner (record (record_in o) { owner = n })) (sym (same_owner age (record_in o))) m.named

  -- its octets round its TTL at an age
  pub octets_lowered : take k.before o ++ (four (aged_ttl age k) ++ drop (k.before + 4) o) ≡ record_octets (aged_record age (record_in o))
  octets_lowered =
      (λ i. take (m.marked i).before (m.whole i) ++ (four (aged_ttl age (m.marked i)) ++ drop ((m.marked i).before + 4) (m.whole i)))
      ∙ one_aged age (record_in o)

-- what holds if a call is well, if something else does
pub ok_weaker : {A E : Type 0} (r : Result A E) {P Q : Type 0} → (P → Q) → OnOk r P → OnOk r Q
ok_weaker (Ok x) f h = f h
ok_weaker (Err e) f h = h

-- ---- records

pub are_marked : (rs : List ResourceRecord) → AllByRecursion HasOwner rs → length (flat_map record_octets rs) ≤ 65535 → AreMarkedRecords (map mark_of rs) (flat_map record_octets rs)
are_marked [] h s = tt
are_marked (r ∷ rs) h s =
    let more = flat_map record_octets rs in
    let l = length-append (record_octets r) more in (
      omega (arith, l),
      subst (IsMarkedRecord (mark_of r)) (sym (take_at (record_octets r) more (length (record_octets r)) refl)) (one_marked r h.0 (omega (arith, s, l))),
      subst (AreMarkedRecords (map mark_of rs)) (sym (drop_at (record_octets r) more (length (record_octets r)) refl)) (are_marked rs h.1 (omega (arith, s, l))),
    )

pub aged_same : (age : ℕ) (rs : List ResourceRecord) → AllByRecursion HasOwner rs → aged_records age (map mark_of rs) (flat_map record_octets rs) ≡ map (aged_record age) rs
aged_same age [] h = refl
aged_same age (r ∷ rs) h =
    let more = flat_map record_octets rs in
    ap₂ (λ (x : ResourceRecord) (l : List ResourceRecord). aged_record age x ∷ l)
    (ap record_in (take_at (record_octets r) more (length (record_octets r)) refl) ∙ in_octets r h.0)
    (ap (aged_records age (map mark_of rs)) (drop_at (record_octets r) more (length (record_octets r)) refl) ∙ aged_same age rs h.1)

module _ (rs : List ResourceRecord) (marks : List Mark) (o : List ℕ) (t : AreTheirs rs marks o) where
  pub theirs_marked : AllByRecursion HasOwner rs → length (flat_map record_octets rs) ≤ 65535 → AreMarkedRecords marks o
  theirs_marked h s =
      subst (λ (ks : List Mark). AreMarkedRecords ks o) (sym t.0) (subst (AreMarkedRecords (map mark_of rs)) (sym t.1) (are_marked rs h s))

  pub theirs_aged : (age : ℕ) → AllByRecursion HasOwner rs → aged_records age marks o ≡ map (aged_record age) rs
  theirs_aged age h = ap₂ (aged_records age) t.0 t.1 ∙ aged_same age rs h

-- the first of two parts, and what is behind them
pub parts : (xs ys : List ResourceRecord) (marks : List Mark) (o : List ℕ) (n size : ℕ) → length xs ≡ n → size ≡ length o - (length o - marked_size (take n marks)) → AreTheirs (xs ++ ys) marks o
    → AreTheirs xs (take n marks) (take size o) × AreTheirs ys (drop n marks) (drop size o)
parts xs ys marks o n size l s t =
    let a : marks ≡ map mark_of xs ++ map mark_of ys = t.0 ∙ map-append mark_of xs ys in
    let b : o ≡ flat_map record_octets xs ++ flat_map record_octets ys = t.1 ∙ flat_map-append record_octets xs ys in
    let k : length (map mark_of xs) ≡ n = length-map xs mark_of ∙ l in
    let first : take n marks ≡ map mark_of xs = ap (take n) a ∙ take_at (map mark_of xs) (map mark_of ys) n k in
    let m : marked_size (take n marks) ≡ length (flat_map record_octets xs) = ap marked_size first ∙ size_of xs in
    let all : length o ≡ length (flat_map record_octets xs) + length (flat_map record_octets ys) = ap length b ∙ length-append (flat_map record_octets xs) (flat_map record_octets ys) in
    let z : length (flat_map record_octets xs) ≡ size = omega (arith, s, m, all) in (
      (first, ap (take size) b ∙ take_at (flat_map record_octets xs) (flat_map record_octets ys) size z),
      (ap (drop n) a ∙ drop_at (map mark_of xs) (map mark_of ys) n k, ap (drop size) b ∙ drop_at (flat_map record_octets xs) (flat_map record_octets ys) size z),
    )

-- there are as many marks as records
pub theirs_many : (xs ys : List ResourceRecord) (marks : List Mark) (o : List ℕ) (n : ℕ) → length xs ≡ n → AreTheirs (xs ++ ys) marks o → n ≤ length marks
theirs_many xs ys marks o n l t = omega (arith, l, ap length t.0, length-map (xs ++ ys) mark_of, length-append xs ys)

-- an aged record without room, then also those after it
pub refused_aged : (s : Section) (b new : Built) (age : ℕ) (ks : List Mark) (i : ℕ) (k : Mark) (o first : List ℕ) (more : Built) (e : PushError) → i < length ks → first ≡ take (get_or ks i k).size o
    → Pushes b new (with_record s b (aged_record age (record_in first))) (Err e) → with_records s b (aged_records age (drop i ks) o) ≡ more → Becomes new more (Err e)
refused_aged s b new age ks i k o first more e l f p same =
    let m : Mark = get_or ks i k in
    let x : ResourceRecord = aged_record age (record_in (take m.size o)) in
    let xs : List ResourceRecord = x ∷ aged_records age (drop (suc i) ks) (drop m.size o) in
    let left : aged_records age (drop i ks) o ≡ xs = ap (λ (l : List Mark). aged_records age l o) (drop-cons ks i k l) in
    push_refused_at s b new 0 xs x more new e (omega arith) refl
    (subst (λ (y : List ℕ). Pushes b new (with_record s b (aged_record age (record_in y))) (Err e)) f p)
    (ap (with_records s b) (sym left) ∙ same)

-- ---- messages

-- the records of each section are short
pub short_sections : (m : Msg) → length (wire m) ≤ 65535 → (length (flat_map record_octets m.answers) ≤ 65535) × (length (flat_map record_octets m.authority) ≤ 65535) × (length (flat_map record_octets m.additional) ≤ 65535)
short_sections m h = let w = wire_size m in (omega (arith, w, h), omega (arith, w, h), omega (arith, w, h))

-- what the header of a kept message says of its records, and their marks and octets
module _ (o : List ℕ) (start : ℕ) (marks : List Mark) (k : IsKept o start marks) where
  pub answers_many : (n : HeaderCounts) → n ≡ counts_of o → length (message_of o).answers ≡ n.ancount
  answers_many n e = sym (ap (λ (x : HeaderCounts). x.ancount) (e ∙ counts_are (message_of o) o k.whole))

  pub authority_many : (n : HeaderCounts) → n ≡ counts_of o → length (message_of o).authority ≡ n.nscount
  authority_many n e = sym (ap (λ (x : HeaderCounts). x.nscount) (e ∙ counts_are (message_of o) o k.whole))

  pub theirs_all : (octets : List ℕ) → octets ≡ drop start o → AreTheirs (records_of (message_of o)) marks octets
  theirs_all octets e = (k.marked, e ∙ k.begins)

header_same : (o : List ℕ) → header_of o ≡ (message_of o).header
unfolding message_of
header_same o = refl

-- what is built of a kept message's sections is that message at an age
pub aged_is : (o : List ℕ) (request : List ℕ) (q : Question) (age : ℕ) (h : Header) (an ns ar : List ResourceRecord) → h ≡ asked_header (header_of o) (header_of request) → (questions_of request).0 ≡ q ∷ []
    → an ≡ map (aged_record age) (message_of o).answers → ns ≡ map (aged_record age) (message_of o).authority → ar ≡ map (aged_record age) (message_of o).additional
    → unlimited (record { header = h; questions = q ∷ []; answers = an; authority = ns; additional = ar }) ≡ unlimited (aged (message_of o) request age)
aged_is o request q age h an ns ar e asked a b c =
    let f : h ≡ asked_header (message_of o).header (header_of request) = e ∙ ap (λ (x : Header). asked_header x (header_of request)) (header_same o) in
    λ i. unlimited (record { header = f i; questions = sym asked i; answers = a i; authority = b i; additional = c i })

-- ---- replies

others_few : (rs : List ResourceRecord) → length (other_than 41 rs) ≤ length rs
others_few [] = omega arith
others_few (r ∷ rs) = elim (nat_eq r.rtype 41) as (λ b. length (if b then other_than 41 rs else r ∷ other_than 41 rs) ≤ length (r ∷ rs)) [
  | true ↦ omega (arith, others_few rs)
  | false ↦ omega (arith, others_few rs)
]

none_among : (rs : List ResourceRecord) → length (other_than 41 rs) ≡ length rs → opt_record_among rs ≡ None
none_among [] h = refl
none_among (r ∷ rs) h = (elim (nat_eq r.rtype 41) as (λ b. length (if b then other_than 41 rs else r ∷ other_than 41 rs) ≡ length (r ∷ rs) → (if b then listed r else opt_record_among rs) ≡ None) [
  | true ↦ λ e. absurd (omega (arith, e, others_few rs))
  | false ↦ λ e. none_among rs (omega (arith, e))
]) h

-- a message that is copied as itself is what the reply that is kept as built gives, and its octets are bare
module _ (m : Msg) (c : copied (wire m) ≡ Ok m) where
  bare : other_than 41 m.additional ≡ m.additional
  bare = bare_copied (wire m) m c

  pub whole_reply : reply_message (kept_whole m) ≡ Ok m
  whole_reply =
      let none : opt_among m.additional ≡ None = ap (option_map opt_state_of) (none_among m.additional (ap length bare)) in
      ap (λ (o : Option OptState). reply_with_opt o (copied (wire m))) none ∙ ap (reply_with_opt None) c

  pub whole_bare : wire m ≡ bare_octets m
  whole_bare = ap (λ (l : List ResourceRecord). wire (record m { additional = l })) (sym bare)

-- what is built of a kept message is copied as itself
pub built_copied : (o : List ℕ) (start : ℕ) (marks : List Mark) (request : List ℕ) (age : ℕ) (b : Built) → IsKept o start marks → b ≡ unlimited (aged (message_of o) request age) → IsMessage b.message → copied (wire b.message) ≡ Ok b.message
built_copied o start marks request age b k e l =
    subst (λ (x : Built). copied (wire x.message) ≡ Ok x.message) (sym e) (k.copies request age None tt (subst (λ (x : Built). IsMessage x.message) e l))

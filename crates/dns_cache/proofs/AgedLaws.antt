-- The octets of messages whose TTLs are lowered.
use Rattle.std.proofs.Common.{◌≡◌, ℕ, ◌+◌, ◌-◌, true, false, List, [], ◌∷◌, ◌++◌, map, length, take, drop, Option, Some, None, refl, ap, ap₂, sym, subst, ◌∙◌, arith, append_assoc, append-nil, length-append}
use Rattle.std.specs.Prelude.{nat_eq, if◌then◌else◌, flat_map}
use Rattle.std.proofs.lemmas.List.{map-append, length-map, drop_at, take_at}
use Rattle.std.proofs.lemmas.Grind.{flat_map-append}
use Rattle.dns_name.specs.Labels.{spell}
use Rattle.dns_name.specs.Place.{two, four}
use Rattle.dns_message.specs.declared.question.Question.{Question}
use Rattle.dns_base.specs.Header.{header_octets, header_of}
use Rattle.dns_base.specs.Msg.{Msg, ResourceRecord}
use Rattle.dns_base.specs.Sections.{questions_of}
use Rattle.dns_base.specs.Wire.{counts, question_octets, record_octets, wire}
use Rattle.dns_opt.specs.OptRecords.{OptState, opt_record}
use Rattle.dns_service.specs.LastOpt.{and_opt}
use Rattle.dns_cache.specs.Aged.{aged, aged_record, asked_header}
use Rattle.dns_cache.specs.Marks.{MarksFit, aged_octets, aged_ttl, mark_of, opt_size}
use Rattle.dns_cache.specs.Ttls.{records_of}

-- ---- one record

-- what stands before its TTL, and after it
abbrev front : ResourceRecord → List ℕ
front r = spell r.owner ++ (two r.rtype ++ two r.class)

abbrev back : ResourceRecord → List ℕ
back r = two (length r.rdata) ++ r.rdata

front_size : (r : ResourceRecord) → length (front r) ≡ length (spell r.owner) + 4
front_size r = length-append (spell r.owner) (two r.rtype ++ two r.class)

parted : (r : ResourceRecord) → record_octets r ≡ front r ++ (four r.ttl ++ back r)
parted r = sym (append_assoc (spell r.owner) (two r.rtype ++ two r.class) (four r.ttl ++ back r))

aged_parted : (age : ℕ) (r : ResourceRecord) → record_octets (aged_record age r) ≡ front r ++ (four (aged_ttl age (mark_of r)) ++ back r)
aged_parted age r = elim (nat_eq r.rtype 41) as (λ b. record_octets (if b then r else record r { ttl = r.ttl - age }) ≡ front r ++ (four (if b then r.ttl else r.ttl - age) ++ back r)) [
  | true ↦ parted r
  | false ↦ parted (record r { ttl = r.ttl - age })
]

four_more : (n : ℕ) (o : List ℕ) → length (four n ++ o) ≡ 4 + length o
four_more n o = omega arith

record_size : (r : ResourceRecord) → length (record_octets r) ≡ length (spell r.owner) + 4 + (4 + length (back r))
record_size r = omega (arith, ap length (parted r), length-append (front r) (four r.ttl ++ back r), front_size r, four_more r.ttl (back r))

pub same_size : (age : ℕ) (r : ResourceRecord) → length (record_octets (aged_record age r)) ≡ length (record_octets r)
same_size age r = omega (arith, ap length (aged_parted age r), length-append (front r) (four (aged_ttl age (mark_of r)) ++ back r), front_size r, four_more (aged_ttl age (mark_of r)) (back r), record_size r)

behind_ttl : (r : ResourceRecord) → drop (length (spell r.owner) + 4 + 4) (record_octets r) ≡ back r
behind_ttl r =
    ap (drop (length (spell r.owner) + 4 + 4)) (parted r ∙ sym (append_assoc (front r) (four r.ttl) (back r)))
    ∙ drop_at (front r ++ four r.ttl) (back r) (length (spell r.owner) + 4 + 4) (length-append (front r) (four r.ttl) ∙ ap (λ n. n + 4) (front_size r))

-- a record's octets round its TTL at an age
pub one_aged : (age : ℕ) (r : ResourceRecord) → take (mark_of r).before (record_octets r) ++ (four (aged_ttl age (mark_of r)) ++ drop ((mark_of r).before + 4) (record_octets r)) ≡ record_octets (aged_record age r)
one_aged age r =
    let before : take (length (spell r.owner) + 4) (record_octets r) ≡ front r = ap (take (length (spell r.owner) + 4)) (parted r) ∙ take_at (front r) (four r.ttl ++ back r) (length (spell r.owner) + 4) (front_size r) in
    ap₂ (λ x y. x ++ (four (aged_ttl age (mark_of r)) ++ y)) before (behind_ttl r) ∙ sym (aged_parted age r)

-- ---- records

module _ (age : ℕ) (r : ResourceRecord) (more : List ℕ) where
  before_ttl : take (length (spell r.owner) + 4) (record_octets r ++ more) ≡ front r
  before_ttl =
      ap (λ o. take (length (spell r.owner) + 4) (o ++ more)) (parted r)
      ∙ (ap (take (length (spell r.owner) + 4)) (append_assoc (front r) (four r.ttl ++ back r) more)
      ∙ take_at (front r) ((four r.ttl ++ back r) ++ more) (length (spell r.owner) + 4) (front_size r))

  whole_record : take (length (record_octets r)) (record_octets r ++ more) ≡ record_octets r
  whole_record = take_at (record_octets r) more (length (record_octets r)) refl

pub records_aged : (age : ℕ) (rs : List ResourceRecord) → aged_octets age (map mark_of rs) (flat_map record_octets rs) ≡ flat_map record_octets (map (aged_record age) rs)
records_aged age [] = refl
records_aged age (r ∷ rs) =
    let more = flat_map record_octets rs in
    let o = record_octets r ++ more in
    let k = mark_of r in
    let a : take k.before o ≡ front r = before_ttl age r more in
    let b : drop (k.before + 4) (take k.size o) ≡ back r = ap (drop (k.before + 4)) (whole_record age r more) ∙ behind_ttl r in
    let c : aged_octets age (map mark_of rs) (drop k.size o) ≡ flat_map record_octets (map (aged_record age) rs) = ap (aged_octets age (map mark_of rs)) (drop_at (record_octets r) more k.size refl) ∙ records_aged age rs in
    let t = four (aged_ttl age k) in
    let rest = flat_map record_octets (map (aged_record age) rs) in
    ap (λ x. x ++ (t ++ (drop (k.before + 4) (take k.size o) ++ aged_octets age (map mark_of rs) (drop k.size o)))) a
    ∙ (ap (λ x. front r ++ (t ++ (x ++ aged_octets age (map mark_of rs) (drop k.size o)))) b
    ∙ (ap (λ x. front r ++ (t ++ (back r ++ x))) c
    ∙ (ap (λ x. front r ++ x) (sym (append_assoc t (back r) rest))
    ∙ (sym (append_assoc (front r) (t ++ back r) rest)
    ∙ ap (λ x. x ++ rest) (sym (aged_parted age r))))))

pub marks_fit : (rs : List ResourceRecord) → MarksFit (map mark_of rs) (flat_map record_octets rs)
marks_fit [] = tt
marks_fit (r ∷ rs) =
    let more = flat_map record_octets rs in
    (omega (arith, record_size r), omega (arith, length-append (record_octets r) more), subst (MarksFit (map mark_of rs)) (sym (drop_at (record_octets r) more (length (record_octets r)) refl)) (marks_fit rs))

pub sizes_aged : (age : ℕ) (rs : List ResourceRecord) → length (flat_map record_octets (map (aged_record age) rs)) ≡ length (flat_map record_octets rs)
sizes_aged age [] = refl
sizes_aged age (r ∷ rs) =
    length-append (record_octets (aged_record age r)) (flat_map record_octets (map (aged_record age) rs))
    ∙ (ap₂ (λ a b. a + b) (same_size age r) (sizes_aged age rs)
    ∙ sym (length-append (record_octets r) (flat_map record_octets rs)))

-- ---- messages

-- the octets of three sections of records
sections : (f : ResourceRecord → List ℕ) (xs ys zs : List ResourceRecord) → flat_map f xs ++ (flat_map f ys ++ flat_map f zs) ≡ flat_map f (xs ++ (ys ++ zs))
sections f xs ys zs = ap (λ l. flat_map f xs ++ l) (sym (flat_map-append f ys zs)) ∙ sym (flat_map-append f xs (ys ++ zs))

-- what stands before the records
abbrev head : Msg → List ℕ
head m = header_octets m.header ++ (counts m ++ flat_map question_octets m.questions)

pub wire_parts : (m : Msg) → wire m ≡ head m ++ flat_map record_octets (records_of m)
unfolding wire
wire_parts m =
    let qs = flat_map question_octets m.questions in
    let rs = flat_map record_octets (records_of m) in
    ap (λ l. header_octets m.header ++ (counts m ++ (qs ++ l))) (sections record_octets m.answers m.authority m.additional)

pub records_begin : (m : Msg) (n : ℕ) → n ≡ length (flat_map record_octets (records_of m)) → drop (length (wire m) - n) (wire m) ≡ flat_map record_octets (records_of m)
records_begin m n e =
    let rs = flat_map record_octets (records_of m) in
    let l : length (wire m) ≡ length (head m) + length rs = ap length (wire_parts m) ∙ length-append (head m) rs in
    ap (drop (length (wire m) - n)) (wire_parts m) ∙ drop_at (head m) rs (length (wire m) - n) (omega (arith, l, e))

records_aged_all : (m : Msg) (request : List ℕ) (age : ℕ) → records_of (aged m request age) ≡ map (aged_record age) (records_of m)
records_aged_all m request age =
    let f = aged_record age in
    ap (λ l. map f m.answers ++ l) (sym (map-append f m.authority m.additional)) ∙ sym (map-append f m.answers (m.authority ++ m.additional))

-- the counts of the records stand after that of the questions
record_counts : (m : Msg) → take 6 (drop 6 (wire m)) ≡ two (length m.answers) ++ (two (length m.authority) ++ two (length m.additional))
unfolding wire
record_counts m = refl

pub wire_aged : (m : Msg) (request : List ℕ) (age : ℕ) (q : Question) → (questions_of request).0 ≡ q ∷ [] → (header_octets (asked_header m.header (header_of request)) ++ (0 ∷ 1 ∷ (take 6 (drop 6 (wire m)) ++ question_octets q))) ++ flat_map record_octets (map (aged_record age) (records_of m)) ≡ wire (aged m request age)
wire_aged m request age q e =
    let x = aged m request age in
    let h = header_octets (asked_header m.header (header_of request)) in
    let c : take 6 (drop 6 (wire m)) ≡ two (length x.answers) ++ (two (length x.authority) ++ two (length x.additional)) =
    record_counts m ∙ sym (ap₂ (λ a b. two a ++ b) (length-map m.answers (aged_record age)) (ap₂ (λ a b. two a ++ two b) (length-map m.authority (aged_record age)) (length-map m.additional (aged_record age))))
    in
    let one : (question_octets q ++ []) ≡ question_octets q = append-nil (question_octets q) in
    ap (λ l. (h ++ (0 ∷ 1 ∷ (l ++ question_octets q))) ++ flat_map record_octets (map (aged_record age) (records_of m))) c
    ∙ (ap (λ l. (h ++ (0 ∷ 1 ∷ ((two (length x.answers) ++ (two (length x.authority) ++ two (length x.additional))) ++ l))) ++ flat_map record_octets (map (aged_record age) (records_of m))) (sym one)
    ∙ (ap (λ (qs : List Question). (h ++ (two (length qs) ++ ((two (length x.answers) ++ (two (length x.authority) ++ two (length x.additional))) ++ flat_map question_octets qs))) ++ flat_map record_octets (map (aged_record age) (records_of m))) (sym e)
    ∙ (ap (λ rs. head x ++ flat_map record_octets rs) (sym (records_aged_all m request age))
    ∙ sym (wire_parts x))))

-- ---- how long they are

opt_octets_size : (s : OptState) → length (record_octets (opt_record s)) ≡ 11 + length s.options
opt_octets_size s = omega arith

with_opt_size : (m : Msg) (opt : Option OptState) → length (flat_map record_octets (records_of (and_opt m opt))) ≡ length (flat_map record_octets (records_of m)) + opt_size opt
with_opt_size m None = omega arith
with_opt_size m (Some s) =
    let a = append_assoc m.authority m.additional (opt_record s ∷ []) in
    let b : records_of (and_opt m (Some s)) ≡ records_of m ++ opt_record s ∷ [] = ap (λ l. m.answers ++ l) (sym a) ∙ sym (append_assoc m.answers (m.authority ++ m.additional) (opt_record s ∷ [])) in
    let c : flat_map record_octets (records_of (and_opt m (Some s))) ≡ flat_map record_octets (records_of m) ++ (record_octets (opt_record s) ++ []) = ap (flat_map record_octets) b ∙ flat_map-append record_octets (records_of m) (opt_record s ∷ []) in
    omega (arith, ap length c, length-append (flat_map record_octets (records_of m)) (record_octets (opt_record s) ++ []), ap length (append-nil (record_octets (opt_record s))), opt_octets_size s)

pub aged_size : (m : Msg) (opt : Option OptState) (request : List ℕ) (age : ℕ) (q : Question) → (questions_of request).0 ≡ q ∷ [] → length (wire (and_opt (aged m request age) opt)) ≡ 12 + length (question_octets q) + length (flat_map record_octets (records_of m)) + opt_size opt
aged_size m opt request age q e =
    let x = aged m request age in
    let rs = flat_map record_octets (records_of x) in
    let same : length rs ≡ length (flat_map record_octets (records_of m)) = ap (λ l. length (flat_map record_octets l)) (records_aged_all m request age) ∙ sizes_aged age (records_of m) in
    let qs : length (flat_map question_octets x.questions) ≡ length (question_octets q) = ap (λ (l : List Question). length (flat_map question_octets l)) e ∙ ap length (append-nil (question_octets q)) in
    let l : length (wire (and_opt x opt)) ≡ length (head (and_opt x opt)) + length (flat_map record_octets (records_of (and_opt x opt))) = ap length (wire_parts (and_opt x opt)) ∙ length-append (head (and_opt x opt)) (flat_map record_octets (records_of (and_opt x opt))) in
    omega (arith, l, head_size opt x, qs, with_opt_size x opt, same)
  where
    head_size : (opt : Option OptState) (y : Msg) → length (head (and_opt y opt)) ≡ 12 + length (flat_map question_octets y.questions)
    head_size None y = omega arith
    head_size (Some s) y = omega arith

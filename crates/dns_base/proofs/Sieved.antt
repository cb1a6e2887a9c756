-- Records of other types among those that stand in a message.
use Rattle.std.proofs.Common.{◌≡◌, ℕ, zero, suc, ◌+◌, ◌-◌, ◌/◌, ◌%◌, ◌≤◌, ◌<◌, true, false, List, [], ◌∷◌, ◌++◌, length, drop, take, slice_set, nat_eq, if◌then◌else◌, refl, ap, sym, subst, ◌∙◌, ◌⊎◌, inl, inr, arith, length-append, length-drop, append_assoc}
use Rattle.std.specs.List.{AllByRecursion}
use Rattle.std.proofs.lemmas.List.{drop-drop, take-append-le}
use Rattle.std.proofs.Math.Seq.{take-append_seam}
use Rattle.dns_base.specs.Msg.{ResourceRecord, HasOwner}
use Rattle.dns_base.specs.Wire.{record_octets}
use Rattle.dns_base.specs.Standing.{record_at}
use Rattle.dns_base.specs.Draft.{counted}
use Rattle.dns_base.specs.Replaced.{other_than, kept_part, kept_of, records_at, spelling, behind_records, AreSpelt}
use Rattle.dns_message.proofs.Written.{past, record_written}

-- that many records that are still to be gone over, and what is after them
pub record Ahead (o : List ℕ) (at left : ℕ) (tail : List ℕ) (rest : List ResourceRecord) : Type 0 where
  pub many : length rest ≡ left
  pub named : AllByRecursion HasOwner rest
  pub within : at ≤ length o
  pub stand : drop at o ≡ spelling rest ++ tail

pub all_ahead : (o : List ℕ) (count at : ℕ) → AreSpelt o count at → Ahead o at count (behind_records o count at) (records_at o count at)
all_ahead o count at s = record { many = s.many; named = s.named; within = s.within; stand = s.stand }

-- what is kept of a list's first record
abbrev pub many_kept : ℕ → ResourceRecord → ℕ
many_kept t r = if nat_eq r.rtype t then 0 else 1

abbrev pub octets_kept : ℕ → ResourceRecord → List ℕ
octets_kept t r = if nat_eq r.rtype t then [] else record_octets r

kept_many : (t : ℕ) (r : ResourceRecord) (rs : List ResourceRecord) → length (other_than t (r ∷ rs)) ≡ many_kept t r + length (other_than t rs)
kept_many t r rs = elim (nat_eq r.rtype t) as (λ b. length (if b then other_than t rs else r ∷ other_than t rs) ≡ (if b then 0 else 1) + length (other_than t rs)) [ true ↦ omega arith | false ↦ omega arith ]

kept_octets : (t : ℕ) (r : ResourceRecord) (rs : List ResourceRecord) → spelling (other_than t (r ∷ rs)) ≡ octets_kept t r ++ spelling (other_than t rs)
kept_octets t r rs = elim (nat_eq r.rtype t) as (λ b. spelling (if b then other_than t rs else r ∷ other_than t rs) ≡ (if b then [] else record_octets r) ++ spelling (other_than t rs)) [ true ↦ refl | false ↦ refl ]

kept_parts : (t at : ℕ) (r : ResourceRecord) → kept_part r.rtype t at (at + length (record_octets r)) ≡ (many_kept t r, length (octets_kept t r), at + length (record_octets r))
kept_parts t at r =
    let n = length (record_octets r) in
    let e : at + n - at ≡ n = omega arith in
    elim (nat_eq r.rtype t) as (λ b. ◌≡◌ {A = ℕ × ℕ × ℕ} (if b then (0, 0, at + n) else (1, at + n - at, at + n)) (if b then 0 else 1, length (if b then [] else record_octets r), at + n)) [ true ↦ refl | false ↦ ap (λ (x : ℕ). (1, x, at + n)) e ]

kept_short : (t : ℕ) (r : ResourceRecord) → length (octets_kept t r) ≤ length (record_octets r)
kept_short t r = elim (nat_eq r.rtype t) as (λ b. length (if b then [] else record_octets r) ≤ length (record_octets r)) [ true ↦ omega arith | false ↦ omega arith ]

kept_either : (t : ℕ) (r : ResourceRecord) → (octets_kept t r ≡ []) ⊎ (octets_kept t r ≡ record_octets r)
kept_either t r = elim (nat_eq r.rtype t) as (λ b. ((if b then [] else record_octets r) ≡ []) ⊎ ((if b then [] else record_octets r) ≡ record_octets r)) [ true ↦ inl refl | false ↦ inr refl ]

-- the first record that is still to be gone over
pub record First (o : List ℕ) (t at left : ℕ) (tail : List ℕ) (rest : List ResourceRecord) : Type 0 where
  pub one : ResourceRecord
  pub more : List ResourceRecord
  pub is : rest ≡ one ∷ more
  pub kept : kept_of t at (record_at o at) ≡ (many_kept t one, length (octets_kept t one), at + length (record_octets one))
  pub stand : drop at o ≡ record_octets one ++ (spelling more ++ tail)
  pub ahead : Ahead o (at + length (record_octets one)) (left - 1) tail more

pub first_ahead : (o : List ℕ) (t at left : ℕ) (tail : List ℕ) (rest : List ResourceRecord) → Ahead o at left tail rest → 0 < left → First o t at left tail rest
first_ahead o t at left tail [] a h = absurd (omega (arith, a.many))
first_ahead o t at left tail (r ∷ rs) a h =
    let x = record_octets r in
    let s : drop at o ≡ x ++ (spelling rs ++ tail) = a.stand ∙ append_assoc x (spelling rs) tail in
    let l = ap length s ∙ length-append x (spelling rs ++ tail) in
    record {
      one = r;
      more = rs;
      is = refl;
      kept = ap (kept_of t at) (record_written r o (spelling rs ++ tail) at a.named.0 s) ∙ kept_parts t at r;
      stand = s;
      ahead = record { many = omega (arith, a.many); named = a.named.1; within = omega (arith, l, length-drop at o, a.within); stand = past o x (spelling rs ++ tail) at s };
    }

-- ---- going over records to count them

pub record Counting (o : List ℕ) (t : ℕ) (all : List ResourceRecord) (tail : List ℕ) (at left kept size : ℕ) : Type 0 where
  pub rest : List ResourceRecord
  pub ahead : Ahead o at left tail rest
  pub many : kept + length (other_than t rest) ≡ length (other_than t all)
  pub octets : size + length (spelling (other_than t rest)) ≡ length (spelling (other_than t all))

pub counting_begins : (o : List ℕ) (t count at : ℕ) → AreSpelt o count at → Counting o t (records_at o count at) (behind_records o count at) at count 0 0
counting_begins o t count at s = record { rest = records_at o count at; ahead = all_ahead o count at s; many = omega arith; octets = omega arith }

pub counting_goes_on : (o : List ℕ) (t : ℕ) (all : List ResourceRecord) (tail : List ℕ) (at left kept size a b c : ℕ) → Counting o t all tail at left kept size → 0 < left → (a, b, c) ≡ kept_of t at (record_at o at) →
    Counting o t all tail c (left - 1) (kept + a) (size + b)
counting_goes_on o t all tail at left kept size a b c k h e =
    let f = first_ahead o t at left tail k.rest k.ahead h in
    let r = f.one in
    let g = e ∙ f.kept in
    let ga : a ≡ many_kept t r = ap (λ (p : ℕ × ℕ × ℕ). p.0) g in
    let gb : b ≡ length (octets_kept t r) = ap (λ (p : ℕ × ℕ × ℕ). p.1) g in
    let gc : c ≡ at + length (record_octets r) = ap (λ (p : ℕ × ℕ × ℕ). p.2) g in
    let m : length (other_than t k.rest) ≡ many_kept t r + length (other_than t f.more) = ap (λ x. length (other_than t x)) f.is ∙ kept_many t r f.more in
    let s : length (spelling (other_than t k.rest)) ≡ length (octets_kept t r) + length (spelling (other_than t f.more)) =
    ap (λ x. length (spelling (other_than t x))) f.is ∙ (ap length (kept_octets t r f.more) ∙ length-append (octets_kept t r) (spelling (other_than t f.more))) in
    record {
      rest = f.more;
      ahead = subst (λ x. Ahead o x (left - 1) tail f.more) (sym gc) f.ahead;
      many = omega (arith, k.many, m, ga);
      octets = omega (arith, k.octets, s, gb);
    }

-- fewer records and octets are kept than there are
pub fewer : (t : ℕ) (rs : List ResourceRecord) → (length (other_than t rs) ≤ length rs) × (length (spelling (other_than t rs)) ≤ length (spelling rs))
fewer t [] = (omega arith, omega arith)
fewer t (r ∷ rs) =
    let i = fewer t rs in
    let x = record_octets r in
    let b : many_kept t r ≤ 1 = elim (nat_eq r.rtype t) as (λ b. (if b then 0 else 1) ≤ 1) [ true ↦ omega arith | false ↦ omega arith ] in
    (omega (arith, i.0, kept_many t r rs, b), omega (arith, i.1, kept_short t r, ap length (kept_octets t r rs) ∙ length-append (octets_kept t r) (spelling (other_than t rs)), length-append x (spelling rs)))

spelt_short : (o : List ℕ) (count at : ℕ) → AreSpelt o count at → at + length (spelling (records_at o count at)) ≤ length o
spelt_short o count at s =
    let x = spelling (records_at o count at) in
    omega (arith, ap length s.stand ∙ length-append x (behind_records o count at), length-drop at o, s.within)

-- the counts stay within the number of records and of octets
pub counting_within : (o : List ℕ) (t count start at left kept size : ℕ) → AreSpelt o count start → Counting o t (records_at o count start) (behind_records o count start) at left kept size → (kept ≤ count) × (size ≤ length o)
counting_within o t count start at left kept size s k =
    let f = fewer t (records_at o count start) in
    (omega (arith, f.0, k.many, s.many), omega (arith, f.1, k.octets, spelt_short o count start s))

no_more : (rs : List ResourceRecord) → length rs ≡ 0 → rs ≡ []
no_more [] e = refl
no_more (r ∷ rs) e = absurd (omega arith)

pub counting_ends : (o : List ℕ) (t : ℕ) (all : List ResourceRecord) (tail : List ℕ) (at left kept size : ℕ) → Counting o t all tail at left kept size → left ≡ 0 → (kept ≡ length (other_than t all)) × (size ≡ length (spelling (other_than t all)))
counting_ends o t all tail at left kept size k e =
    let z : k.rest ≡ [] = no_more k.rest (k.ahead.many ∙ e) in
    (omega (arith, k.many, ap (λ x. length (other_than t x)) z), omega (arith, k.octets, ap (λ x. length (spelling (other_than t x))) z))

-- ---- moving records together

pub record Sieving (first o : List ℕ) (t : ℕ) (tail target : List ℕ) (start at put left : ℕ) : Type 0 where
  pub rest : List ResourceRecord
  pub ahead : Ahead o at left tail rest
  pub behind : put ≤ at
  pub begun : start ≤ put
  pub same : length o ≡ length first
  pub gives : take put o ++ (spelling (other_than t rest) ++ tail) ≡ target

abbrev pub sieved : List ℕ → ℕ → ℕ → ℕ → List ℕ
sieved o t count start = take start o ++ (spelling (other_than t (records_at o count start)) ++ behind_records o count start)

pub sieving_begins : (o : List ℕ) (t count start : ℕ) → AreSpelt o count start → Sieving o o t (behind_records o count start) (sieved o t count start) start start start count
sieving_begins o t count start s = record { rest = records_at o count start; ahead = all_ahead o count start s; behind = omega arith; begun = omega arith; same = refl; gives = refl }

-- the record at the place where the records that are still to be gone over begin
pub sieving_room : (first o : List ℕ) (t : ℕ) (tail target : List ℕ) (start at put left a b c : ℕ) → Sieving first o t tail target start at put left → 0 < left → (a, b, c) ≡ kept_of t at (record_at o at) → (at + b ≤ length o) × (at + b ≤ c) × (c ≤ length o)
sieving_room first o t tail target start at put left a b c k h e =
    let f = first_ahead o t at left tail k.rest k.ahead h in
    let r = f.one in
    let g = e ∙ f.kept in
    let gb : b ≡ length (octets_kept t r) = ap (λ (p : ℕ × ℕ × ℕ). p.1) g in
    let gc : c ≡ at + length (record_octets r) = ap (λ (p : ℕ × ℕ × ℕ). p.2) g in
    let w = f.ahead.within in
    (omega (arith, gb, gc, kept_short t r, w), omega (arith, gb, gc, kept_short t r), omega (arith, gc, w))

-- octets that begin with what is kept of a record
take_kept : (t : ℕ) (r : ResourceRecord) (more : List ℕ) → take (length (octets_kept t r)) (record_octets r ++ more) ≡ octets_kept t r
take_kept t r more = elim (nat_eq r.rtype t) as (λ b. take (length (if b then [] else record_octets r)) (record_octets r ++ more) ≡ (if b then [] else record_octets r)) [ true ↦ refl | false ↦ take-append_seam (record_octets r) more ]

pub sieving_goes_on : (first o o' : List ℕ) (t : ℕ) (tail target : List ℕ) (start at put left a b c : ℕ) → Sieving first o t tail target start at put left → 0 < left → (a, b, c) ≡ kept_of t at (record_at o at) →
    take (put + b) o' ≡ take put o ++ take b (drop at o) → drop (at + b) o' ≡ drop (at + b) o → length o' ≡ length o → Sieving first o' t tail target start c (put + b) (left - 1)
sieving_goes_on first o o' t tail target start at put left a b c k h e i j l =
    let f = first_ahead o t at left tail k.rest k.ahead h in
    let r = f.one in
    let g = e ∙ f.kept in
    let gb : b ≡ length (octets_kept t r) = ap (λ (p : ℕ × ℕ × ℕ). p.1) g in
    let gc : c ≡ at + length (record_octets r) = ap (λ (p : ℕ × ℕ × ℕ). p.2) g in
    let q = sieving_room first o t tail target start at put left a b c k h e in
    let d : c ≡ at + b + (c - (at + b)) = omega (arith, q.1) in
    let s : drop c o' ≡ drop c o =
    ap (λ n. drop n o') d ∙ (sym (drop-drop (c - (at + b)) (at + b) o') ∙ (ap (drop (c - (at + b))) j ∙ (drop-drop (c - (at + b)) (at + b) o ∙ ap (λ n. drop n o) (sym d)))) in
    let v : take b (drop at o) ≡ octets_kept t r = ap (λ n. take n (drop at o)) gb ∙ (ap (take (length (octets_kept t r))) f.stand ∙ take_kept t r (spelling f.more ++ tail)) in
    let u = spelling (other_than t f.more) in
    let w : spelling (other_than t k.rest) ≡ octets_kept t r ++ u = ap (λ x. spelling (other_than t x)) f.is ∙ kept_octets t r f.more in
    let z : take (put + b) o' ++ (u ++ tail) ≡ take put o ++ (spelling (other_than t k.rest) ++ tail) =
    ap (λ x. x ++ (u ++ tail)) (i ∙ ap (λ x. take put o ++ x) v)
    ∙ (append_assoc (take put o) (octets_kept t r) (u ++ tail)
    ∙ ap (λ x. take put o ++ x) (sym (append_assoc (octets_kept t r) u tail) ∙ ap (λ x. x ++ tail) (sym w))) in
    record {
      rest = f.more;
      ahead = record { many = f.ahead.many; named = f.ahead.named; within = omega (arith, q.2, l); stand = s ∙ (ap (λ n. drop n o) gc ∙ f.ahead.stand) };
      behind = omega (arith, k.behind, q.1);
      begun = omega (arith, k.begun);
      same = l ∙ k.same;
      gives = z ∙ k.gives;
    }

take_whole : (o : List ℕ) → take (length o) o ≡ o
take_whole [] = refl
take_whole (x ∷ o) = ap (λ l. x ∷ l) (take_whole o)

-- all records are gone over, and what is after them is moved
pub sieving_ends : (first o o' : List ℕ) (t : ℕ) (tail target : List ℕ) (start at put left b : ℕ) → Sieving first o t tail target start at put left → left ≡ 0 → b ≡ length o - at →
    take (put + b) o' ≡ take put o ++ take b (drop at o) → length o' ≡ length o → (take (put + b) o' ≡ target) × (put + b ≤ length o')
sieving_ends first o o' t tail target start at put left b k e f i l =
    let z : k.rest ≡ [] = no_more k.rest (k.ahead.many ∙ e) in
    let s : drop at o ≡ tail = k.ahead.stand ∙ ap (λ x. spelling x ++ tail) z in
    let w : length o - at ≡ length tail = sym (length-drop at o) ∙ ap length s in
    let v : take b (drop at o) ≡ tail = ap (λ n. take n (drop at o)) (f ∙ w) ∙ (ap (take (length tail)) s ∙ take_whole tail) in
    let u : spelling (other_than t k.rest) ++ tail ≡ tail = ap (λ x. spelling (other_than t x) ++ tail) z in
    (i ∙ (ap (λ x. take put o ++ x) (v ∙ sym u) ∙ k.gives), omega (arith, f, l, k.behind, k.ahead.within))

-- ---- octets that stand after two others

take_less : (e k : ℕ) (o : List ℕ) → e ≤ k → take e (take k o) ≡ take e o
take_less zero k o h = refl
take_less (suc e) zero o h = absurd (omega arith)
take_less (suc e) (suc k) [] h = refl
take_less (suc e) (suc k) (x ∷ o) h = ap (λ l. x ∷ l) (take_less e k o (omega arith))

cut_behind : (r m p z : List ℕ) (n e : ℕ) → 2 ≤ length r → e ≤ length m → e + 2 ≤ n → drop 2 (take (e + 2) (take n ((take 2 r ++ (m ++ p)) ++ z))) ≡ take e m
cut_behind [] m p z n e h i j = absurd (omega arith)
cut_behind (a ∷ []) m p z n e h i j = absurd (omega arith)
cut_behind (a ∷ b ∷ r) m p z n e h i j =
    let y = (m ++ p) ++ z in
    let f : e + 2 ≡ suc (suc e) = omega arith in
    let g : n ≡ suc (suc (n - 2)) = omega arith in
    ap (λ k. drop 2 (take k (take n (a ∷ b ∷ y)))) f
    ∙ (ap (λ k. drop 2 (take (suc (suc e)) (take k (a ∷ b ∷ y)))) g
    ∙ (take_less e (n - 2) y (omega arith)
    ∙ (ap (take e) (append_assoc m p z) ∙ take-append-le e m (p ++ z) i)))

drop_set : (o : List ℕ) (x y : ℕ) → drop 2 (slice_set (slice_set o 12 x) 13 y) ≡ slice_set (slice_set (drop 2 o) 10 x) 11 y
drop_set [] x y = refl
drop_set (a ∷ []) x y = refl
drop_set (a ∷ b ∷ o) x y = refl

-- the records are moved together, the rest is cut off, and the count is set
pub squeezed : (i r m p z q : List ℕ) (n e k t count start : ℕ) → r ≡ i → 14 ≤ length i → e ≤ length m → length m ≡ length (take (length r - 2) (drop 2 r)) → length r ≡ n →
    q ≡ take (e + 2) (take n ((take 2 r ++ (m ++ p)) ++ z)) → take e m ≡ sieved (take (length r - 2) (drop 2 r)) t count start →
    drop 2 (slice_set (slice_set q 12 (k / 256)) 13 (k % 256)) ≡ counted 10 k (sieved (drop 2 i) t count start)
squeezed i r m p z q n e k t count start g h w l f a b =
    let d : length (drop 2 r) ≡ length r - 2 = length-drop 2 r in
    let v : take (length r - 2) (drop 2 r) ≡ drop 2 i = ap (λ n. take n (drop 2 r)) (sym d) ∙ (take_whole (drop 2 r) ∙ ap (drop 2) g) in
    let x = ap length g in
    let y = ap length v in
    let u = length-drop 2 i in
    drop_set q (k / 256) (k % 256)
    ∙ ap (counted 10 k) (ap (drop 2) a ∙ (cut_behind r m p z n e (omega arith) w (omega (arith, w, l, f, x, y, u)) ∙ (b ∙ ap (λ o. sieved o t count start) v)))

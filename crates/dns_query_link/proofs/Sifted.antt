-- The frames of octets, of which those of queries are passed on.
use Rattle.std.proofs.Common.{◌≡◌, ℕ, ◌+◌, ◌/◌, ◌^◌, ◌-◌, ◌<◌, ◌≤◌, Bool, true, false, cond, if◌then◌else◌, List, [], ◌∷◌, ◌++◌, length, get_or, take, drop, min, inl, inr, refl, ap, sym, subst, ◌∙◌, arith, append_assoc, append-nil, length-append, length-drop}
use Rattle.std.specs.Prelude.{filter, count_by}
use Rattle.std.specs.List.{flat_map}
use Rattle.std.proofs.lemmas.Bool.{cases_lt}
use Rattle.std.proofs.lemmas.List.{drop-drop, get_or-append-add, get_or_append_left, get_or-append_right, length-take-le, take-append-drop, take-append-le, take_all}
use Rattle.std.proofs.lemmas.List.Concat.{flat_map-append}
use Rattle.std.proofs.lemmas.List.Elements.{filter-append}
use Rattle.std.proofs.lemmas.List.Sums.{sum_by-cons}
use Rattle.dns_framing.specs.Frames.{behind_frames, first_frame, framed, frames, past}
use Rattle.dns_framing.proofs.FramesLemmas.{first-framed, goes, rest_some}
use Rattle.dns_query_sock.specs.Queries.{is_response}
use Rattle.dns_query_link.specs.QueryFrames.{AreOctets, is_query, passed_on, responses}

-- the queries among some frames, each after its length
abbrev queries_of : List (List ℕ) → List ℕ
queries_of l = flat_map framed (filter is_query l)

-- ---- a frame, and what follows it

abbrev pub framed_query : List ℕ → List ℕ
framed_query f = if is_query f then framed f else []

first_query : (b : Bool) (f : List ℕ) (l : List (List ℕ)) → flat_map framed (cond b (f ∷ l) l) ≡ (if b then framed f else []) ++ flat_map framed l
first_query true f l = refl
first_query false f l = refl

module _ (o f r : List ℕ) (all : frames o ≡ f ∷ frames r) (whole : o ≡ framed f ++ r) where
  pub behind : behind_frames o ≡ behind_frames r
  behind = rest_some o f r (ap first_frame whole ∙ first-framed f r)

  pub passed : passed_on o ≡ framed_query f ++ passed_on r
  passed = ap queries_of all ∙ first_query (is_query f) f (filter is_query (frames r))

  pub counted : responses o ≡ (if is_response f then 1 else 0) + responses r
  counted = ap (λ (l : List (List ℕ)). count_by is_response l) all ∙ sum_by-cons (λ (x : List ℕ). cond (is_response x) 1 0) f (frames r)

  pub fewer : length (frames r) < length (frames o)
  fewer = omega (arith, ap length all)

  pub rest_octets : AreOctets o → AreOctets r
  rest_octets are = λ k d within.
      let long : length o ≡ length (framed f) + length r = ap length whole ∙ length-append (framed f) r in
      let there = are (length (framed f) + k) d (omega arith) in
      let same : get_or o (length (framed f) + k) d ≡ get_or r k d = ap (λ (l : List ℕ). get_or l (length (framed f) + k) d) whole ∙ get_or-append-add (framed f) r k d in
      let P : ℕ → Type 0 = λ (b : ℕ). b < 256 in subst P same there

  pub fits : AreOctets o → length f < 65536
  fits are =
      let long : length o ≡ length f + 2 + length r = omega (arith, ap length whole, length-append (framed f) r) in
      let first : get_or o 0 0 ≡ length f / 256 = ap (λ (l : List ℕ). get_or l 0 0) whole in
      omega (arith, first, are 0 0 (omega arith))

-- no frame is left
module _ (o : List ℕ) (none : frames o ≡ []) where
  pub none_left : behind_frames o ≡ o
  unfolding behind_frames
  none_left = ap (λ (l : List (List ℕ)). past (length l) o) none

  pub none_passed : passed_on o ≡ []
  none_passed = ap queries_of none

  pub none_counted : responses o ≡ 0
  none_counted = ap (λ (l : List (List ℕ)). count_by is_response l) none

-- ---- all frames of octets, one after the other

-- what was taken of some octets so far, with what waits and how many responses were dropped
pub record IsSifted (first before now waiting : List ℕ) (dropped : ℕ) : Type 0 where
  pub octets : AreOctets now
  pub left : behind_frames now ≡ behind_frames first
  pub given : waiting ++ passed_on now ≡ before ++ passed_on first
  pub dropped_is : min (dropped + responses now) (2 ^ 64 - 1) ≡ min (responses first) (2 ^ 64 - 1)
  pub counted : dropped ≤ 2 ^ 64 - 1
  pub grows : length before ≤ length waiting

pub sifted_first : (first before : List ℕ) → AreOctets first → IsSifted first before first before 0
sifted_first first before are = record { octets = are; left = refl; given = refl; dropped_is = omega arith; counted = omega arith; grows = omega arith }

counts_on : (one n left first : ℕ) → min (n + (one + left)) (2 ^ 64 - 1) ≡ min first (2 ^ 64 - 1) → min (min (n + one) (2 ^ 64 - 1) + left) (2 ^ 64 - 1) ≡ min first (2 ^ 64 - 1)
counts_on one n left first h = omega arith

pub sifted_more : (first before o f r waiting waiting' : List ℕ) (dropped dropped' : ℕ) → frames o ≡ f ∷ frames r → o ≡ framed f ++ r → IsSifted first before o waiting dropped
    → waiting' ≡ waiting ++ framed_query f → dropped' ≡ min (dropped + (if is_response f then 1 else 0)) (2 ^ 64 - 1) → IsSifted first before r waiting' dropped'
sifted_more first before o f r waiting waiting' dropped dropped' all whole s given is = record {
  octets = rest_octets o f r all whole s.octets;
  left = sym (behind o f r all whole) ∙ s.left;
  given = ap (λ (l : List ℕ). l ++ passed_on r) given ∙ (append_assoc waiting (framed_query f) (passed_on r) ∙ (ap (λ (l : List ℕ). waiting ++ l) (sym (passed o f r all whole)) ∙ s.given));
  dropped_is =
      let h : min (dropped + ((if is_response f then 1 else 0) + responses r)) (2 ^ 64 - 1) ≡ min (responses first) (2 ^ 64 - 1) = ap (λ (n : ℕ). min (dropped + n) (2 ^ 64 - 1)) (sym (counted o f r all whole)) ∙ s.dropped_is in
      ap (λ (n : ℕ). min (n + responses r) (2 ^ 64 - 1)) is ∙ counts_on (if is_response f then 1 else 0) dropped (responses r) (responses first) h;
  counted = omega (arith, is);
  grows = omega (arith, s.grows, ap length given, length-append waiting (framed_query f));
}

pub record AllSifted (first before now waiting : List ℕ) (dropped : ℕ) : Type 0 where
  pub left : now ≡ behind_frames first
  pub given : waiting ≡ before ++ passed_on first
  pub dropped_is : dropped ≡ min (responses first) (2 ^ 64 - 1)

pub sifted_all : (first before o waiting : List ℕ) (dropped : ℕ) → frames o ≡ [] → IsSifted first before o waiting dropped → AllSifted first before o waiting dropped
sifted_all first before o waiting dropped none s = record {
  left = sym (none_left o none) ∙ s.left;
  given = sym (append-nil waiting) ∙ (ap (λ (l : List ℕ). waiting ++ l) (sym (none_passed o none)) ∙ s.given);
  dropped_is = omega (arith, s.dropped_is, s.counted, none_counted o none);
}

-- ---- octets that come later

pub octets_more : (o p : List ℕ) → AreOctets o → AreOctets p → AreOctets (o ++ p)
octets_more o p are more = λ k d within.
    let P : ℕ → Type 0 = λ (b : ℕ). b < 256 in
    let long : length (o ++ p) ≡ length o + length p = length-append o p in
    elim (cases_lt k (length o)) [
      | inl h ↦ subst P (sym (get_or_append_left o p d k h)) (are k d h)
      | inr h ↦ subst P (sym (get_or-append_right o p (length o) k d refl h)) (more (k - length o) d (omega arith))
    ]

-- the frames of some octets are those of their front, and go on from what was kept of it
pub passed_later : (o p : List ℕ) → passed_on (o ++ p) ≡ passed_on o ++ passed_on (behind_frames o ++ p)
passed_later o p =
    ap queries_of (goes o p).all ∙ (ap (λ (l : List (List ℕ)). flat_map framed l) (filter-append is_query (frames o) (frames (behind_frames o ++ p)))
    ∙ flat_map-append framed (filter is_query (frames o)) (filter is_query (frames (behind_frames o ++ p))))

-- octets that wait, of which some are moved to the front of a buffer
pub moved : (at n : ℕ) (w d buf front waiting : List ℕ) → d ≡ w → waiting ≡ drop at w → n ≤ length (take (length d - at) (drop at d)) → front ≡ take n (take (length d - at) (drop at d)) → waiting ≡ take n (front ++ drop n buf) ++ drop (at + n) w
moved at n w d buf front waiting lent is room same =
    let rest : take (length d - at) (drop at d) ≡ drop at w = take_all (length d - at) (drop at d) (omega (arith, length-drop at d)) ∙ ap (drop at) lent in
    let first : front ≡ take n (drop at w) = same ∙ ap (take n) rest in
    let fits : n ≤ length (drop at w) = omega (arith, room, ap length rest) in
    let size : length front ≡ n = ap length first ∙ length-take-le n (drop at w) fits in
    let short : n ≤ length front = omega (arith, size) in
    let long : length front ≤ n = omega (arith, size) in
    let begin : take n (front ++ drop n buf) ≡ take n (drop at w) = take-append-le n front (drop n buf) short ∙ (take_all n front long ∙ first) in
    is ∙ (sym (take-append-drop n (drop at w)) ∙ (ap (λ (l : List ℕ). l ++ drop n (drop at w)) (sym begin) ∙ ap (λ (l : List ℕ). take n (front ++ drop n buf) ++ l) (drop-drop n at w)))

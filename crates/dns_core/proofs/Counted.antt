-- Counts of numbers in rising lists.
use Rattle.std.proofs.Common.{◌≡◌, ◌≢◌, ℕ, ◌+◌, ◌-◌, List, [], ◌∷◌, length, Bool, true, false, cond, refl, ap, sym, ◌∙◌, arith, ⊎_elim}
use Rattle.std.specs.Prelude.{filter, nat_lt, nat_eq, if◌then◌else◌, ◌||◌}
use Rattle.std.specs.List.{list_any}
use Rattle.std.specs.List.Sorted.{IsStrictlySortedBy}
use Rattle.std.specs.Ordering.{nat_cmp}
use Rattle.std.proofs.lemmas.Bool.{eq-eqb, ne_eqb, cases_eq}
use Rattle.std.proofs.lemmas.Map.Keys.{sorted_head, sorted_tail}
use Rattle.std.proofs.Math.Bool.{or-true}
use Rattle.dns_core.specs.Out.{put}
use Rattle.dns_session_map.proofs.Keys.{less_absent}

pub filter_same : (p q : ℕ → Bool) (ms : List ℕ) → ((c : ℕ) → list_any (nat_eq c) ms ≡ true → p c ≡ q c) → filter p ms ≡ filter q ms
filter_same p q [] h = refl
filter_same p q (m ∷ ms) h =
    let here : p m ≡ q m = h m (rw (eq-eqb m m refl) refl) in
    let more = filter_same p q ms (λ c there. h c (rw there (or-true (nat_eq c m)))) in
    rw (here, more) refl

-- a number that was put is there
pub put_there : (c : ℕ) (ms : List ℕ) → list_any (nat_eq c) (put c ms) ≡ true
put_there c [] = rw (eq-eqb c c refl) refl
put_there c (m ∷ ms) =
    (elim (nat_lt c m) as (λ b. list_any (nat_eq c) (if b then c ∷ m ∷ ms else m ∷ put c ms) ≡ true) [
      | true ↦ rw (eq-eqb c c refl) refl
      | false ↦ rw (put_there c ms) (or-true (nat_eq c m))
    ])

pub absent_other : (c m : ℕ) (ms : List ℕ) → list_any (nat_eq c) ms ≡ false → list_any (nat_eq m) ms ≡ true → m ≢ c
absent_other c m ms h k e = let w = rw e at k in cc

-- one of them no longer passes
filter_less : (p p' : ℕ → Bool) (c : ℕ) (ms : List ℕ) → IsStrictlySortedBy nat_cmp ms → list_any (nat_eq c) ms ≡ true → ((x : ℕ) → x ≢ c → p' x ≡ p x) → p c ≡ true → p' c ≡ false → length (filter p' ms) + 1 ≡ length (filter p ms)
filter_less p p' c [] so there other passes fails = cc
filter_less p p' c (m ∷ ms) so there other passes fails =
    ⊎_elim
    (λ (same : m ≡ c).
    let absent = less_absent m ms (sorted_head nat_cmp m ms so) in
    let rest = filter_same p' p ms (λ x is. other x (λ (e : x ≡ c). absent_other m x ms absent is (e ∙ sym same))) in
    rw (same, passes, fails, rest) (omega arith))
    (λ (apart : m ≢ c).
    let ne : nat_eq c m ≡ false = ne_eqb c m (λ (e : c ≡ m). apart (sym e)) in
    let more = filter_less p p' c ms (sorted_tail nat_cmp m ms so) (rw ne at there) other passes fails in
    rw (other m apart) (elim (p m) as (λ b. length (cond b (m ∷ filter p' ms) (filter p' ms)) + 1 ≡ length (cond b (m ∷ filter p ms) (filter p ms))) [ true ↦ omega arith | false ↦ more ]))
    (cases_eq m c)

-- how many pass if one may no longer
pub one_less : (p p' : ℕ → Bool) (c : ℕ) (ms : List ℕ) (x : Bool) → IsStrictlySortedBy nat_cmp ms → list_any (nat_eq c) ms ≡ true → ((y : ℕ) → y ≢ c → p' y ≡ p y)
    → (x ≡ true → (p c ≡ true) × (p' c ≡ false)) → (x ≡ false → p' c ≡ p c)
    → length (filter p' ms) ≡ (if x then length (filter p ms) - 1 else length (filter p ms))
one_less p p' c ms true so there other gone kept = let g = gone refl in omega (arith, filter_less p p' c ms so there other g.0 g.1)
one_less p p' c ms false so there other gone kept = ap length (filter_same p' p ms (λ y is. ⊎_elim (λ (same : y ≡ c). rw same (kept refl)) (λ (apart : y ≢ c). other y apart) (cases_eq y c)))

-- one more, which passes or doesn't
pub filter_put : (p : ℕ → Bool) (c : ℕ) (ms : List ℕ) → p c ≡ true → length (filter p (put c ms)) ≡ length (filter p ms) + 1
filter_put p c [] passes = rw passes (omega arith)
filter_put p c (m ∷ ms) passes =
    let more = filter_put p c ms passes in
    (elim (nat_lt c m) as (λ b. length (filter p (if b then c ∷ m ∷ ms else m ∷ put c ms)) ≡ length (filter p (m ∷ ms)) + 1) [
      | true ↦ rw passes (omega arith)
      | false ↦ (elim (p m) as (λ b. length (cond b (m ∷ filter p (put c ms)) (filter p (put c ms))) ≡ length (cond b (m ∷ filter p ms) (filter p ms)) + 1) [ true ↦ omega arith | false ↦ more ])
    ])

pub filter_put_not : (p : ℕ → Bool) (c : ℕ) (ms : List ℕ) → p c ≡ false → length (filter p (put c ms)) ≡ length (filter p ms)
filter_put_not p c [] fails = rw fails refl
filter_put_not p c (m ∷ ms) fails =
    let more = filter_put_not p c ms fails in
    (elim (nat_lt c m) as (λ b. length (filter p (if b then c ∷ m ∷ ms else m ∷ put c ms)) ≡ length (filter p (m ∷ ms))) [
      | true ↦ rw fails refl
      | false ↦ (elim (p m) as (λ b. length (cond b (m ∷ filter p (put c ms)) (filter p (put c ms))) ≡ length (cond b (m ∷ filter p ms) (filter p ms))) [ true ↦ omega (arith, more) | false ↦ more ])
    ])

-- a number is put, and of another it is told as before
pub put_other : (c x : ℕ) (ms : List ℕ) → c ≢ x → list_any (nat_eq c) (put x ms) ≡ list_any (nat_eq c) ms
put_other c x [] apart = rw (ne_eqb c x apart) refl
put_other c x (m ∷ ms) apart =
    (elim (nat_lt x m) as (λ b. list_any (nat_eq c) (if b then x ∷ m ∷ ms else m ∷ put x ms) ≡ list_any (nat_eq c) (m ∷ ms)) [
      | true ↦ rw (ne_eqb c x apart) refl
      | false ↦ ap (λ (b : Bool). nat_eq c m || b) (put_other c x ms apart)
    ])

-- who is among them stays so
pub put_keeps : (c x : ℕ) (ms : List ℕ) → list_any (nat_eq c) ms ≡ true → list_any (nat_eq c) (put x ms) ≡ true
put_keeps c x ms there = ⊎_elim
    (λ (same : c ≡ x). rw same (put_there x ms))
    (λ (apart : c ≢ x). put_other c x ms apart ∙ there)
    (cases_eq c x)

-- How often a question is asked, after one question more and without those of a place.
use Rattle.std.proofs.Common.{◌≡◌, ◌≤◌, ◌+◌, ℕ, Bool, true, false, not, cond, List, [], ◌∷◌, ◌++◌, refl, ap, sym, subst, ◌∙◌, arith}
use Rattle.std.specs.Prelude.{◌||◌}
use Rattle.std.specs.List.{count_by, filter, list_any}
use Rattle.std.proofs.lemmas.List.Filters.{sum_by-filter_both}
use Rattle.std.proofs.lemmas.List.Sums.{sum_by-cons, sum_by_push}
use Rattle.dns_message.specs.declared.question.Question.{Question}
use Rattle.dns_message.specs.Equality.{same_question, same_question_equiv}
use Rattle.dns_outstanding.specs.declared.outstanding.AskedQuestion.{AskedQuestion}
use Rattle.dns_outstanding.specs.Outstanding.{AreAskedOnce, asks, is_asked, is_elsewhere, without}

-- what no element passes counts none
none-step : (b rest : Bool) (n : ℕ) → (b || rest) ≡ false → (rest ≡ false → n ≡ 0) → cond b 1 0 + n ≡ 0
none-step true rest n h f = absurd (cc)
none-step false rest n h f = let e : n ≡ 0 = f h in omega (arith, e)

none-counted : {X : Type 0} (p : X → Bool) (xs : List X) → list_any p xs ≡ false → count_by p xs ≡ 0
none-counted p [] h = refl
none-counted {X = X} p (x ∷ xs) h = sum_by-cons (λ (y : X). cond (p y) 1 0) x xs ∙ none-step (p x) (list_any p xs) (count_by p xs) h (none-counted p xs)

-- fewer elements count no more
filtered-count : {X : Type 0} (p keep : X → Bool) (xs : List X) → count_by p (filter keep xs) ≤ count_by p xs
filtered-count {X = X} p keep xs = omega (arith, sum_by-filter_both keep (λ (x : X). not (keep x)) (λ x. refl) (λ (x : X). cond (p x) 1 0) xs)

-- a question that equals one that isn't asked isn't asked
not-asked : (q r : Question) (asked : List AskedQuestion) → same_question r q ≡ true → is_asked q asked ≡ false → count_by (asks r) asked ≡ 0
not-asked q r asked e h =
    let same : asks r ≡ asks q = λ i (a : AskedQuestion). same_question_equiv.congr r q a.question e i in
    none-counted (asks r) asked (ap (λ (p : AskedQuestion → Bool). list_any p asked) same ∙ h)

bounded : (b : Bool) (n : ℕ) → n ≤ 1 → (b ≡ true → n ≡ 0) → n + cond b 1 0 ≤ 1
bounded true n h f = let e : n ≡ 0 = f refl in omega (arith, e)
bounded false n h f = omega (arith, h)

pub asked-more : (place : ℕ) (q : Question) (asked : List AskedQuestion) → AreAskedOnce asked → is_asked q asked ≡ false → AreAskedOnce (asked ++ record { place = place; question = q } ∷ [])
asked-more place q asked once h r =
    let a : AskedQuestion = record { place = place; question = q } in
    subst (λ (n : ℕ). n ≤ 1) (sym (sum_by_push (λ (x : AskedQuestion). cond (asks r x) 1 0) asked a))
    (bounded (same_question r q) (count_by (asks r) asked) (once r) (λ e. not-asked q r asked e h))

pub asked-without : (place : ℕ) (asked : List AskedQuestion) → AreAskedOnce asked → AreAskedOnce (without place asked)
asked-without place asked once q = omega (arith, once q, filtered-count (asks q) (is_elsewhere place) asked)

-- Steps of the iterators.
use Rattle.std.proofs.Common.{◌≡◌, ℕ, zero, suc, ◌-◌, ◌<◌, List, [], ◌∷◌, Some, None, Result, Ok, Err, refl, ap, sym, arith, ◌∙◌}
use Rattle.dns_name.specs.declared.error.ParseError.{ParseError}
use Rattle.dns_name.specs.Place.{Read}
use Rattle.dns_message.specs.Sections.{Items, by_item, items_from, all_of, to_come, first_of, ends_at, items_behind, field, questions_of, answers_of, authority_of, additional_of, standing_answers, standing_authority, standing_additional, SameRecords}
use Rattle.dns_message.specs.Msg.{ResourceRecord}
use Rattle.dns_message.specs.Read.{◌>>=◌}
use Rattle.dns_message.specs.Standing.{Standing, standing_at, record_at}

-- what an iterator gives from one item on
abbrev pub by_next : {A : Type 0} → (ℕ → List (Result A ParseError)) → Read A → List (Result A ParseError)
by_next go (Ok (x, end)) = Ok x ∷ go end
by_next go (Err e) = Err e ∷ []

-- where items end, from one item on
abbrev pub end_next : {A : Type 0} → (ℕ → Result ℕ ParseError) → Read A → Result ℕ ParseError
end_next go (Ok (x, end)) = go end
end_next go (Err e) = Err e

pub given_first : {A : Type 0} (x : A) (i : Items A) → all_of (x ∷ i.0, i.1) ≡ Ok x ∷ all_of i
given_first x (xs, Ok end) = refl
given_first x (xs, Err e) = refl

came : {A : Type 0} (one : ℕ → Read A) (k : ℕ) (r : Read A) → all_of (by_item (items_from one k) r) ≡ by_next (to_come one k) r
came one k (Ok x) = given_first x.0 (items_from one k x.1)
came one k (Err e) = refl

pub coming : {A : Type 0} (one : ℕ → Read A) (k at : ℕ) → 0 < k → to_come one k at ≡ by_next (to_come one (k - 1)) (one at)
coming one zero at h = absurd (omega arith)
coming one (suc k) at h = let e : suc k - 1 ≡ k = omega arith in came one k (one at) ∙ ap (λ (n : ℕ). by_next (to_come one n) (one at)) (sym e)

-- an iterator gives the section's items and then its refusal
pub all_come : {A : Type 0} (one : ℕ → Read A) (k at : ℕ) → to_come one k at ≡ all_of (items_from one k at)
all_come one k at = refl

-- the first item, by what an iterator gives
pub first_here : {A : Type 0} (i : Items A) (x : A) (more : List (Result A ParseError)) → all_of i ≡ Ok x ∷ more → first_of i.0 ≡ Some x
first_here ([], Ok end) x more h = absurd (cc)
first_here ([], Err e) x more h = absurd (cc)
first_here (y ∷ ys, Ok end) x more h = cc
first_here (y ∷ ys, Err e) x more h = cc

pub first_refused : {A : Type 0} (i : Items A) (e : ParseError) (more : List (Result A ParseError)) → all_of i ≡ Err e ∷ more → first_of i.0 ≡ None
first_refused ([], Ok end) x more h = refl
first_refused ([], Err e) x more h = refl
first_refused (y ∷ ys, Ok end) x more h = absurd (cc)
first_refused (y ∷ ys, Err e) x more h = absurd (cc)

pub first_none : {A : Type 0} (i : Items A) → all_of i ≡ [] → first_of i.0 ≡ None
first_none ([], Ok end) h = refl
first_none ([], Err e) h = refl
first_none (y ∷ ys, Ok end) h = absurd (cc)
first_none (y ∷ ys, Err e) h = absurd (cc)

-- where a section ends, by its steps
ended : {A : Type 0} (one : ℕ → Read A) (k : ℕ) (r : Read A) → (by_item (items_from one k) r).1 ≡ end_next (ends_at one k) r
ended one k (Ok x) = refl
ended one k (Err e) = refl

pub ending : {A : Type 0} (one : ℕ → Read A) (k at : ℕ) → 0 < k → ends_at one k at ≡ end_next (ends_at one (k - 1)) (one at)
ending one zero at h = absurd (omega arith)
ending one (suc k) at h = let e : suc k - 1 ≡ k = omega arith in ended one k (one at) ∙ ap (λ (n : ℕ). end_next (ends_at one n) (one at)) (sym e)

pub all_ended : {A : Type 0} (one : ℕ → Read A) (k at : ℕ) → ends_at one k at ≡ (items_from one k at).1
all_ended one k at = refl

-- ---- the records of standing items

-- what is read, its data not looked into
abbrev plainly : Read Standing → Read ResourceRecord
plainly r = r >>= (λ s. Ok (s.0.resource, s.1))

same_item : (f : ℕ → Items Standing) (g : ℕ → Items ResourceRecord) (r : Read Standing) → ((at : ℕ) → SameRecords (f at) (g at)) → SameRecords (by_item f r) (by_item g (plainly r))
same_item f g (Ok x) h = let i = h x.1 in record { items = ap (λ t. x.0.resource ∷ t) i.items; end = i.end }
same_item f g (Err e) h = record { items = refl; end = refl }

same_items : (o : List ℕ) (k at : ℕ) → SameRecords (items_from (standing_at o) k at) (items_from (record_at o) k at)
unfolding record_at
same_items o zero at = record { items = refl; end = refl }
same_items o (suc k) at = same_item (items_from (standing_at o) k) (items_from (record_at o) k) (standing_at o at) (same_items o k)

same_behind : (o : List ℕ) (n : ℕ) (end : Result ℕ ParseError) → SameRecords (items_behind (standing_at o) n end) (items_behind (record_at o) n end)
same_behind o n (Ok at) = same_items o n at
same_behind o n (Err e) = record { items = refl; end = refl }

pub same_answers : (o : List ℕ) → SameRecords (standing_answers o) (answers_of o)
unfolding answers_of
same_answers o = same_behind o (field 6 o) (questions_of o).1

pub same_authority : (o : List ℕ) → SameRecords (standing_authority o) (authority_of o)
unfolding authority_of
same_authority o = same_behind o (field 8 o) (answers_of o).1

pub same_additional : (o : List ℕ) → SameRecords (standing_additional o) (additional_of o)
unfolding additional_of
same_additional o = same_behind o (field 10 o) (authority_of o).1

-- where a section of records ends
pub behind_ended : (o : List ℕ) (n at : ℕ) → ends_at (standing_at o) n at ≡ (items_from (record_at o) n at).1
behind_ended o n at = all_ended (standing_at o) n at ∙ (same_items o n at).end

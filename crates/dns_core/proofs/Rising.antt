-- The members stand by rising number.
use Rattle.dns_session.specs.Serving.{Serving}
use Rattle.std.proofs.Common.{◌≡◌, ◌≢◌, ℕ, List, [], ◌∷◌, ◌++◌, ◌∙◌, Bool, true, false, refl, ap, sym, subst, append_assoc, arith, Less, ⊎_elim}
use Rattle.std.proofs.lemmas.List.{append-nil}
use Rattle.std.proofs.lemmas.Bool.{cases_eq, or_parts, false_from_ne_true, and_parts}
use Rattle.std.proofs.lemmas.Bool.Decides.{nat_tests}
use Rattle.std.proofs.lemmas.Map.Keys.{sorted_head, sorted_tail}
use Rattle.std.specs.Prelude.{nat_eq, nat_lt, if◌then◌else◌, not, ◌||◌}
use Rattle.std.specs.List.{list_any, AllByRecursion}
use Rattle.std.specs.List.Sorted.{IsStrictlySortedBy}
use Rattle.std.specs.Ordering.{nat_cmp}
use Rattle.dns_events.specs.declared.event.Event.{Event}
use Rattle.dns_core.specs.Sent.{slate}
use Rattle.dns_core.specs.Out.{is_unused, holds_slot, has_room, put, is_new, joins, members}
use Rattle.dns_events.specs.declared.settings.Settings.{Settings}
use Rattle.dns_core.proofs.Gained.{members_joined, members_away, new_was, new_became, used_more}
use Rattle.dns_core.proofs.Counted.{put_other}

abbrev AllAbove : ℕ → List ℕ → Type 0
AllAbove c ns = AllByRecursion (λ y. nat_cmp c y ≡ Less) ns

sorted_cons : (n : ℕ) (ns : List ℕ) → AllAbove n ns → IsStrictlySortedBy nat_cmp ns → IsStrictlySortedBy nat_cmp (n ∷ ns)
unfolding IsStrictlySortedBy
sorted_cons n ns a so = (a, so)

pub sorted_none : IsStrictlySortedBy nat_cmp []
unfolding IsStrictlySortedBy
sorted_none = tt

above_more : (c n : ℕ) (ns : List ℕ) → nat_cmp c n ≡ Less → AllAbove n ns → AllAbove c ns
above_more c n [] h a = tt
above_more c n (m ∷ ns) h a = let l : nat_cmp c m ≡ Less = grind (arith, nat_tests, h, a.0) in (l, above_more c n ns h a.1)

above_put_case : (n c m : ℕ) (ns : List ℕ) → nat_cmp n c ≡ Less → AllAbove n (m ∷ ns) → AllAbove n (put c ns) → (b : Bool) → AllAbove n (if b then c ∷ m ∷ ns else m ∷ put c ns)
above_put_case n c m ns h a more true = (h, a)
above_put_case n c m ns h a more false = (a.0, more)

above_put : (n c : ℕ) (ns : List ℕ) → nat_cmp n c ≡ Less → AllAbove n ns → AllAbove n (put c ns)
above_put n c [] h a = (h, tt)
above_put n c (m ∷ ns) h a = above_put_case n c m ns h a (above_put n c ns h a.1) (nat_lt c m)

sorted_put_case : (c m : ℕ) (ns : List ℕ) → IsStrictlySortedBy nat_cmp (m ∷ ns) → nat_eq c m ≡ false → IsStrictlySortedBy nat_cmp (put c ns) → (b : Bool) → nat_lt c m ≡ b → IsStrictlySortedBy nat_cmp (if b then c ∷ m ∷ ns else m ∷ put c ns)
sorted_put_case c m ns so ne more true e =
    let l : nat_cmp c m ≡ Less = grind (arith, nat_tests, e) in
    sorted_cons c (m ∷ ns) (l, above_more c m ns l (sorted_head nat_cmp m ns so)) so
sorted_put_case c m ns so ne more false e =
    let l : nat_cmp m c ≡ Less = grind (arith, nat_tests, e, ne) in
    sorted_cons m (put c ns) (above_put m c ns l (sorted_head nat_cmp m ns so)) more

-- a new number goes to its place
pub sorted_put : (c : ℕ) (ms : List ℕ) → IsStrictlySortedBy nat_cmp ms → list_any (nat_eq c) ms ≡ false → IsStrictlySortedBy nat_cmp (put c ms)
sorted_put c [] so absent = sorted_cons c [] tt sorted_none
sorted_put c (m ∷ ms) so absent =
    let both = or_parts (nat_eq c m) (list_any (nat_eq c) ms) absent in
    sorted_put_case c m ms so both.0 (sorted_put c ms (sorted_tail nat_cmp m ms so) both.1) (nat_lt c m) refl

module _ (answers : Serving) (settings : Settings) where
  abbrev Rises : List Event → Type 0
  Rises q = IsStrictlySortedBy nat_cmp (members answers settings q)

  -- the number of a member is used
  abbrev MembersUsed : List Event → Type 0
  MembersUsed q = (c : ℕ) → list_any (nat_eq c) (members answers settings q) ≡ true → is_unused (slate answers settings c q).phase ≡ false

  pub new_joins : (q : List Event) (e : Event) (ms : List ℕ) → joins answers settings q ms e ≡ true → is_new answers settings q e ≡ true
  new_joins q e ms j = (and_parts (is_new answers settings q e) (not (holds_slot (slate answers settings e.client (q ++ e ∷ []))) || has_room answers settings q ms) j).0

  used_case : (q : List Event) (e : Event) → MembersUsed q → (b : Bool) → joins answers settings q (members answers settings q) e ≡ b → MembersUsed (q ++ e ∷ [])
  used_case q e h true j = λ c there.
      ⊎_elim
      (λ (same : c ≡ e.client). rw same (new_became answers settings q e (new_joins q e (members answers settings q) j)))
      (λ (apart : c ≢ e.client). used_more answers settings c q e (h c (sym (put_other c e.client (members answers settings q) apart) ∙ ap (list_any (nat_eq c)) (sym (members_joined answers settings q e j)) ∙ there)))
      (cases_eq c e.client)
  used_case q e h false j = λ c there. used_more answers settings c q e (h c (ap (list_any (nat_eq c)) (sym (members_away answers settings q e j)) ∙ there))

  used_on : (r q : List Event) → MembersUsed q → MembersUsed (q ++ r)
  used_on [] q h = subst MembersUsed (sym (append-nil q)) h
  used_on (x ∷ r) q h = subst MembersUsed (append_assoc q (x ∷ []) r) (used_on r (q ++ x ∷ []) (used_case q x h (joins answers settings q (members answers settings q) x) refl))

  used_none : MembersUsed []
  unfolding members
  used_none = λ c there. cc

  pub members_used : (q : List Event) → MembersUsed q
  members_used q = used_on q [] used_none

  -- a client that begins is no member yet
  pub new_absent : (q : List Event) (e : Event) → is_new answers settings q e ≡ true → list_any (nat_eq e.client) (members answers settings q) ≡ false
  new_absent q e n = false_from_ne_true (list_any (nat_eq e.client) (members answers settings q)) (λ there. let used = members_used q e.client there in let fresh = new_was answers settings q e n in let no : ⊥ = cc in no)

  rises_case : (q : List Event) (e : Event) → Rises q → (b : Bool) → joins answers settings q (members answers settings q) e ≡ b → Rises (q ++ e ∷ [])
  rises_case q e h true j = subst (IsStrictlySortedBy nat_cmp) (sym (members_joined answers settings q e j)) (sorted_put e.client (members answers settings q) h (new_absent q e (new_joins q e (members answers settings q) j)))
  rises_case q e h false j = subst (IsStrictlySortedBy nat_cmp) (sym (members_away answers settings q e j)) h

  rises_on : (r q : List Event) → Rises q → Rises (q ++ r)
  rises_on [] q h = subst Rises (sym (append-nil q)) h
  rises_on (x ∷ r) q h = subst Rises (append_assoc q (x ∷ []) r) (rises_on r (q ++ x ∷ []) (rises_case q x h (joins answers settings q (members answers settings q) x) refl))

  rises_none : Rises []
  unfolding members
  rises_none = sorted_none

  pub rises : (q : List Event) → Rises q
  rises q = rises_on q [] rises_none

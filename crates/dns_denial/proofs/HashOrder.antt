-- The NSEC3 that is chosen for a hash matches it or spans it.
use Rattle.std.proofs.Common.{◌≡◌, ℕ, Bool, true, false, List, refl, ap, sym, ◌∙◌, inl, inr}
use Rattle.std.specs.Prelude.{◌&&◌, ◌||◌, ◌⊎◌, if◌then◌else◌}
use Rattle.std.specs.Cmp.Lexicographic.{bytes_decides, nat_list_cmp_total, slice_cmp, texts_ties}
use Rattle.std.specs.List.{Contains, list_any}
use Rattle.std.specs.Ordering.{is_eq, is_gt, is_lt, nat_cmp, ordering_reverse}
use Rattle.std.specs.declared.cmp.Ordering.{Ordering}
use Rattle.std.specs.declared.cmp.Ordering.TheVariants.{Less, Equal, Greater}
use Rattle.std.specs.Str.{bytes_eq}
use Rattle.std.proofs.lemmas.Bool.{true≢false, and_from, false_from_ne_true, or_left, or_right, true_from_ne_false}
use Rattle.std.proofs.lemmas.Cmp.{tied_itself}
use Rattle.dns_denial.specs.Nsec3.{IsNearest, Nsec3State, is_lower, spans}
use Rattle.dns_denial.proofs.ListLaws.{found}

pub same_hash : (a b : List ℕ) → bytes_eq a b ≡ true → a ≡ b
same_hash a b h = (bytes_decides a b).0 h

flipped : (o : Ordering) → is_gt (ordering_reverse o) ≡ is_lt o
flipped Less = refl
flipped Equal = refl
flipped Greater = refl

one_left : (o : Ordering) → is_lt o ≡ false → is_eq o ≡ false → is_gt o ≡ true
one_left Less h k = absurd (true≢false h)
one_left Equal h k = absurd (true≢false k)
one_left Greater h k = refl

turned : (a b : List ℕ) → is_gt (slice_cmp nat_cmp a b) ≡ is_lower b a
turned a b = ap is_gt (nat_list_cmp_total.antisymm a b) ∙ flipped (slice_cmp nat_cmp b a)

lower_apart : (a b : List ℕ) → is_lower a b ≡ false → bytes_eq a b ≡ false → is_lower b a ≡ true
lower_apart a b h k = sym (turned a b) ∙ one_left (slice_cmp nat_cmp a b) h (sym (texts_ties a b) ∙ k)

not_itself : (a : List ℕ) → is_lower a a ≡ false
not_itself a = ap is_lt (tied_itself nat_list_cmp_total a)

bytes_back : (a b : List ℕ) → bytes_eq a b ≡ false → bytes_eq b a ≡ false
bytes_back a b h = false_from_ne_true (bytes_eq b a) (λ t. true≢false (sym ((bytes_decides a b).1 (sym (same_hash b a t))) ∙ h))

module _ (ns : List Nsec3State) (o : List ℕ) (n : Nsec3State) (l : IsNearest ns o n) where
  -- it matches the hash, if one does
  pub nearest_matches : list_any (λ (m : Nsec3State). bytes_eq m.hash o) ns ≡ true → bytes_eq n.hash o ≡ true
  nearest_matches h = by_near l.near
    where
      by_near : ((is_lower o n.hash ≡ false) × ((m : Nsec3State) → Contains ns m → is_lower o m.hash ≡ false → is_lower n.hash m.hash ≡ false))
          ⊎ (((m : Nsec3State) → Contains ns m → is_lower o m.hash ≡ true) × ((m : Nsec3State) → Contains ns m → is_lower n.hash m.hash ≡ false)) → bytes_eq n.hash o ≡ true
      by_near (inl k) =
          let f = found (λ (m : Nsec3State). bytes_eq m.hash o) ns h in
          let e : f.one.hash ≡ o = same_hash f.one.hash o f.passes in
          let i : is_lower n.hash o ≡ false = ap (is_lower n.hash) (sym e) ∙ k.1 f.one f.there (ap (is_lower o) e ∙ not_itself o) in
          true_from_ne_false (bytes_eq n.hash o) (λ t. true≢false (sym (lower_apart n.hash o i t) ∙ k.0))
      by_near (inr k) =
          let f = found (λ (m : Nsec3State). bytes_eq m.hash o) ns h in
          let e : f.one.hash ≡ o = same_hash f.one.hash o f.passes in
          absurd (true≢false (sym (k.0 f.one f.there) ∙ (ap (is_lower o) e ∙ not_itself o)))

  -- and spans it, if it doesn't match
  pub nearest_spans : bytes_eq n.hash o ≡ false → list_any (λ (m : Nsec3State). bytes_eq m.hash n.next) ns ≡ true → spans o n ≡ true
  nearest_spans other h = by_near l.near (is_lower n.hash n.next) refl
    where
      by_near : ((is_lower o n.hash ≡ false) × ((m : Nsec3State) → Contains ns m → is_lower o m.hash ≡ false → is_lower n.hash m.hash ≡ false))
          ⊎ (((m : Nsec3State) → Contains ns m → is_lower o m.hash ≡ true) × ((m : Nsec3State) → Contains ns m → is_lower n.hash m.hash ≡ false)) →
          (b : Bool) → is_lower n.hash n.next ≡ b → (if b then is_lower n.hash o && is_lower o n.next else (is_lower n.hash o || is_lower o n.next)) ≡ true
      by_near (inl k) true e =
          let f = found (λ (m : Nsec3State). bytes_eq m.hash n.next) ns h in
          let q : f.one.hash ≡ n.next = same_hash f.one.hash n.next f.passes in
          and_from (is_lower n.hash o) (is_lower o n.next) (lower_apart o n.hash k.0 (bytes_back n.hash o other))
          (true_from_ne_false (is_lower o n.next) (λ t. true≢false (sym e ∙ (ap (is_lower n.hash) (sym q) ∙ k.1 f.one f.there (ap (is_lower o) q ∙ t)))))
      by_near (inl k) false e = or_left (is_lower n.hash o) (is_lower o n.next) (lower_apart o n.hash k.0 (bytes_back n.hash o other))
      by_near (inr k) true e =
          let f = found (λ (m : Nsec3State). bytes_eq m.hash n.next) ns h in
          let q : f.one.hash ≡ n.next = same_hash f.one.hash n.next f.passes in
          absurd (true≢false (sym e ∙ (ap (is_lower n.hash) (sym q) ∙ k.1 f.one f.there)))
      by_near (inr k) false e =
          let f = found (λ (m : Nsec3State). bytes_eq m.hash n.next) ns h in
          let q : f.one.hash ≡ n.next = same_hash f.one.hash n.next f.passes in
          or_right (is_lower n.hash o) (is_lower o n.next) (ap (is_lower o) (sym q) ∙ k.0 f.one f.there)

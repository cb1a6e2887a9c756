-- The nodes of records that are sorted by keys.
use Rattle.std.proofs.Common.{◌≡◌, ℕ, suc, ◌+◌, Bool, true, false, List, [], ◌∷◌, ◌++◌, cond, map, get_or, refl, ap, sym, subst, ◌∙◌, arith, append_assoc, append-nil}
use Rattle.std.specs.Prelude.{◌||◌, if◌then◌else◌}
use Rattle.std.specs.Cmp.Lexicographic.{bytes_decides}
use Rattle.std.specs.List.{AllByRecursion, filter, list_any}
use Rattle.std.specs.List.Sorted.{IsSortedBy}
use Rattle.std.specs.Str.{bytes_eq}
use Rattle.std.proofs.lemmas.Bool.{not-true, not-false}
use Rattle.std.proofs.lemmas.List.Folds.{list_any-append}
use Rattle.dns_zone_tree.specs.Joining.{AreBefore, AreBeforeFirst, AreRising, IsJoining, open_at}
use Rattle.dns_zone_tree.specs.Nodes.{AreOrdered, IsJoined, begins, begins_keyed, begins_node, is_at, is_before, is_below, is_last, is_lower, key_of, noded_at, typed_at}
use Rattle.dns_zone_tree.specs.declared.kinds.Kinds.{Kinds}
use Rattle.dns_zone_tree.specs.declared.kinds.TypedPlace.{TypedPlace}
use Rattle.dns_zone_tree.specs.declared.names.Keyed.{Keyed}
use Rattle.dns_zone_tree.specs.declared.names.Node.{Node}
use Rattle.dns_zone_tree.proofs.KeyOrder.{below_trans, next_below}

-- ---- sorted keys, one by one

pub rising_of : (o : List ℕ) (ks : List Keyed) → IsSortedBy (is_lower o) ks → AreRising o ks
rising_of o [] h = tt
rising_of o (x ∷ []) h = tt
rising_of o (x ∷ y ∷ ks) h = (
  h 0 x (omega arith) (omega arith),
  rising_of o (y ∷ ks) (λ k d a b.
      let e : suc k + 1 ≡ suc (k + 1) = omega arith in
      sym (ap (λ (i : ℕ). is_lower o (get_or (x ∷ y ∷ ks) i d) (get_or (y ∷ ks) k d)) e) ∙ h (suc k) d (omega arith) (omega (arith, b))),
)

rest_rising : (o : List ℕ) (x : Keyed) (ks : List Keyed) → AreRising o (x ∷ ks) → AreRising o ks
rest_rising o x [] h = tt
rest_rising o x (y ∷ ks) h = h.1

-- ---- at first and at last

either_none : (b : Bool) (l : List TypedPlace) → l ≡ [] → (if b then l else []) ≡ []
either_none true l e = e
either_none false l e = refl

nothing_open : (o p : List ℕ) (ks : List Keyed) → open_at o p [] ks ≡ []
nothing_open o p [] = refl
nothing_open o p (k ∷ ks) = either_none (is_at o p k) [] refl

first_before : (o : List ℕ) (ks : List Keyed) → AreBeforeFirst o [] ks
first_before o [] = tt
first_before o (k ∷ ks) = tt

pub joining_first : (o : List ℕ) (all : List Keyed) (ns : List Node) (ms : List TypedPlace) → ns ≡ [] → ms ≡ [] → IsSortedBy (is_lower o) all → IsJoining o all ns ms all
joining_first o all ns ms e f h =
    subst (λ (l : List Node). IsJoining o all l ms all) (sym e)
    (subst (λ (l : List TypedPlace). IsJoining o all [] l all) (sym f) (record {
      kept = λ p. ap (λ (l : List TypedPlace). l ++ typed_at o p all) (nothing_open o p all);
      there = λ p. refl;
      ordered = tt;
      before = first_before o all;
      rising = rising_of o all h;
    }))

pub joining_last : (o : List ℕ) (all ks : List Keyed) (ns : List Node) (ms : List TypedPlace) → ks ≡ [] → IsJoining o all ns ms ks → IsJoined o all ns
joining_last o all ks ns ms e h =
    let i = subst (IsJoining o all ns ms) e h in
    record {
      kept = λ p. sym (append-nil (noded_at o p ns)) ∙ i.kept p;
      there = λ p. or_none (list_any (begins_node o p) ns) ∙ i.there p;
      ordered = i.ordered;
    }
  where
    or_none : (b : Bool) → b ≡ (b || false)
    or_none true = refl
    or_none false = refl

-- ---- one record more

-- its place after those that are open
opened : (b : Bool) (ms : List TypedPlace) (k : Keyed) (ks : List Keyed) → (if b then ms ++ k.kind ∷ [] else []) ++ map (λ (x : Keyed). x.kind) ks ≡ (if b then ms else []) ++ map (λ (x : Keyed). x.kind) (cond b (k ∷ ks) ks)
opened true ms k ks = append_assoc ms (k.kind ∷ []) (map (λ (x : Keyed). x.kind) ks)
opened false ms k ks = refl

module _ (o : List ℕ) (all : List Keyed) (ns : List Node) (ms : List TypedPlace) (k : Keyed) where
  abbrev more : List TypedPlace
  more = ms ++ k.kind ∷ []

  or_twice : (a r : Bool) → (a || (a || r)) ≡ (a || r)
  or_twice true r = refl
  or_twice false r = refl

  -- the next record has the same key
  same_next : (j : Keyed) (ks : List Keyed) → key_of o k.span ≡ key_of o j.span → IsJoining o all ns ms (k ∷ j ∷ ks) → IsJoining o all ns more (j ∷ ks)
  same_next j ks e i = record {
    kept = λ p.
        ap (λ (x : List ℕ). noded_at o p ns ++ ((if bytes_eq x p then more else []) ++ typed_at o p (j ∷ ks))) (sym e)
        ∙ (ap (λ (l : List TypedPlace). noded_at o p ns ++ l) (opened (is_at o p k) ms k (filter (is_at o p) (j ∷ ks))) ∙ i.kept p);
    there = λ p.
        let r = list_any (begins_keyed o p) ks in
        ap (λ (b : Bool). list_any (begins_node o p) ns || b)
        (sym (ap (λ (x : List ℕ). begins p x || (begins_keyed o p j || r)) e ∙ or_twice (begins_keyed o p j) r))
        ∙ i.there p;
    ordered = i.ordered;
    before = subst (λ (x : List ℕ). AreBefore o x ns) e i.before;
    rising = i.rising.1;
  }

  -- ---- the next record, if there is one, has another key: a node is made

  module _ (n : Node) (at : n.span ≡ k.span) (its : n.kinds.places.items ≡ more) where
    noded_more : (p : List ℕ) (xs : List Node) → noded_at o p (xs ++ n ∷ []) ≡ noded_at o p xs ++ (if is_at o p k then more else [])
    noded_more p [] =
        append-nil (if bytes_eq (key_of o n.span) p then n.kinds.places.items else [])
        ∙ (λ t. if bytes_eq (key_of o (at t)) p then its t else [])
    noded_more p (x ∷ xs) =
        ap (λ (l : List TypedPlace). (if bytes_eq (key_of o x.span) p then x.kinds.places.items else []) ++ l) (noded_more p xs)
        ∙ sym (append_assoc (if bytes_eq (key_of o x.span) p then x.kinds.places.items else []) (noded_at o p xs) (if is_at o p k then more else []))

    all_more : (P : Node → Type 0) (xs : List Node) → AllByRecursion P xs → P n → AllByRecursion P (xs ++ n ∷ [])
    all_more P [] a h = (h, tt)
    all_more P (x ∷ xs) a h = (a.0, all_more P xs a.1 h)

    own : key_of o k.span ≡ key_of o n.span
    own = ap (key_of o) (sym at)

    ordered_more : (xs : List Node) → AreOrdered o xs → AreBefore o (key_of o k.span) xs → AreOrdered o (xs ++ n ∷ [])
    ordered_more [] w b = (tt, tt)
    ordered_more (x ∷ xs) w b =
        (all_more (λ (m : Node). is_before o (key_of o m.span) x ≡ true) xs w.0 (ap (λ (p : List ℕ). is_before o p x) (sym own) ∙ b.0), ordered_more xs w.1 b.1)

    before_more : (p : List ℕ) (xs : List Node) → is_below (key_of o k.span) p ≡ true → AreBefore o (key_of o k.span) xs → AreBefore o p xs
    before_more p [] h b = tt
    before_more p (x ∷ xs) h b = (below_trans (key_of o x.span) (key_of o k.span) p b.0 h, before_more p xs h b.1)

    first_more : (ks : List Keyed) → is_last o (key_of o k.span) ks ≡ true → AreRising o (k ∷ ks) → AreBefore o (key_of o k.span) ns → AreBeforeFirst o (ns ++ n ∷ []) ks
    first_more [] l r b = tt
    first_more (j ∷ ks) l r b =
        let h : is_below (key_of o k.span) (key_of o j.span) ≡ true = next_below (key_of o k.span) (key_of o j.span) r.0 (not-true (bytes_eq (key_of o k.span) (key_of o j.span)) l) in
        all_more (λ (m : Node). is_before o (key_of o j.span) m ≡ true) ns (before_more (key_of o j.span) ns h b) (ap (λ (p : List ℕ). is_below p (key_of o j.span)) (sym own) ∙ h)

    or_moved : (a b r : Bool) → ((a || (b || false)) || r) ≡ (a || (b || r))
    or_moved true b r = refl
    or_moved false true r = refl
    or_moved false false r = refl

    other_next : (ks : List Keyed) (fresh : List TypedPlace) → fresh ≡ [] → is_last o (key_of o k.span) ks ≡ true → IsJoining o all ns ms (k ∷ ks) → IsJoining o all (ns ++ n ∷ []) fresh ks
    other_next ks fresh e l i = record {
      kept = λ p.
          ap (λ (f : List TypedPlace). noded_at o p (ns ++ n ∷ []) ++ (open_at o p f ks ++ typed_at o p ks)) e
          ∙ (ap (λ (f : List TypedPlace). noded_at o p (ns ++ n ∷ []) ++ (f ++ typed_at o p ks)) (nothing_open o p ks)
          ∙ (ap (λ (f : List TypedPlace). f ++ typed_at o p ks) (noded_more p ns)
          ∙ (append_assoc (noded_at o p ns) (if is_at o p k then more else []) (typed_at o p ks)
          ∙ (ap (λ (f : List TypedPlace). noded_at o p ns ++ f) (opened (is_at o p k) ms k (filter (is_at o p) ks)) ∙ i.kept p))));
      there = λ p.
          let r = list_any (begins_keyed o p) ks in
          ap (λ (b : Bool). b || r) (list_any-append (begins_node o p) ns (n ∷ []) ∙ ap (λ (x : List ℕ). list_any (begins_node o p) ns || (begins p x || false)) (sym own))
          ∙ (or_moved (list_any (begins_node o p) ns) (begins_keyed o p k) r ∙ i.there p);
      ordered = ordered_more ns i.ordered i.before;
      before = first_more ks l i.rising i.before;
      rising = rest_rising o k ks i.rising;
    }

-- ---- as it is called

module _ (o : List ℕ) (all ks : List Keyed) (ns : List Node) (old now : Kinds) (k : Keyed) (pushed : now.places.items ≡ old.places.items ++ k.kind ∷ []) (i : IsJoining o all ns old.places.items (k ∷ ks)) where
  by_next : (xs : List Keyed) → is_last o (key_of o k.span) xs ≡ false → IsJoining o all ns old.places.items (k ∷ xs) → IsJoining o all ns (old.places.items ++ k.kind ∷ []) xs
  by_next [] l h = absurd (cc)
  by_next (j ∷ xs) l h = same_next o all ns old.places.items k j xs ((bytes_decides (key_of o k.span) (key_of o j.span)).0 (not-false (bytes_eq (key_of o k.span) (key_of o j.span)) l)) h

  pub joining_same : is_last o (key_of o k.span) ks ≡ false → IsJoining o all ns now.places.items ks
  joining_same l = subst (λ (m : List TypedPlace). IsJoining o all ns m ks) (sym pushed) (by_next ks l i)

  pub joining_other : (new : List Node) (fresh : List TypedPlace) → new ≡ ns ++ (record { span = k.span; kinds = now }) ∷ [] → fresh ≡ [] → is_last o (key_of o k.span) ks ≡ true → IsJoining o all new fresh ks
  joining_other new fresh m e l =
      let n : Node = record { span = k.span; kinds = now } in
      subst (λ (x : List Node). IsJoining o all x fresh ks) (sym m) (other_next o all ns old.places.items k n refl pushed ks fresh e l i)

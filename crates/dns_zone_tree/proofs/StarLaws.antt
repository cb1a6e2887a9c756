-- Names with `*`, of which there are none if no key has such an octet.
use Rattle.std.proofs.Common.{◌≡◌, ℕ, ◌-◌, Bool, true, false, List, [], ◌∷◌, length, take, drop, nat_eq, nat_le, None, refl, ap, sym, ◌∙◌}
use Rattle.std.specs.Prelude.{◌||◌, ◌&&◌, if◌then◌else◌}
use Rattle.std.specs.Cmp.Lexicographic.{bytes_decides}
use Rattle.std.specs.List.{slice_range}
use Rattle.std.proofs.lemmas.Bool.{true≢false, false_from_ne_true}
use Rattle.std.proofs.lemmas.List.{take-append-drop}
use Rattle.std.proofs.lemmas.List.Folds.{list_any-append}
use Rattle.dns_order.specs.Keys.{canonical_key}
use Rattle.dns_order.proofs.KeyLaws.{keys_begin_alike}
use Rattle.dns_zone_tree.specs.Nodes.{begins_node, has_star, key_of, kinds_among, node_kinds}
use Rattle.dns_zone_tree.specs.Wildcards.{star}
use Rattle.dns_zone_tree.specs.declared.kinds.Kinds.{Kinds}
use Rattle.dns_zone_tree.specs.declared.names.Node.{Node}
use Rattle.dns_zone_tree.specs.declared.names.Span.{Span}

-- ---- parts of octets

first_false : (a b : Bool) → (a || b) ≡ false → a ≡ false
first_false true b h = absurd (cc)
first_false false b h = refl

second_false : (a b : Bool) → (a || b) ≡ false → b ≡ false
second_false true b h = absurd (cc)
second_false false b h = h

any_parts : (n : ℕ) (o : List ℕ) → has_star o ≡ false → (has_star (take n o) || has_star (drop n o)) ≡ false
any_parts n o h = sym (list_any-append (nat_eq 42) (take n o) (drop n o)) ∙ (ap has_star (take-append-drop n o) ∙ h)

in_front : (n : ℕ) (o : List ℕ) → has_star o ≡ false → has_star (take n o) ≡ false
in_front n o h = first_false (has_star (take n o)) (has_star (drop n o)) (any_parts n o h)

behind : (n : ℕ) (o : List ℕ) → has_star o ≡ false → has_star (drop n o) ≡ false
behind n o h = second_false (has_star (take n o)) (has_star (drop n o)) (any_parts n o h)

in_key : (o : List ℕ) (s : Span) → has_star o ≡ false → has_star (key_of o s) ≡ false
in_key o s h = by_test (nat_le s.start s.end && nat_le s.end (length o))
  where
    by_test : (b : Bool) → has_star (if b then slice_range o s.start s.end else []) ≡ false
    by_test true = in_front (s.end - s.start) (drop s.start o) (behind s.start o h)
    by_test false = refl

-- ---- what begins with them

module _ (o : List ℕ) (none : Kinds) (p : List ℕ) (clear : has_star o ≡ false) (starred : has_star p ≡ true) where
  not_begun : (n : Node) → begins_node o p n ≡ false
  not_begun n =
      false_from_ne_true (begins_node o p n) (λ t.
      let k = key_of o n.span in
      true≢false (sym starred ∙ (ap has_star ((bytes_decides p (take (length p) k)).0 t) ∙ in_front (length p) k (in_key o n.span clear))))

  pub none_starred : (ns : List Node) → None ≡ kinds_among o none p ns
  none_starred [] = refl
  none_starred (n ∷ ns) = none_starred ns ∙ sym (ap (λ (b : Bool). if b then node_kinds o none p n else kinds_among o none p ns) (not_begun n))

-- ---- the key of a wildcard

or_true : (b : Bool) → (b || true) ≡ true
or_true true = refl
or_true false = refl

pub star_starred : (above : List (List ℕ)) → has_star (canonical_key (star ∷ above)) ≡ true
star_starred above =
    ap has_star (keys_begin_alike (star ∷ []) above)
    ∙ (list_any-append (nat_eq 42) (canonical_key above) (42 ∷ 0 ∷ []) ∙ or_true (has_star (canonical_key above)))

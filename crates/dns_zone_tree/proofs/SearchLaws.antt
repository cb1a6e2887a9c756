-- The search for a key among nodes in order: the first that doesn't come before it has what is kept of it.
use Rattle.std.proofs.Common.{◌≡◌, ℕ, zero, suc, ◌≤◌, ◌<◌, ◌-◌, Bool, true, false, List, [], ◌∷◌, ◌++◌, length, refl, ap, sym, subst, ◌∙◌, arith, append-nil}
use Rattle.std.specs.Prelude.{◌||◌, if◌then◌else◌, is_some, slice_index_or, Option, Some, None}
use Rattle.std.specs.Cmp.Lexicographic.{bytes_decides}
use Rattle.std.specs.List.{AllByRecursion, list_any, slice_get}
use Rattle.std.specs.List.Sorted.{IsPartitionPoint, IsPartitionedBy}
use Rattle.std.specs.Option.{option_map_or}
use Rattle.std.specs.Str.{bytes_eq}
use Rattle.std.proofs.lemmas.Bool.{true≢false, false_from_ne_true}
use Rattle.dns_zone_tree.specs.Kinds.{places_in, places_of}
use Rattle.dns_zone_tree.specs.Nodes.{AreOrdered, IsCountBefore, begins_node, is_before, is_below, key_of, kinds_among, node_kinds, noded_at}
use Rattle.dns_zone_tree.specs.declared.kinds.Kinds.{Kinds}
use Rattle.dns_zone_tree.specs.declared.kinds.TypedPlace.{TypedPlace}
use Rattle.dns_zone_tree.specs.declared.names.Node.{Node}
use Rattle.dns_zone_tree.proofs.KeyOrder.{begins_amid, begins_not_below, below_trans, same_begins}

-- what holds of all holds of the one at a place
pub all_got : {A : Type 0} (P : A → Type 0) (xs : List A) (i : ℕ) (x : A) → AllByRecursion P xs → slice_get xs i ≡ Some x → P x
all_got P [] i x h e = absurd (cc)
all_got P (y ∷ ys) zero x h e =
    let s : y ≡ x = cc in
    subst P s h.0
all_got P (y ∷ ys) (suc i) x h e = all_got P ys i x h.1 e

-- ---- nodes that come before a key stand first

module _ (o p : List ℕ) where
  abbrev IsAfter : Node → Node → Type 0
  IsAfter n m = is_before o (key_of o m.span) n ≡ true

  passed_on : (n : Node) (ns : List Node) (j : ℕ) (d : Node) → AllByRecursion (IsAfter n) ns → j < length ns → is_before o p (slice_index_or ns j d) ≡ true → is_before o p n ≡ true
  passed_on n [] j d a l h = absurd (omega (arith, l))
  passed_on n (m ∷ ns) zero d a l h = below_trans (key_of o n.span) (key_of o m.span) p a.0 h
  passed_on n (m ∷ ns) (suc j) d a l h = passed_on n ns j d a.1 (omega (arith, l)) h

  pub partitioned : (ns : List Node) → AreOrdered o ns → IsPartitionedBy (is_before o p) ns
  partitioned [] w i j d l k h = absurd (omega (arith, k))
  partitioned (n ∷ ns) w zero zero d l k h = h
  partitioned (n ∷ ns) w zero (suc j) d l k h = passed_on n ns j d w.0 (omega (arith, k)) h
  partitioned (n ∷ ns) w (suc i) zero d l k h = absurd (omega (arith, l))
  partitioned (n ∷ ns) w (suc i) (suc j) d l k h = partitioned ns w.1 i j d (omega (arith, l)) (omega (arith, k)) h

-- ---- a place between nodes that come before a key and others

-- what is at a place of a list is what is read there
got_there : {A : Type 0} (p : A → Bool) (xs : List A) (i : ℕ) (d : A) (b : Bool) → i < length xs → option_map_or p (slice_get xs i) false ≡ b → p (slice_index_or xs i d) ≡ b
got_there p [] i d b l e = absurd (omega (arith, l))
got_there p (x ∷ xs) zero d b l e = e
got_there p (x ∷ xs) (suc i) d b l e = got_there p xs i d b (omega (arith, l)) e

got_within : {A : Type 0} (p : A → Bool) (xs : List A) (i : ℕ) → option_map_or p (slice_get xs i) false ≡ true → i < length xs
got_within p [] i e = absurd (cc)
got_within p (x ∷ xs) zero e = omega arith
got_within p (x ∷ xs) (suc i) e = let l = got_within p xs i e in omega (arith, l)

module _ (o p : List ℕ) (ns : List Node) (w : AreOrdered o ns) where
  -- none after a node that doesn't come before the key does
  not_behind : (count : ℕ) → option_map_or (is_before o p) (slice_get ns count) false ≡ false → (k : ℕ) (d : Node) → count ≤ k → k < length ns → is_before o p (slice_index_or ns k d) ≡ false
  not_behind count e k d l h =
      false_from_ne_true (is_before o p (slice_index_or ns k d)) (λ t. true≢false (sym (partitioned o p ns w count k d l h t) ∙ got_there (is_before o p) ns count d false (omega (arith, l, h)) e))

  pub point_at_first : (count : ℕ) → option_map_or (is_before o p) (slice_get ns count) false ≡ false → count ≡ 0 → IsCountBefore o p ns count
  point_at_first count e z = (λ k d l h. absurd (omega (arith, h, z)), not_behind count e)

  pub point_at : (count : ℕ) → option_map_or (is_before o p) (slice_get ns count) false ≡ false → option_map_or (is_before o p) (slice_get ns (count - 1)) false ≡ true → IsCountBefore o p ns count
  point_at count e f = (
    λ k d l h. partitioned o p ns w k (count - 1) d (omega (arith, h)) (got_within (is_before o p) ns (count - 1) f) (got_there (is_before o p) ns (count - 1) d true (got_within (is_before o p) ns (count - 1) f) f),
    not_behind count e,
  )

-- ---- what is found

-- what the node at a place keeps
abbrev pub kept_by : List ℕ → Kinds → List ℕ → Option Node → Option Kinds
kept_by o none p None = None
kept_by o none p (Some n) = node_kinds o none p n

module _ (o : List ℕ) (none : Kinds) (p : List ℕ) where
  not_begun : (n : Node) → begins_node o p n ≡ false → bytes_eq (key_of o n.span) p ≡ false
  not_begun n b = false_from_ne_true (bytes_eq (key_of o n.span) p) (λ e. true≢false (sym (same_begins p (key_of o n.span) e) ∙ b))

  -- a node that doesn't begin with the octets is passed over
  over : (n : Node) (ns : List Node) → begins_node o p n ≡ false → kinds_among o none p (n ∷ ns) ≡ kinds_among o none p ns
  over n ns b = ap (λ (c : Bool). if c then node_kinds o none p n else kinds_among o none p ns) b

  -- none after a node that isn't before the octets, and doesn't begin with them, begins with them
  none_behind : (n : Node) (ns : List Node) → is_before o p n ≡ false → begins_node o p n ≡ false → AllByRecursion (IsAfter o p n) ns → kinds_among o none p ns ≡ None
  none_behind n [] h b a = refl
  none_behind n (m ∷ ns) h b a =
      over m ns (false_from_ne_true (begins_node o p m) (λ e. true≢false (sym (begins_amid p (key_of o n.span) (key_of o m.span) h a.0 e) ∙ b))) ∙ none_behind n ns h b a.1

  found_here : (n : Node) (ns : List Node) (c : Bool) → begins_node o p n ≡ c → is_before o p n ≡ false → AllByRecursion (IsAfter o p n) ns → (if c then node_kinds o none p n else kinds_among o none p ns) ≡ node_kinds o none p n
  found_here n ns true b h a = refl
  found_here n ns false b h a =
      none_behind n ns h b a
      ∙ sym (ap (λ (e : Bool). if e then Some n.kinds else (if begins_node o p n then Some none else None)) (not_begun n b) ∙ ap (λ (c : Bool). if c then Some none else None) b)

  finds : (ns : List Node) (i : ℕ) → AreOrdered o ns → ((k : ℕ) (d : Node) → k < i → is_before o p (slice_index_or ns k d) ≡ true) → ((k : ℕ) (d : Node) → i ≤ k → k < length ns → is_before o p (slice_index_or ns k d) ≡ false) →
      kinds_among o none p ns ≡ kept_by o none p (slice_get ns i)
  finds [] i w f g = refl
  finds (n ∷ ns) zero w f g = found_here n ns (begins_node o p n) refl (g zero n (omega arith) (omega arith)) w.0
  finds (n ∷ ns) (suc i) w f g =
      over n ns (false_from_ne_true (begins_node o p n) (λ e. true≢false (sym (f zero n (omega arith)) ∙ begins_not_below p (key_of o n.span) e)))
      ∙ finds ns i w.1 (λ k d h. f (suc k) d (omega (arith, h))) (λ k d h l. g (suc k) d (omega (arith, h)) (omega (arith, l)))

  pub found_at : (ns : List Node) (i : ℕ) → AreOrdered o ns → IsPartitionPoint (λ (n : Node). is_before o p n ≡ true) (λ (n : Node). is_before o p n ≡ false) ns i → kinds_among o none p ns ≡ kept_by o none p (slice_get ns i)
  found_at ns i w h = finds ns i w (λ k d l. h.0 k d (omega arith) l) (λ k d l m. h.1 k d l m)

  -- ---- the node of the octets themselves

  own_here : (n : Node) (ns : List Node) → bytes_eq (key_of o n.span) p ≡ true → kinds_among o none p (n ∷ ns) ≡ Some n.kinds
  own_here n ns e =
      ap (λ (c : Bool). if c then node_kinds o none p n else kinds_among o none p ns) (same_begins p (key_of o n.span) e)
      ∙ ap (λ (c : Bool). if c then Some n.kinds else (if begins_node o p n then Some none else None)) e

  -- a node that comes before it doesn't begin with them
  before_own : (m n : Node) → is_before o (key_of o n.span) m ≡ true → bytes_eq (key_of o n.span) p ≡ true → begins_node o p m ≡ false
  before_own m n b e =
      let l : is_below (key_of o m.span) p ≡ true = sym (ap (λ (k : List ℕ). is_below (key_of o m.span) k) ((bytes_decides (key_of o n.span) p).0 e)) ∙ b in
      false_from_ne_true (begins_node o p m) (λ t. true≢false (sym l ∙ begins_not_below p (key_of o m.span) t))

  pub own_among : (n : Node) (ns : List Node) (i : ℕ) → AreOrdered o ns → slice_get ns i ≡ Some n → bytes_eq (key_of o n.span) p ≡ true → kinds_among o none p ns ≡ Some n.kinds
  own_among n [] i w g e = absurd (cc)
  own_among n (m ∷ ns) zero w g e =
      let s : m ≡ n = cc in
      own_here m ns (ap (λ (x : Node). bytes_eq (key_of o x.span) p) s ∙ e) ∙ ap (λ (x : Node). Some x.kinds) s
  own_among n (m ∷ ns) (suc i) w g e =
      over m ns (before_own m n (all_got (λ (x : Node). is_before o (key_of o x.span) m ≡ true) ns i n w.0 g) e) ∙ own_among n ns i w.1 g e

  -- something is kept exactly if a node begins with the octets
  some_step : (n : Node) (b c : Bool) (o2 : Option Kinds) → begins_node o p n ≡ b → is_some o2 ≡ c → is_some (if b then node_kinds o none p n else o2) ≡ (b || c)
  some_step n true c o2 e h = some_by (bytes_eq (key_of o n.span) p) (begins_node o p n) e
    where
      some_by : (x y : Bool) → y ≡ true → is_some (if x then Some n.kinds else (if y then Some none else None)) ≡ true
      some_by true y h2 = refl
      some_by false true h2 = refl
      some_by false false h2 = absurd (cc)
  some_step n false c o2 e h = h

  pub some_among : (ns : List Node) → is_some (kinds_among o none p ns) ≡ list_any (begins_node o p) ns
  some_among [] = refl
  some_among (n ∷ ns) = some_step n (begins_node o p n) (list_any (begins_node o p) ns) (kinds_among o none p ns) refl (some_among ns)

  -- ---- and all that the nodes of the key have

  noded_none : (n : Node) (ns : List Node) → is_before o p n ≡ false → AllByRecursion (IsAfter o p n) ns → noded_at o p ns ≡ []
  noded_none n [] h a = refl
  noded_none n (m ∷ ns) h a =
      ap (λ (b : Bool). (if b then m.kinds.places.items else []) ++ noded_at o p ns)
      (false_from_ne_true (bytes_eq (key_of o m.span) p) (λ e. true≢false (sym a.0 ∙ (ap (λ (k : List ℕ). is_below (key_of o n.span) k) ((bytes_decides (key_of o m.span) p).0 e) ∙ h))))
      ∙ noded_none n ns h a.1

  module _ (t : ℕ) (empty : none.places.items ≡ []) where
    begun : (n : Node) (rest : List TypedPlace) (b c : Bool) → rest ≡ [] → c ≡ true → places_in t (if b then Some n.kinds else (if c then Some none else None)) ≡ places_of t ((if b then n.kinds.places.items else []) ++ rest)
    begun n rest true c e h = ap (places_of t) (sym (append-nil n.kinds.places.items) ∙ ap (λ (l : List TypedPlace). n.kinds.places.items ++ l) (sym e))
    begun n rest false true e h = ap (places_of t) (empty ∙ sym e)
    begun n rest false false e h = absurd (cc)

    by_begin : (n : Node) (ns : List Node) (c : Bool) → begins_node o p n ≡ c → AllByRecursion (IsAfter o p n) ns → places_in t (kinds_among o none p ns) ≡ places_of t (noded_at o p ns) →
        places_in t (if c then node_kinds o none p n else kinds_among o none p ns) ≡ places_of t ((if bytes_eq (key_of o n.span) p then n.kinds.places.items else []) ++ noded_at o p ns)
    by_begin n ns true b a ih =
        begun n (noded_at o p ns) (bytes_eq (key_of o n.span) p) (begins_node o p n) (noded_none n ns (begins_not_below p (key_of o n.span) b) a) b
    by_begin n ns false b a ih =
        ih ∙ ap (λ (e : Bool). places_of t ((if e then n.kinds.places.items else []) ++ noded_at o p ns)) (sym (not_begun n b))

    pub places_among : (ns : List Node) → AreOrdered o ns → places_in t (kinds_among o none p ns) ≡ places_of t (noded_at o p ns)
    places_among [] w = refl
    places_among (n ∷ ns) w = by_begin n ns (begins_node o p n) refl w.0 (places_among ns w.1)

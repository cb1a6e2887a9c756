-- The keys of the owners of records, sorted, and what their index says.
use Rattle.std.proofs.Common.{◌≡◌, ℕ, ◌+◌, ◌-◌, ◌≤◌, ◌<◌, Bool, true, false, List, [], ◌∷◌, ◌++◌, cond, length, map, take, drop, take_all, get_or, nat_eq, nat_le, refl, ap, sym, subst, ◌∙◌, arith, length-append}
use Rattle.std.specs.Prelude.{◌&&◌, ◌||◌, if◌then◌else◌, nat_lt, Some, None}
use Rattle.std.specs.Cmp.{both_ways}
use Rattle.std.specs.Cmp.Lexicographic.{bytes_decides}
use Rattle.std.specs.List.{AllByRecursion, filter, list_any, slice_range}
use Rattle.std.specs.List.Sorted.{IsPermutation, IsStableBy, ties}
use Rattle.std.specs.Str.{bytes_eq}
use Rattle.std.proofs.Math.Seq.{drop-append_seam, take-append_seam}
use Rattle.std.proofs.lemmas.Bool.Decides.{nat_tests}
use Rattle.std.proofs.lemmas.List.{drop-append-le, length-drop, length-take-le, map-append, take-append-drop, take-append-le, take_more}
use Rattle.std.proofs.lemmas.List.Elements.{filter-append}
use Rattle.std.proofs.lemmas.List.Folds.{Any-from_list_any, list_any-append}
use Rattle.std.proofs.lemmas.List.Sorted.{list_any-IsPermutation}
use Rattle.std.proofs.lemmas.List.Sums.{sum_by_more_le, sum_by_push}
use Rattle.dns_name.specs.Canonical.{same_name, same_name_Decides}
use Rattle.dns_name.specs.Labels.{EndsWith}
use Rattle.dns_base.specs.Records.{data_type}
use Rattle.dns_message.specs.declared.record.Record.{Record}
use Rattle.dns_order.specs.Keys.{BeginsWith, canonical_key}
use Rattle.dns_order.proofs.BeginLaws.{keys_are_names, keys_begin_above}
use Rattle.dns_route.specs.Routes.{ends_name}
use Rattle.dns_zone.specs.Owned.{is_asked}
use Rattle.dns_zone.specs.Places.{places}
use Rattle.dns_zone.proofs.PathLaws.{both_true, first_true, le_true, second_true, true_le}
use Rattle.dns_zone.proofs.PlaceLaws.{places_more}
use Rattle.dns_zone_tree.specs.Kinds.{is_kind, places_of}
use Rattle.dns_zone_tree.specs.Names.{IsKeyed, KnowsNames}
use Rattle.dns_zone_tree.specs.Nodes.{IsJoined, Names, begins, begins_keyed, is_at, is_lower, key_of, typed_at}
use Rattle.dns_zone_tree.specs.TreeErrors.{keys_size, size_error, size_limit}
use Rattle.dns_zone_tree.specs.declared.error.TreeError.TheVariants.{Large}
use Rattle.dns_zone_tree.specs.declared.kinds.TypedPlace.{TypedPlace}
use Rattle.dns_zone_tree.specs.declared.names.Keyed.{Keyed}
use Rattle.dns_zone_tree.specs.declared.names.Span.{Span}
use Rattle.dns_zone_tree.proofs.KeyOrder.{ties_same}
use Rattle.dns_zone_tree.proofs.KindLaws.{places_join}
use Rattle.dns_zone_tree.proofs.SearchLaws.{places_among, some_among}

-- ---- a key begins with another exactly if its name ends with the other's

begins_ends : (a b : List (List ℕ)) → begins (canonical_key b) (canonical_key a) ≡ ends_name a b
begins_ends a b =
    let n = length (canonical_key b) in
    let there : begins (canonical_key b) (canonical_key a) ≡ true → ends_name a b ≡ true = λ t.
    let e : canonical_key b ≡ take n (canonical_key a) = (bytes_decides (canonical_key b) (take n (canonical_key a))).0 t in
    let s : BeginsWith (canonical_key a) (canonical_key b) = (drop n (canonical_key a), sym (take-append-drop n (canonical_key a)) ∙ ap (λ (l : List ℕ). l ++ drop n (canonical_key a)) (sym e)) in
    let w : EndsWith a b = (keys_begin_above a b).0 s in
    both_true (nat_le (length b) (length a)) (same_name (drop (length a - length b) a) b) (le_true (length b) (length a) w.enough) ((same_name_Decides (drop (length a - length b) a) b).1 w.last)
    in
    let back : ends_name a b ≡ true → begins (canonical_key b) (canonical_key a) ≡ true = λ t.
    let w : EndsWith a b = record {
      enough = true_le (length b) (length a) (first_true (nat_le (length b) (length a)) (same_name (drop (length a - length b) a) b) t);
      last = (same_name_Decides (drop (length a - length b) a) b).0 (second_true (nat_le (length b) (length a)) (same_name (drop (length a - length b) a) b) t);
    } in
    let s = (keys_begin_above a b).1 w in
    (bytes_decides (canonical_key b) (take n (canonical_key a))).1 (sym (take-append_seam (canonical_key b) s.0) ∙ ap (take n) (sym s.1))
    in
    both_ways (begins (canonical_key b) (canonical_key a)) (ends_name a b) there back

-- ---- keys after one another

-- a key stays if octets come after
key_stays : (o more : List ℕ) (s : Span) → s.end ≤ length o → key_of (o ++ more) s ≡ key_of o s
key_stays o more s h = by_order (nat_le s.start s.end) refl
  where
    in_both : nat_le s.end (length (o ++ more)) ≡ nat_le s.end (length o)
    in_both = le_true s.end (length (o ++ more)) (omega (arith, h, length-append o more)) ∙ sym (le_true s.end (length o) h)

    same_range : s.start ≤ s.end → slice_range (o ++ more) s.start s.end ≡ slice_range o s.start s.end
    same_range l =
        ap (take (s.end - s.start)) (drop-append-le s.start o more (omega (arith, l, h)))
        ∙ take-append-le (s.end - s.start) (drop s.start o) more (omega (arith, l, h, length-drop s.start o))

    by_order : (b : Bool) → nat_le s.start s.end ≡ b → key_of (o ++ more) s ≡ key_of o s
    by_order true e =
        ap (λ (c : Bool). if nat_le s.start s.end && c then slice_range (o ++ more) s.start s.end else []) in_both
        ∙ ap (λ (l : List ℕ). if nat_le s.start s.end && nat_le s.end (length o) then l else []) (same_range (true_le s.start s.end e))
    by_order false e =
        ap (λ (c : Bool). if c && nat_le s.end (length (o ++ more)) then slice_range (o ++ more) s.start s.end else []) e
        ∙ sym (ap (λ (c : Bool). if c && nat_le s.end (length o) then slice_range o s.start s.end else []) e)

-- and the last one is what came
key_last : (o key : List ℕ) (s : Span) → s.start ≡ length o → s.end ≡ length o + length key → key_of (o ++ key) s ≡ key
key_last o key s e f =
    let a : nat_le s.start s.end ≡ true = le_true s.start s.end (omega (arith, e, f)) in
    let b : nat_le s.end (length (o ++ key)) ≡ true = le_true s.end (length (o ++ key)) (omega (arith, f, length-append o key)) in
    let n : s.end - s.start ≡ length key = omega (arith, e, f) in
    ap (λ (c : Bool). if c && nat_le s.end (length (o ++ key)) then slice_range (o ++ key) s.start s.end else []) a
    ∙ (ap (λ (c : Bool). if c then slice_range (o ++ key) s.start s.end else []) b
    ∙ (ap (λ (i : ℕ). take (s.end - s.start) (drop i (o ++ key))) e
    ∙ (ap (take (s.end - s.start)) (drop-append_seam o key) ∙ (ap (λ (i : ℕ). take i key) n ∙ take_all (length key) key (omega arith)))))

-- ---- one record more

module _ (o more : List ℕ) where
  abbrev AreWithin : List Keyed → Type 0
  AreWithin ks = AllByRecursion (λ (k : Keyed). k.span.end ≤ length o) ks

  filter_stays : (p : List ℕ) (ks : List Keyed) → AreWithin ks → filter (is_at (o ++ more) p) ks ≡ filter (is_at o p) ks
  filter_stays p [] w = refl
  filter_stays p (k ∷ ks) w =
      ap (λ (x : List ℕ). cond (bytes_eq x p) (k ∷ filter (is_at (o ++ more) p) ks) (filter (is_at (o ++ more) p) ks)) (key_stays o more k.span w.0)
      ∙ ap (λ (l : List Keyed). cond (is_at o p k) (k ∷ l) l) (filter_stays p ks w.1)

  any_stays : (p : List ℕ) (ks : List Keyed) → AreWithin ks → list_any (begins_keyed (o ++ more) p) ks ≡ list_any (begins_keyed o p) ks
  any_stays p [] w = refl
  any_stays p (k ∷ ks) w =
      ap (λ (x : List ℕ). begins p x || list_any (begins_keyed (o ++ more) p) ks) (key_stays o more k.span w.0)
      ∙ ap (λ (b : Bool). begins_keyed o p k || b) (any_stays p ks w.1)

  within_more : (ks : List Keyed) (k : Keyed) → AreWithin ks → k.span.end ≡ length o + length more → AllByRecursion (λ (x : Keyed). x.span.end ≤ length (o ++ more)) (ks ++ k ∷ [])
  within_more [] k w e = (omega (arith, e, length-append o more), tt)
  within_more (x ∷ ks) k w e = (omega (arith, w.0, length-append o more), within_more ks k w.1 e)

-- the places of one record more
one_typed : (b : Bool) (t : ℕ) (k : Keyed) → places_of t (map (λ (x : Keyed). x.kind) (cond b (k ∷ []) [])) ≡ (if b && is_kind t k.kind then k.kind.place ∷ [] else [])
one_typed true t k = by_kind (is_kind t k.kind)
  where
    by_kind : (c : Bool) → map (λ (x : TypedPlace). x.place) (cond c (k.kind ∷ []) []) ≡ (if c then k.kind.place ∷ [] else [])
    by_kind true = refl
    by_kind false = refl
one_typed false t k = refl

module _ (o : List ℕ) (ks : List Keyed) (rs : List Record) (r : Record) (key : List ℕ) (k : Keyed) (h : IsKeyed o ks rs) (its : key ≡ canonical_key r.owner) (starts : k.span.start ≡ length o) (ends : k.span.end ≡ length o + length key) (typed : k.kind.rtype ≡ data_type r.rdata) (placed : k.kind.place ≡ length rs) where
  own_key : key_of (o ++ key) k.span ≡ canonical_key r.owner
  own_key = key_last o key k.span starts ends ∙ its

  is_same : (name : List (List ℕ)) (t : ℕ) → (is_at (o ++ key) (canonical_key name) k && is_kind t k.kind) ≡ is_asked name t r
  is_same name t =
      ap (λ (x : List ℕ). bytes_eq x (canonical_key name) && is_kind t k.kind) own_key
      ∙ (ap (λ (b : Bool). b && is_kind t k.kind) (keys_are_names r.owner name)
      ∙ ap (λ (s : ℕ). same_name r.owner name && (nat_eq t 255 || nat_eq s t)) typed)

  more_kept : (name : List (List ℕ)) (t : ℕ) → places_of t (typed_at (o ++ key) (canonical_key name) (ks ++ k ∷ [])) ≡ places (is_asked name t) (rs ++ r ∷ [])
  more_kept name t =
      let p = canonical_key name in
      let f = filter (is_at (o ++ key) p) in
      let kinds = map (λ (x : Keyed). x.kind) in
      ap (λ (l : List Keyed). places_of t (kinds l)) (filter-append (is_at (o ++ key) p) ks (k ∷ []))
      ∙ (ap (places_of t) (map-append (λ (x : Keyed). x.kind) (f ks) (f (k ∷ [])))
      ∙ (places_join t (kinds (f ks)) (kinds (f (k ∷ [])))
      ∙ (ap (λ (l : List ℕ). l ++ places_of t (kinds (f (k ∷ [])))) (ap (λ (l : List Keyed). places_of t (kinds l)) (filter_stays o key p ks h.within) ∙ h.kept name t)
      ∙ (ap (λ (l : List ℕ). places (is_asked name t) rs ++ l)
      (one_typed (is_at (o ++ key) p k) t k ∙ (ap (λ (b : Bool). if b then k.kind.place ∷ [] else []) (is_same name t) ∙ ap (λ (i : ℕ). if is_asked name t r then i ∷ [] else []) placed))
      ∙ sym (places_more (is_asked name t) rs r)))))

  more_there : (name : List (List ℕ)) → list_any (begins_keyed (o ++ key) (canonical_key name)) (ks ++ k ∷ []) ≡ list_any (λ (x : Record). ends_name x.owner name) (rs ++ r ∷ [])
  more_there name =
      let p = canonical_key name in
      list_any-append (begins_keyed (o ++ key) p) ks (k ∷ [])
      ∙ (ap (λ (b : Bool). b || (begins_keyed (o ++ key) p k || false)) (any_stays o key p ks h.within ∙ h.there name)
      ∙ (ap (λ (b : Bool). list_any (λ (x : Record). ends_name x.owner name) rs || (b || false)) (ap (begins p) own_key ∙ begins_ends r.owner name)
      ∙ sym (list_any-append (λ (x : Record). ends_name x.owner name) rs (r ∷ []))))

  pub keyed_more : (o2 : List ℕ) (ks2 : List Keyed) → o2 ≡ o ++ key → ks2 ≡ ks ++ k ∷ [] → IsKeyed o2 ks2 (rs ++ r ∷ [])
  keyed_more o2 ks2 e f =
      subst (λ (x : List ℕ). IsKeyed x ks2 (rs ++ r ∷ [])) (sym e) (subst (λ (x : List Keyed). IsKeyed (o ++ key) x (rs ++ r ∷ [])) (sym f) (record {
        kept = more_kept;
        there = more_there;
        within = within_more o key ks k h.within ends;
        size = length-append o key ∙ ((λ i. h.size i + length (its i)) ∙ sym (sum_by_push (λ (x : Record). length (canonical_key x.owner)) rs r));
      }))

-- ---- a list that is too large

large_by : (a b : Bool) → (a || b) ≡ true → (if a || b then Some Large else None) ≡ Some Large
large_by a b e = ap (λ (c : Bool). if c then Some Large else None) e

or_second : (a b : Bool) → b ≡ true → (a || b) ≡ true
or_second true b h = refl
or_second false b h = h

or_both : (a b : Bool) → a ≡ false → b ≡ false → (a || b) ≡ false
or_both true b g h = absurd (cc)
or_both false b g h = h

pub large_list : (rs : List Record) → size_limit < length rs → size_error rs ≡ Some Large
large_list rs h =
    let a : nat_lt size_limit (length rs) ≡ true = grind (arith, nat_tests, h) in
    ap (λ (c : Bool). if c || nat_lt size_limit (keys_size rs) then Some Large else None) a

pub large_keys : (rs : List Record) (i : ℕ) (r : Record) (o : List ℕ) (n : ℕ) → i < length rs → r ≡ get_or rs i r → length o ≡ keys_size (take i rs) → n ≡ length (canonical_key r.owner) → size_limit < length o + n → size_error rs ≡ Some Large
large_keys rs i r o n h is s e l =
    let m = sum_by_more_le (λ (x : Record). length (canonical_key x.owner)) rs i r h in
    let f : length (canonical_key (get_or rs i r).owner) ≡ n = ap (λ (x : Record). length (canonical_key x.owner)) (sym is) ∙ sym e in
    let t : size_limit < keys_size rs = omega (arith, m, f, s, l) in
    let b : nat_lt size_limit (keys_size rs) ≡ true = grind (arith, nat_tests, t) in
    large_by (nat_lt size_limit (length rs)) (nat_lt size_limit (keys_size rs)) (or_second (nat_lt size_limit (length rs)) (nat_lt size_limit (keys_size rs)) b)

pub small_list : (rs : List Record) (o : List ℕ) → length rs ≤ size_limit → length o ≤ size_limit → length o ≡ keys_size rs → size_error rs ≡ None
small_list rs o g h s =
    let a : nat_lt size_limit (length rs) ≡ false = grind (arith, nat_tests, g) in
    let b : nat_lt size_limit (keys_size rs) ≡ false = grind (arith, nat_tests, h, s) in
    ap (λ (c : Bool). if c then Some Large else None) (or_both (nat_lt size_limit (length rs)) (nat_lt size_limit (keys_size rs)) a b)

-- ---- in the loop

pub record IsKeying (o : List ℕ) (ks : List Keyed) (rs : List Record) (i : ℕ) : Type 0 where
  pub keyed : IsKeyed o ks (take i rs)
  pub room : length o ≤ size_limit

pub keying_none : (o : List ℕ) (ks : List Keyed) (rs : List Record) → o ≡ [] → ks ≡ [] → IsKeying o ks rs 0
keying_none o ks rs e f =
    subst (λ (x : List ℕ). IsKeying x ks rs 0) (sym e) (subst (λ (x : List Keyed). IsKeying [] x rs 0) (sym f) (record {
      keyed = record { kept = λ name t. refl; there = λ name. refl; within = tt; size = refl };
      room = omega arith;
    }))

pub keying_next : (rs : List Record) (i : ℕ) (r : Record) (o : List ℕ) (ks : List Keyed) (key : List ℕ) (t : ℕ) (o2 : List ℕ) (ks2 : List Keyed) → i < length rs → r ≡ get_or rs i r → key ≡ canonical_key r.owner → t ≡ data_type r.rdata →
    o2 ≡ o ++ key → ks2 ≡ ks ++ (record { span = record { start = length o; end = length o + length key }; kind = record { rtype = t; place = i } }) ∷ [] → length o + length key ≤ size_limit → IsKeying o ks rs i → IsKeying o2 ks2 rs (i + 1)
keying_next rs i r o ks key t o2 ks2 h is its typed e f room k =
    let x : Keyed = record { span = record { start = length o; end = length o + length key }; kind = record { rtype = t; place = i } } in
    let n : i ≡ length (take i rs) = sym (length-take-le i rs (omega (arith, h))) in
    let m : IsKeyed o2 ks2 (take i rs ++ r ∷ []) = keyed_more o ks (take i rs) r key x k.keyed its refl refl typed n o2 ks2 e f in
    record {
      keyed = subst (IsKeyed o2 ks2) (ap (λ (y : Record). take i rs ++ y ∷ []) is ∙ sym (take_more rs i r h)) m;
      room = omega (arith, room, ap length e, length-append o key);
    }

pub keyed_all : (o : List ℕ) (ks : List Keyed) (rs : List Record) (i : ℕ) → length rs ≤ i → length rs ≤ size_limit → IsKeying o ks rs i → (size_error rs ≡ None) × IsKeyed o ks rs
keyed_all o ks rs i h l k =
    let w : IsKeyed o ks rs = subst (IsKeyed o ks) (take_all i rs h) k.keyed in
    (small_list rs o l k.room w.size, w)

-- ---- sorted by keys

none_kept : {X : Type 0} (q : X → Bool) (xs : List X) → list_any q xs ≡ false → filter q xs ≡ []
none_kept {X} q [] h = refl
none_kept {X} q (x ∷ xs) h = by_test (q x) (list_any q xs) (filter q xs) (none_kept q xs) h
  where
    by_test : (b c : Bool) (l : List X) → (c ≡ false → l ≡ []) → (b || c) ≡ false → cond b (x ∷ l) l ≡ []
    by_test true c l f e = absurd (cc)
    by_test false c l f e = f e

module _ (o : List ℕ) (ks js : List Keyed) (same : IsPermutation ks js) (stable : IsStableBy (is_lower o) ks js) where
  tie_at : (p : List ℕ) (x : Keyed) → is_at o p x ≡ true → (y : Keyed) → ties (is_lower o) x y ≡ is_at o p y
  tie_at p x h y = ties_same (key_of o x.span) (key_of o y.span) ∙ ap (bytes_eq (key_of o y.span)) ((bytes_decides (key_of o x.span) p).0 h)

  filter_sorted : (p : List ℕ) → filter (is_at o p) js ≡ filter (is_at o p) ks
  filter_sorted p = by_any (list_any (is_at o p) ks) refl
    where
      by_any : (b : Bool) → list_any (is_at o p) ks ≡ b → filter (is_at o p) js ≡ filter (is_at o p) ks
      by_any true e =
          let f = Any-from_list_any (is_at o p) ks e in
          let t = tie_at p f.1 f.4 in
          (λ i. filter (λ (y : Keyed). sym (t y) i) js) ∙ (stable f.1 ∙ (λ i. filter (λ (y : Keyed). t y i) ks))
      by_any false e = none_kept (is_at o p) js (sym (list_any-IsPermutation (is_at o p) ks js same) ∙ e) ∙ sym (none_kept (is_at o p) ks e)

  -- ---- the index

  module _ (rs : List Record) (keyed : IsKeyed o ks rs) (n : Names) (joined : IsJoined o js n.nodes) (octets : n.octets ≡ o) (empty : n.none.places.items ≡ []) where
    joined_own : IsJoined n.octets js n.nodes
    joined_own = subst (λ (x : List ℕ). IsJoined x js n.nodes) (sym octets) joined

    typed_own : (p : List ℕ) → typed_at n.octets p js ≡ typed_at o p ks
    typed_own p = ap (λ (x : List ℕ). typed_at x p js) octets ∙ ap (λ (l : List Keyed). map (λ (k : Keyed). k.kind) l) (filter_sorted p)

    pub knows_names : KnowsNames n rs
    knows_names = record {
      kept = λ name t.
          let p = canonical_key name in
          places_among n.octets n.none p t empty n.nodes joined_own.ordered
          ∙ (ap (places_of t) (joined_own.kept p ∙ typed_own p) ∙ keyed.kept name t);
      there = λ name.
          let p = canonical_key name in
          some_among n.octets n.none p n.nodes
          ∙ (joined_own.there p
          ∙ (ap (λ (x : List ℕ). list_any (begins_keyed x p) js) octets
          ∙ (sym (list_any-IsPermutation (begins_keyed o p) ks js same) ∙ keyed.there name)));
    }

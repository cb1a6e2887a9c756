-- Each NSEC of a sorted chain points to the one after it exactly if no name that must have one is between.
use Rattle.std.proofs.Common.{◌≡◌, ℕ, zero, suc, ◌+◌, ◌≤◌, ◌<◌, Bool, true, false, List, [], ◌∷◌, length, nat_eq, refl, ap, sym, subst, ◌∙◌, arith, inl, inr}
use Rattle.std.specs.Prelude.{◌&&◌, ◌||◌, ◌⊎◌, not, slice_index_or, if◌then◌else◌}
use Rattle.std.specs.Cmp.{both_ways}
use Rattle.std.specs.List.{Contains, list_all, list_any}
use Rattle.std.proofs.lemmas.Bool.{true≢false, and_cases, and_from, and_parts, cases_lt, cases_order, false_from_ne_true, le-ltb, lt-ltb, not-true, not_from_false, or_cases, or_from, or_left, or_parts, or_right}
use Rattle.std.proofs.lemmas.Bool.Decides.{nat_tests}
use Rattle.dns_name.specs.Canonical.{same_name}
use Rattle.dns_base.specs.Records.{data_type}
use Rattle.dns_message.specs.declared.record.Record.{Record}
use Rattle.dns_route.specs.Routes.{ends_name}
use Rattle.dns_zone.specs.Cuts.{delegates, is_cut_off}
use Rattle.dns_zone.specs.Owned.{ZoneState, is_of, is_owned}
use Rattle.dns_denial.specs.Nsecs.{AreSorted, NsecState, is_before, lists}
use Rattle.dns_denial.specs.Validation.{covers, matches}
use Rattle.dns_denial.specs.Chains.{IsChained, IsDeniable, has_type, is_below_cut, is_record_at, is_deniable, must_have}
use Rattle.dns_denial.specs.Checks.{AreLinked, owner_behind}
use Rattle.dns_denial.proofs.NameLaws.{ends_trans, same_back, same_ends, same_itself, same_trans}
use Rattle.dns_denial.proofs.OrderLaws.{before_left, before_right, before_upto, ends_upto, same_upto, upto_both}
use Rattle.dns_denial.proofs.ListLaws.{found}
use Rattle.dns_denial.proofs.SameLaws.{must_as}
use Rattle.dns_denial.proofs.StartLaws.{HasStart, must_apex, within_all}
use Rattle.dns_denial.proofs.PlaceLaws.{same_default}

-- ---- the start

-- a name that must have an NSEC is not before the apex
must_within : (z : ZoneState) → HasStart z → (name : List (List ℕ)) → must_have z name ≡ true → is_before name z.apex ≡ false
must_within z start name h =
    let f = found (is_owned name) z.records (and_parts (list_any (is_owned name) z.records) (not (is_below_cut z name)) h).0 in
    let i : ends_name f.one.owner z.apex ≡ true = within_all z.apex z.records start.within f.one f.there in
    ends_upto name z.apex (ends_trans name f.one.owner z.apex (same_ends name f.one.owner (same_back f.one.owner name f.passes)) i)

-- ---- the order of places

module _ (ns : List NsecState) (sorted : AreSorted ns) where
  in_order : (n m : NsecState) (c : Contains ns n) (d : Contains ns m) → c.0 < d.0 → is_before n.owner m.owner ≡ true
  in_order n m c d l =
      let a : slice_index_or ns c.0 n ≡ n = c.2 in
      let b : slice_index_or ns d.0 n ≡ m = same_default ns d.0 n m d.1 ∙ d.2 in
      ap (λ (x : NsecState). is_before x.owner m.owner) (sym a) ∙ (ap (λ (y : NsecState). is_before (slice_index_or ns c.0 n).owner y.owner) (sym b) ∙ sorted c.0 d.0 n l d.1)

  -- NSECs whose owners are in order are in these places
  places_in_order : (n m : NsecState) (c : Contains ns n) (d : Contains ns m) → is_before n.owner m.owner ≡ true → c.0 < d.0
  places_in_order n m c d h = by_order (cases_order c.0 d.0)
    where
      by_order : (c.0 ≡ d.0) ⊎ ((c.0 < d.0) ⊎ (d.0 < c.0)) → c.0 < d.0
      by_order (inl e) =
          let k : n ≡ m = sym c.2 ∙ (ap (λ (i : ℕ). slice_index_or ns i n) e ∙ (same_default ns d.0 n m d.1 ∙ d.2)) in
          absurd (true≢false (sym h ∙ same_upto n.owner m.owner (ap (λ (x : NsecState). same_name n.owner x.owner) (sym k) ∙ same_itself n.owner)))
      by_order (inr (inl l)) = l
      by_order (inr (inr l)) = absurd (true≢false (sym h ∙ before_upto m.owner n.owner (in_order m n d c l)))

  -- there is one of each owner
  pub one_owner : (n m : NsecState) → Contains ns n → Contains ns m → same_name n.owner m.owner ≡ true → n ≡ m
  one_owner n m c d e = by_order (cases_order c.0 d.0)
    where
      by_order : (c.0 ≡ d.0) ⊎ ((c.0 < d.0) ⊎ (d.0 < c.0)) → n ≡ m
      by_order (inl k) = sym c.2 ∙ (ap (λ (i : ℕ). slice_index_or ns i n) k ∙ (same_default ns d.0 n m d.1 ∙ d.2))
      by_order (inr (inl l)) = absurd (true≢false (sym (in_order n m c d l) ∙ same_upto n.owner m.owner e))
      by_order (inr (inr l)) = absurd (true≢false (sym (in_order m n d c l) ∙ same_upto m.owner n.owner (same_back n.owner m.owner e)))

-- ---- an NSEC and the one after it

module _ (z : ZoneState) (ns : List NsecState) (start : HasStart z) (sorted : AreSorted ns) where
  record More (n : NsecState) (c : Contains ns n) : Type 0 where
    one : NsecState
    there : Contains ns one
    behind : there.0 ≡ c.0 + 1
    same : same_name n.next one.owner ≡ true

  record Last (n : NsecState) (c : Contains ns n) : Type 0 where
    last : c.0 + 1 ≡ length ns
    same : same_name n.next z.apex ≡ true

  abbrev at_place : (k : ℕ) (d : NsecState) → k < length ns → Contains ns (slice_index_or ns k d)
  at_place k d l = (k, l, same_default ns k (slice_index_or ns k d) d l)

  owner_more : (k : ℕ) (d : NsecState) → k + 1 < length ns → owner_behind z.apex ns k d ≡ (slice_index_or ns (k + 1) d).owner
  owner_more k d l = ap (λ (b : Bool). if b then (slice_index_or ns (k + 1) d).owner else z.apex) (lt-ltb (k + 1) (length ns) l)

  owner_last : (k : ℕ) (d : NsecState) → length ns ≤ k + 1 → owner_behind z.apex ns k d ≡ z.apex
  owner_last k d l = ap (λ (b : Bool). if b then (slice_index_or ns (k + 1) d).owner else z.apex) (le-ltb (k + 1) (length ns) l)

  next_of : AreLinked z.apex ns (length ns) → (n : NsecState) (c : Contains ns n) → More n c ⊎ Last n c
  next_of linked n c = by_place (cases_lt (c.0 + 1) (length ns))
    where
      by_place : (c.0 + 1 < length ns) ⊎ (length ns ≤ c.0 + 1) → More n c ⊎ Last n c
      by_place (inl l) = inl (record {
        one = slice_index_or ns (c.0 + 1) n;
        there = at_place (c.0 + 1) n l;
        behind = refl;
        same = ap (λ (x : NsecState). same_name x.next (slice_index_or ns (c.0 + 1) n).owner) (sym c.2) ∙ (ap (same_name (slice_index_or ns c.0 n).next) (sym (owner_more c.0 n l)) ∙ linked c.0 n c.1 c.1);
      })
      by_place (inr l) = inr (record {
        last = omega (arith, l, c.1);
        same = ap (λ (x : NsecState). same_name x.next z.apex) (sym c.2) ∙ (ap (same_name (slice_index_or ns c.0 n).next) (sym (owner_last c.0 n l)) ∙ linked c.0 n c.1 c.1);
      })

  module _ (linked : AreLinked z.apex ns (length ns)) (owed : (n : NsecState) → Contains ns n → must_have z n.owner ≡ true) where
    pub next_must : (n : NsecState) → Contains ns n → must_have z n.next ≡ true
    next_must n c = by_next (next_of linked n c)
      where
        by_next : More n c ⊎ Last n c → must_have z n.next ≡ true
        by_next (inl m) = must_as z m.one.owner n.next (same_back n.next m.one.owner m.same) (owed m.one m.there)
        by_next (inr l) = must_as z z.apex n.next (same_back n.next z.apex l.same) (must_apex z start)

    pub next_later : (n : NsecState) → Contains ns n → (is_before n.owner n.next || same_name n.next z.apex) ≡ true
    next_later n c = by_next (next_of linked n c)
      where
        by_next : More n c ⊎ Last n c → (is_before n.owner n.next || same_name n.next z.apex) ≡ true
        by_next (inl m) = or_left (is_before n.owner n.next) (same_name n.next z.apex) (before_right n.next m.one.owner n.owner m.same ∙ in_order ns sorted n m.one c m.there (omega (arith, m.behind)))
        by_next (inr l) = or_right (is_before n.owner n.next) (same_name n.next z.apex) l.same

    pub none_between : ((name : List (List ℕ)) → must_have z name ≡ true → list_any (matches name) ns ≡ true) → (n : NsecState) → Contains ns n → (name : List (List ℕ)) → must_have z name ≡ true → covers z.apex name n ≡ false
    none_between held n c name must = false_from_ne_true (covers z.apex name n) (λ k.
        let p = and_parts (is_before n.owner name) (is_before name n.next || same_name n.next z.apex) k in
        let f = found (matches name) ns (held name must) in
        let after : c.0 < f.there.0 = places_in_order ns sorted n f.one c f.there (before_right f.one.owner name n.owner f.passes ∙ p.0) in
        by_next f.one f.there f.passes after (or_cases (is_before name n.next) (same_name n.next z.apex) p.1) (next_of linked n c))
      where
        by_next : (m : NsecState) (d : Contains ns m) → same_name m.owner name ≡ true → c.0 < d.0 → (is_before name n.next ≡ true) ⊎ (same_name n.next z.apex ≡ true) → More n c ⊎ Last n c → ⊥
        by_next m d e l (inl h) (inl b) =
            let q : d.0 < b.there.0 = places_in_order ns sorted m b.one d b.there (before_left m.owner name b.one.owner e ∙ (sym (before_right n.next b.one.owner name b.same) ∙ h)) in
            absurd (omega (arith, q, l, b.behind))
        by_next m d e l (inr h) (inl b) =
            true≢false (sym (in_order ns sorted n b.one c b.there (omega (arith, b.behind))) ∙ (before_right b.one.owner z.apex n.owner (same_trans b.one.owner n.next z.apex (same_back n.next b.one.owner b.same) h) ∙ must_within z start n.owner (owed n c)))
        by_next m d e l h (inr b) = absurd (omega (arith, l, d.1, b.last))

  -- ---- a whole chain is linked

  module _ (w : IsChained z ns) where
    link : (n : NsecState) (c : Contains ns n) → (d : NsecState) → same_name n.next (owner_behind z.apex ns c.0 d) ≡ true
    link n c d = by_place (cases_lt (c.0 + 1) (length ns))
      where
        behind : is_before n.owner n.next ≡ true → (m : NsecState) → Contains ns m → same_name m.owner n.next ≡ true → (e : Contains ns m) → c.0 < e.0
        behind h m x s e = places_in_order ns sorted n m c e (before_right m.owner n.next n.owner s ∙ h)

        not_before : (m p : NsecState) (x : Contains ns m) (y : Contains ns p) → x.0 ≤ y.0 → is_before p.owner m.owner ≡ false
        not_before m p x y l = false_from_ne_true (is_before p.owner m.owner) (λ h. absurd (omega (arith, l, places_in_order ns sorted p m y x h)))

        by_later : (m : NsecState) (x : Contains ns m) → x.0 ≡ c.0 + 1 → is_before m.owner n.next ≡ false → same_name n.next z.apex ≡ false → (is_before n.owner n.next ≡ true) ⊎ (same_name n.next z.apex ≡ true) → same_name n.next m.owner ≡ true
        by_later m x q g a (inr h) = absurd (true≢false (sym h ∙ a))
        by_later m x q g a (inl h) =
            let f = found (matches n.next) ns (w.held n.next (w.next n c)) in
            let l : c.0 < f.there.0 = behind h f.one f.there f.passes f.there in
            upto_both n.next m.owner (before_left n.next f.one.owner m.owner (same_back f.one.owner n.next f.passes) ∙ not_before m f.one x f.there (omega (arith, l, q))) g

        by_gap : (m : NsecState) (x : Contains ns m) → x.0 ≡ c.0 + 1 → (is_before n.owner m.owner ≡ false) ⊎ ((is_before m.owner n.next || same_name n.next z.apex) ≡ false) → same_name n.next m.owner ≡ true
        by_gap m x q (inl h) = absurd (true≢false (sym (in_order ns sorted n m c x (omega (arith, q))) ∙ h))
        by_gap m x q (inr h) =
            let p = or_parts (is_before m.owner n.next) (same_name n.next z.apex) h in
            by_later m x q p.0 p.1 (or_cases (is_before n.owner n.next) (same_name n.next z.apex) (w.later n c))

        by_end : c.0 + 1 ≡ length ns → (is_before n.owner n.next ≡ true) ⊎ (same_name n.next z.apex ≡ true) → same_name n.next z.apex ≡ true
        by_end q (inr h) = h
        by_end q (inl h) =
            let f = found (matches n.next) ns (w.held n.next (w.next n c)) in
            let l : c.0 < f.there.0 = behind h f.one f.there f.passes f.there in
            absurd (omega (arith, l, q, f.there.1))

        by_place : (c.0 + 1 < length ns) ⊎ (length ns ≤ c.0 + 1) → same_name n.next (owner_behind z.apex ns c.0 d) ≡ true
        by_place (inl l) =
            let m = slice_index_or ns (c.0 + 1) d in
            let x = at_place (c.0 + 1) d l in
            ap (same_name n.next) (owner_more c.0 d l) ∙ by_gap m x refl (and_cases (is_before n.owner m.owner) (is_before m.owner n.next || same_name n.next z.apex) (w.gap n c m.owner (w.owed m x)))
        by_place (inr l) =
            ap (same_name n.next) (owner_last c.0 d l) ∙ by_end (omega (arith, l, c.1)) (or_cases (is_before n.owner n.next) (same_name n.next z.apex) (w.later n c))

    pub all_linked : AreLinked z.apex ns (length ns)
    all_linked k d l m = link (slice_index_or ns k d) (at_place k d m) d

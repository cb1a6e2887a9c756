-- What a whole chain says of the names of its zone.
use Rattle.std.proofs.Common.{◌≡◌, ℕ, zero, suc, ◌≤◌, ◌<◌, Bool, true, false, List, [], ◌∷◌, length, refl, sym, ◌∙◌, arith, inl, inr}
use Rattle.std.specs.Prelude.{◌&&◌, ◌||◌, ◌⊎◌, not, if◌then◌else◌}
use Rattle.std.specs.Cmp.{both_ways}
use Rattle.std.specs.List.{Contains, list_any}
use Rattle.std.proofs.lemmas.Bool.{true≢false, and_cases, and_from, and_parts, cases_lt, false_from_ne_true, not-true, not_from_false, or_cases, or_left, or_parts, or_right, true_from_ne_false}
use Rattle.dns_name.specs.Canonical.{same_name}
use Rattle.dns_message.specs.declared.record.Record.{Record}
use Rattle.dns_route.specs.Routes.{ends_name}
use Rattle.dns_zone.specs.Cuts.{delegates, is_cut_off}
use Rattle.dns_zone.specs.Owned.{ZoneState, is_of, is_owned}
use Rattle.dns_zone.specs.ZoneReply.{exists}
use Rattle.dns_denial.specs.Nsecs.{NsecState, is_before}
use Rattle.dns_zone_tree.specs.Wildcards.{encloser}
use Rattle.dns_denial.specs.Validation.{covers, matches, shown_encloser}
use Rattle.dns_denial.specs.Chains.{IsChained, is_below_cut, must_have}
use Rattle.dns_denial.specs.Denials.{IsLast}
use Rattle.dns_denial.proofs.ListLaws.{found, present}
use Rattle.dns_denial.proofs.NameLaws.{ends_itself, ends_shorter, ends_tail, ends_trans, ends_whole, ends_within, same_back, same_ends}
use Rattle.dns_denial.proofs.OrderLaws.{before_apart, before_right, before_upto, ends_between}

-- ---- tests of records

module _ (z : ZoneState) where
  -- a name exists if one that owns a record ends with it
  pub owner_exists : (c s : List (List ℕ)) → list_any (is_owned c) z.records ≡ true → ends_name c s ≡ true → exists z s ≡ true
  owner_exists c s h e =
      let f = found (is_owned c) z.records h in
      present (λ (r : Record). ends_name r.owner s) z.records f.one f.there (ends_trans f.one.owner c s (same_ends f.one.owner c f.passes) e)

  -- a name at or below a cut is cut off
  pub cut_by : (name : List (List ℕ)) (r : Record) → Contains z.records r → is_of 2 r ≡ true → ends_name name r.owner ≡ true → same_name r.owner z.apex ≡ false → is_cut_off z name ≡ true
  cut_by name r c t e n =
      present (delegates z name) z.records r c (and_from (is_of 2 r) (ends_name name r.owner && not (same_name r.owner z.apex)) t (and_from (ends_name name r.owner) (not (same_name r.owner z.apex)) e (not_from_false (same_name r.owner z.apex) n)))

  pub record IsCut (name : List (List ℕ)) (r : Record) : Type 0 where
    pub servers : is_of 2 r ≡ true
    pub above : ends_name name r.owner ≡ true
    pub inner : same_name r.owner z.apex ≡ false

  pub cut_of : (name : List (List ℕ)) (r : Record) → delegates z name r ≡ true → IsCut name r
  cut_of name r h =
      let a = and_parts (is_of 2 r) (ends_name name r.owner && not (same_name r.owner z.apex)) h in
      let b = and_parts (ends_name name r.owner) (not (same_name r.owner z.apex)) a.1 in
      record { servers = a.0; above = b.0; inner = not-true (same_name r.owner z.apex) b.1 }

  -- what a name that is not cut off ends with is not cut off
  pub answered_above : (name s : List (List ℕ)) → is_cut_off z name ≡ false → ends_name name s ≡ true → is_cut_off z s ≡ false
  answered_above name s n e = false_from_ne_true (is_cut_off z s) (λ h.
      let f = found (delegates z s) z.records h in
      let c = cut_of s f.one f.passes in
      true≢false (sym (cut_by name f.one f.there c.servers (ends_trans name s f.one.owner e c.above) c.inner) ∙ n))

  -- nor below a cut
  pub not_below : (name : List (List ℕ)) → is_cut_off z name ≡ false → is_below_cut z name ≡ false
  not_below name a = false_from_ne_true (is_below_cut z name) (λ h.
      let f = found (λ (r : Record). delegates z name r && not (same_name r.owner name)) z.records h in
      true≢false (sym (present (delegates z name) z.records f.one f.there (and_parts (delegates z name f.one) (not (same_name f.one.owner name)) f.passes).0) ∙ a))

  -- below a name that a name ends with, which is not cut off, a name that owns a record has one above it that must have an NSEC
  pub record Held (s : List (List ℕ)) : Type 0 where
    pub name : List (List ℕ)
    pub must : must_have z name ≡ true
    pub below : ends_name name s ≡ true

  held_step : (s c : List (List ℕ)) → is_cut_off z s ≡ false → list_any (is_owned c) z.records ≡ true → ends_name c s ≡ true → ((d : List (List ℕ)) → length d < length c → list_any (is_owned d) z.records ≡ true → ends_name d s ≡ true → Held s) →
      (b : Bool) → is_below_cut z c ≡ b → Held s
  held_step s c n o e ih false f = record { name = c; must = and_from (list_any (is_owned c) z.records) (not (is_below_cut z c)) o (not_from_false (is_below_cut z c) f); below = e }
  held_step s c n o e ih true f =
      let d = found (λ (r : Record). delegates z c r && not (same_name r.owner c)) z.records f in
      let p = and_parts (delegates z c d.one) (not (same_name d.one.owner c)) d.passes in
      let k = cut_of c d.one p.0 in
      let shorter : length d.one.owner < length c = ends_shorter c d.one.owner k.above (false_from_ne_true (same_name c d.one.owner) (λ t. true≢false (sym (same_back c d.one.owner t) ∙ not-true (same_name d.one.owner c) p.1))) in
      let own : list_any (is_owned d.one.owner) z.records ≡ true = present (is_owned d.one.owner) z.records d.one d.there (same_itself d.one.owner) in
      by_length d.one k shorter own d.there (cases_le (length s) (length d.one.owner))
    where
      same_itself : (a : List (List ℕ)) → same_name a a ≡ true
      same_itself a = ends_whole a a (ends_itself a) refl

      cases_le : (i j : ℕ) → (i ≤ j) ⊎ (j ≤ i)
      cases_le i j = elim (cases_lt i j) [ inl h ↦ inl (omega arith) | inr h ↦ inr h ]

      by_length : (d : Record) → IsCut c d → length d.owner < length c → list_any (is_owned d.owner) z.records ≡ true → Contains z.records d → (length s ≤ length d.owner) ⊎ (length d.owner ≤ length s) → Held s
      by_length d k l o t (inl h) = ih d.owner l o (ends_within c d.owner s k.above e h)
      by_length d k l o t (inr h) = absurd (true≢false (sym (cut_by s d t k.servers (ends_within c s d.owner e k.above h) k.inner) ∙ n))

  held : (k : ℕ) (s c : List (List ℕ)) → length c ≤ k → is_cut_off z s ≡ false → list_any (is_owned c) z.records ≡ true → ends_name c s ≡ true → Held s
  held zero s c l n o e = held_step s c n o e (λ d h. absurd (omega arith)) (is_below_cut z c) refl
  held (suc k) s c l n o e = held_step s c n o e (λ d h. held k s d (omega arith) n) (is_below_cut z c) refl

  pub held_below : (s : List (List ℕ)) → is_cut_off z s ≡ false → exists z s ≡ true → Held s
  held_below s n h =
      let f = found (λ (r : Record). ends_name r.owner s) z.records h in
      held (length f.one.owner) s f.one.owner (omega arith) n (present (is_owned f.one.owner) z.records f.one f.there (ends_whole f.one.owner f.one.owner (ends_itself f.one.owner) refl)) f.passes

-- ---- the chain

module _ (z : ZoneState) (ns : List NsecState) (w : IsChained z ns) where
  owned_at : (n : NsecState) → Contains ns n → list_any (is_owned n.owner) z.records ≡ true
  owned_at n c = (and_parts (list_any (is_owned n.owner) z.records) (not (is_below_cut z n.owner)) (w.owed n c)).0

  owned_next : (n : NsecState) → Contains ns n → list_any (is_owned n.next) z.records ≡ true
  owned_next n c = (and_parts (list_any (is_owned n.next) z.records) (not (is_below_cut z n.next)) (w.next n c)).0

  -- the last NSEC that is not after a name covers it, or is its own
  pub last_covers : (name : List (List ℕ)) (n : NsecState) → IsLast ns name n → same_name n.owner name ≡ false → covers z.apex name n ≡ true
  last_covers name n l other =
      let f = found (matches n.next) ns (w.held n.next (w.next n l.one)) in
      let first : is_before n.owner name ≡ true = before_apart name n.owner l.upto (false_from_ne_true (same_name name n.owner) (λ t. true≢false (sym (same_back name n.owner t) ∙ other))) in
      let second : same_name n.next z.apex ≡ false → is_before name n.next ≡ true = λ e. true_from_ne_false (is_before name n.next) (λ g.
      let later : is_before n.owner n.next ≡ true = by_later (or_cases (is_before n.owner n.next) (same_name n.next z.apex) (w.later n l.one)) e in
      let not_later : is_before n.owner n.next ≡ false = sym (before_right f.one.owner n.next n.owner f.passes) ∙ l.last f.one f.there (before_right f.one.owner n.next name f.passes ∙ g) in
      true≢false (sym later ∙ not_later)) in
      and_from (is_before n.owner name) (is_before name n.next || same_name n.next z.apex) first (by_end (same_name n.next z.apex) refl second)
    where
      by_later : {P : Type 0} → (P ⊎ (same_name n.next z.apex ≡ true)) → same_name n.next z.apex ≡ false → P
      by_later (inl h) e = h
      by_later (inr h) e = absurd (true≢false (sym h ∙ e))

      by_end : (b : Bool) → same_name n.next z.apex ≡ b → (same_name n.next z.apex ≡ false → is_before name n.next ≡ true) → (is_before name n.next || same_name n.next z.apex) ≡ true
      by_end true e k = or_right (is_before name n.next) (same_name n.next z.apex) e
      by_end false e k = or_left (is_before name n.next) (same_name n.next z.apex) (k e)

  -- of the names that a covered name ends with, those exist that the owner or the next name ends with
  shown_by : (name s : List (List ℕ)) (n : NsecState) → Contains ns n → covers z.apex name n ≡ true → ends_name name s ≡ true → (h : Held z s) → (ends_name n.owner s || ends_name n.next s) ≡ true
  shown_by name s n c k e h =
      let a = and_parts (is_before n.owner name) (is_before name n.next || same_name n.next z.apex) k in
      by_gap (and_cases (is_before n.owner h.name) (is_before h.name n.next || same_name n.next z.apex) (w.gap n c h.name h.must)) a.0 a.1
    where
      by_gap : (is_before n.owner h.name ≡ false) ⊎ ((is_before h.name n.next || same_name n.next z.apex) ≡ false) → is_before n.owner name ≡ true → (is_before name n.next || same_name n.next z.apex) ≡ true → (ends_name n.owner s || ends_name n.next s) ≡ true
      by_gap (inl g) f l = or_left (ends_name n.owner s) (ends_name n.next s) (ends_between h.name name n.owner s h.below e g (before_upto n.owner name f))
      by_gap (inr g) f l =
          let p = or_parts (is_before h.name n.next) (same_name n.next z.apex) g in
          or_right (ends_name n.owner s) (ends_name n.next s) (ends_between name h.name n.next s e h.below (before_upto name n.next (by_last (or_cases (is_before name n.next) (same_name n.next z.apex) l) p.1)) p.0)
        where
          by_last : (is_before name n.next ≡ true) ⊎ (same_name n.next z.apex ≡ true) → same_name n.next z.apex ≡ false → is_before name n.next ≡ true
          by_last (inl x) y = x
          by_last (inr x) y = absurd (true≢false (sym x ∙ y))

  shown_exists : (s : List (List ℕ)) (n : NsecState) → Contains ns n → (ends_name n.owner s ≡ true) ⊎ (ends_name n.next s ≡ true) → exists z s ≡ true
  shown_exists s n c (inl h) = owner_exists z n.owner s (owned_at n c) h
  shown_exists s n c (inr h) = owner_exists z n.next s (owned_next n c) h

  pub shown : (name s : List (List ℕ)) (n : NsecState) → Contains ns n → covers z.apex name n ≡ true → is_cut_off z name ≡ false → ends_name name s ≡ true → (ends_name n.owner s || ends_name n.next s) ≡ exists z s
  shown name s n c k a e = both_ways (ends_name n.owner s || ends_name n.next s) (exists z s)
      (λ h. shown_exists s n c (or_cases (ends_name n.owner s) (ends_name n.next s) h))
      (λ h. shown_by name s n c k e (held_below z s (answered_above z name s a e) h))

  pub same_enclosers : (name : List (List ℕ)) (n : NsecState) → Contains ns n → covers z.apex name n ≡ true → is_cut_off z name ≡ false → (ls : List (List ℕ)) → ends_name name ls ≡ true → shown_encloser n ls ≡ encloser z ls
  same_enclosers name n c k a [] e = refl
  same_enclosers name n c k a (l ∷ ls) e =
      let t = shown name (l ∷ ls) n c k a e in
      let i = same_enclosers name n c k a ls (ends_trans name (l ∷ ls) ls e (ends_tail l ls)) in
      λ j. if t j then l ∷ ls else i j

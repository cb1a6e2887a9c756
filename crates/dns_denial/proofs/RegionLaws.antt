-- What it says of a name's cuts and DNAME records how far the zone's authority reaches down the name.
use Rattle.std.proofs.Common.{◌≡◌, ℕ, ◌+◌, ◌≤◌, Bool, true, false, List, [], ◌∷◌, length, nat_eq, refl, ap, sym, ◌∙◌, arith, inl, inr}
use Rattle.std.specs.Prelude.{◌&&◌, ◌⊎◌, not, if◌then◌else◌}
use Rattle.std.specs.List.{Contains, filter, list_any}
use Rattle.std.proofs.lemmas.Bool.{true≢false, and_from, and_parts, cases_Bool, false_from_ne_true, not-true, not_from_false}
use Rattle.dns_name.specs.Canonical.{same_name}
use Rattle.dns_message.specs.declared.record.Record.{Record}
use Rattle.dns_route.specs.Routes.{ends_name}
use Rattle.dns_zone.specs.Cuts.{delegates, is_cut_off}
use Rattle.dns_zone.specs.Owned.{ZoneState, asked_records, is_asked, is_of, is_owned}
use Rattle.dns_zone_tree.specs.Regions.{Region, Within, BelowCut, BelowDname, asked_region, down, is_cut, region}
use Rattle.dns_zone_tree.specs.Wildcards.{are_some}
use Rattle.dns_denial.specs.Accepted.{servers_owner}
use Rattle.dns_denial.specs.Chains.{is_below_cut}
use Rattle.dns_denial.specs.Denials.{is_under_dname}
use Rattle.dns_denial.proofs.ChainLaws.{IsCut, cut_by, cut_of, not_below}
use Rattle.dns_denial.proofs.ListLaws.{first, found, present, some_any}
use Rattle.dns_denial.proofs.NameLaws.{ends_cons, ends_short, ends_tail, ends_trans, ends_whole, same_back, same_ends, same_length, same_trans}
use Rattle.dns_denial.proofs.SameLaws.{below_as, dname_as}
use Rattle.dns_denial.proofs.StartLaws.{HasStart, within_all}

module _ (z : ZoneState) (start : HasStart z) where
  -- ---- one label further down

  record Open (c : Bool) (name parent : List (List ℕ)) : Type 0 where
    above : region z parent ≡ Within
    dname : are_some (asked_records z parent 39) ≡ false
    cut : (c && is_cut z name) ≡ false

  opened : (c : Bool) (name parent : List (List ℕ)) (r : Region) → region z parent ≡ r → down z c name parent r ≡ Within → Open c name parent
  opened c name parent (BelowCut rs) e h = absurd (cc)
  opened c name parent (BelowDname rs) e h = absurd (cc)
  opened c name parent Within e h = by_tests (are_some (asked_records z parent 39)) refl (c && is_cut z name) refl h
    where
      by_tests : (a : Bool) → are_some (asked_records z parent 39) ≡ a → (b : Bool) → (c && is_cut z name) ≡ b → (if a then BelowDname (asked_records z parent 39) else (if b then BelowCut (asked_records z name 2) else Within)) ≡ Within → Open c name parent
      by_tests true p b q g = absurd (cc)
      by_tests false p true q g = absurd (cc)
      by_tests false p false q g = record { above = e; dname = p; cut = q }

  -- an NS record of a name makes it a cut
  cut_itself : (name : List (List ℕ)) (r : Record) → Contains z.records r → is_of 2 r ≡ true → same_name r.owner name ≡ true → same_name r.owner z.apex ≡ false → is_cut z name ≡ true
  cut_itself name r t s e i =
      and_from (are_some (asked_records z name 2)) (not (same_name name z.apex))
      (some_any (is_asked name 2) z.records ∙ present (is_asked name 2) z.records r t (and_from (is_owned name r) (is_of 2 r) e s))
      (not_from_false (same_name name z.apex) (false_from_ne_true (same_name name z.apex) (λ k. true≢false (sym (same_trans r.owner name z.apex e k) ∙ i))))

  uncut_cons : (l : List ℕ) (ls : List (List ℕ)) → is_cut_off z ls ≡ false → is_cut z (l ∷ ls) ≡ false → is_cut_off z (l ∷ ls) ≡ false
  uncut_cons l ls a n = false_from_ne_true (is_cut_off z (l ∷ ls)) (λ k.
      let d = found (delegates z (l ∷ ls)) z.records k in
      let c = cut_of z (l ∷ ls) d.one d.passes in
      by_end d.one d.there c.servers c.inner (ends_cons l ls d.one.owner c.above))
    where
      by_end : (r : Record) → Contains z.records r → is_of 2 r ≡ true → same_name r.owner z.apex ≡ false → (same_name (l ∷ ls) r.owner ≡ true) ⊎ (ends_name ls r.owner ≡ true) → ⊥
      by_end r t s i (inl e) = true≢false (sym (cut_itself (l ∷ ls) r t s (same_back (l ∷ ls) r.owner e) i) ∙ n)
      by_end r t s i (inr e) = true≢false (sym (cut_by z ls r t s e i) ∙ a)

  first_cons : (l : List ℕ) (ls : List (List ℕ)) → is_cut_off z ls ≡ false → is_below_cut z (l ∷ ls) ≡ false
  first_cons l ls a = false_from_ne_true (is_below_cut z (l ∷ ls)) (λ k.
      let d = found (λ (r : Record). delegates z (l ∷ ls) r && not (same_name r.owner (l ∷ ls))) z.records k in
      let p = and_parts (delegates z (l ∷ ls) d.one) (not (same_name d.one.owner (l ∷ ls))) d.passes in
      let c = cut_of z (l ∷ ls) d.one p.0 in
      by_end d.one d.there c.servers c.inner (not-true (same_name d.one.owner (l ∷ ls)) p.1) (ends_cons l ls d.one.owner c.above))
    where
      by_end : (r : Record) → Contains z.records r → is_of 2 r ≡ true → same_name r.owner z.apex ≡ false → same_name r.owner (l ∷ ls) ≡ false → (same_name (l ∷ ls) r.owner ≡ true) ⊎ (ends_name ls r.owner ≡ true) → ⊥
      by_end r t s i o (inl e) = true≢false (sym (same_back (l ∷ ls) r.owner e) ∙ o)
      by_end r t s i o (inr e) = true≢false (sym (cut_by z ls r t s e i) ∙ a)

  abbrev dname_above : List (List ℕ) → Record → Bool
  dname_above name r = is_of 39 r && (ends_name name r.owner && not (same_name r.owner name))

  dname_cons : (l : List ℕ) (ls : List (List ℕ)) → is_under_dname z ls ≡ false → are_some (asked_records z ls 39) ≡ false → is_under_dname z (l ∷ ls) ≡ false
  dname_cons l ls a n = false_from_ne_true (is_under_dname z (l ∷ ls)) (λ k.
      let d = found (dname_above (l ∷ ls)) z.records k in
      let p = and_parts (is_of 39 d.one) (ends_name (l ∷ ls) d.one.owner && not (same_name d.one.owner (l ∷ ls))) d.passes in
      let q = and_parts (ends_name (l ∷ ls) d.one.owner) (not (same_name d.one.owner (l ∷ ls))) p.1 in
      by_end d.one d.there p.0 (not-true (same_name d.one.owner (l ∷ ls)) q.1) (ends_cons l ls d.one.owner q.0) (cases_Bool (same_name d.one.owner ls)))
    where
      by_end : (r : Record) → Contains z.records r → is_of 39 r ≡ true → same_name r.owner (l ∷ ls) ≡ false → (same_name (l ∷ ls) r.owner ≡ true) ⊎ (ends_name ls r.owner ≡ true) → (same_name r.owner ls ≡ true) ⊎ (same_name r.owner ls ≡ false) → ⊥
      by_end r t s o (inl e) k = true≢false (sym (same_back (l ∷ ls) r.owner e) ∙ o)
      by_end r t s o (inr e) (inl k) = true≢false (sym (some_any (is_asked ls 39) z.records ∙ present (is_asked ls 39) z.records r t (and_from (is_owned ls r) (is_of 39 r) k s)) ∙ n)
      by_end r t s o (inr e) (inr k) = true≢false (sym (present (dname_above ls) z.records r t (and_from (is_of 39 r) (ends_name ls r.owner && not (same_name r.owner ls)) s (and_from (ends_name ls r.owner) (not (same_name r.owner ls)) e (not_from_false (same_name r.owner ls) k)))) ∙ a)

  -- ---- the whole way

  uncut : (name : List (List ℕ)) → region z name ≡ Within → is_cut_off z name ≡ false
  uncut [] h = false_from_ne_true (is_cut_off z []) (λ k.
      let d = found (delegates z []) z.records k in
      let c = cut_of z [] d.one d.passes in
      let i : ends_name d.one.owner z.apex ≡ true = within_all z.apex z.records start.within d.one d.there in
      true≢false (sym (ends_whole d.one.owner z.apex i (omega (arith, ends_short d.one.owner z.apex i, ends_short [] d.one.owner c.above))) ∙ c.inner))
  uncut (l ∷ ls) h = let o = opened true (l ∷ ls) ls (region z ls) refl h in uncut_cons l ls (uncut ls o.above) o.cut

  undname : (name : List (List ℕ)) → region z name ≡ Within → is_under_dname z name ≡ false
  undname [] h = false_from_ne_true (is_under_dname z []) (λ k.
      let d = found (dname_above []) z.records k in
      let p = and_parts (is_of 39 d.one) (ends_name [] d.one.owner && not (same_name d.one.owner [])) d.passes in
      let q = and_parts (ends_name [] d.one.owner) (not (same_name d.one.owner [])) p.1 in
      let e : same_name [] d.one.owner ≡ true = ends_whole [] d.one.owner q.0 (omega (arith, ends_short [] d.one.owner q.0)) in
      true≢false (sym (same_back [] d.one.owner e) ∙ not-true (same_name d.one.owner []) q.1))
  undname (l ∷ ls) h = let o = opened true (l ∷ ls) ls (region z ls) refl h in dname_cons l ls (undname ls o.above) o.dname

  -- a name that is reached is below no DNAME record and below no cut; it is one at most if DS is asked for
  pub record Reached (t : ℕ) (name : List (List ℕ)) : Type 0 where
    pub dname : is_under_dname z name ≡ false
    pub first : is_below_cut z name ≡ false
    pub cut : nat_eq t 43 ≡ false → is_cut_off z name ≡ false

  no_cut : (b c : Bool) → (not b && c) ≡ false → b ≡ false → c ≡ false
  no_cut false c h e = h
  no_cut true c h e = absurd (true≢false e)

  pub reached : (t : ℕ) (name : List (List ℕ)) → asked_region z t name ≡ Within → Reached t name
  reached t [] h = let u = uncut [] refl in record { dname = undname [] refl; first = not_below z [] u; cut = λ e. u }
  reached t (l ∷ ls) h =
      let o = opened (not (nat_eq t 43)) (l ∷ ls) ls (region z ls) refl h in
      let u = uncut ls o.above in
      record {
        dname = dname_cons l ls (undname ls o.above) o.dname;
        first = first_cons l ls u;
        cut = λ e. uncut_cons l ls u (no_cut (nat_eq t 43) (is_cut z (l ∷ ls)) o.cut e);
      }

  -- ---- to a cut

  -- NS records of a cut at or above a name, below no other one
  pub record AtCut (name : List (List ℕ)) (rs : List Record) : Type 0 where
    pub one : Record
    pub there : Contains z.records one
    pub servers : is_of 2 one ≡ true
    pub above : ends_name name one.owner ≡ true
    pub inner : same_name one.owner z.apex ≡ false
    pub first : is_below_cut z one.owner ≡ false
    pub dname : is_under_dname z one.owner ≡ false
    pub owner : servers_owner rs ≡ one.owner
    pub some : rs ≡ [] → ⊥

  nothing : (x : Record) (xs : List Record) → [] ≡ x ∷ xs → ⊥
  nothing x xs e = absurd (cc)

  own_cut : (c : Bool) (l : List ℕ) (ls : List (List ℕ)) (rs : List Record) → region z ls ≡ Within → are_some (asked_records z ls 39) ≡ false → (c && is_cut z (l ∷ ls)) ≡ true → asked_records z (l ∷ ls) 2 ≡ rs → AtCut (l ∷ ls) rs
  own_cut c l ls rs e n h g =
      let p = and_parts (are_some (asked_records z (l ∷ ls) 2)) (not (same_name (l ∷ ls) z.apex)) (and_parts c (is_cut z (l ∷ ls)) h).1 in
      let f = first (is_asked (l ∷ ls) 2) z.records (sym (some_any (is_asked (l ∷ ls) 2) z.records) ∙ p.0) in
      let q = and_parts (is_owned (l ∷ ls) f.one) (is_of 2 f.one) f.passes in
      let k : same_name f.one.owner (l ∷ ls) ≡ true = q.0 in
      record {
        one = f.one;
        there = f.there;
        servers = q.1;
        above = same_ends (l ∷ ls) f.one.owner (same_back f.one.owner (l ∷ ls) k);
        inner = false_from_ne_true (same_name f.one.owner z.apex) (λ i. true≢false (sym (same_trans (l ∷ ls) f.one.owner z.apex (same_back f.one.owner (l ∷ ls) k) i) ∙ not-true (same_name (l ∷ ls) z.apex) p.1));
        first = false_from_ne_true (is_below_cut z f.one.owner) (λ i. true≢false (sym (below_as z f.one.owner (l ∷ ls) k i) ∙ first_cons l ls (uncut ls e)));
        dname = false_from_ne_true (is_under_dname z f.one.owner) (λ i. true≢false (sym (dname_as z f.one.owner (l ∷ ls) k i) ∙ dname_cons l ls (undname ls e) n));
        owner = ap servers_owner (sym g ∙ f.is);
        some = λ i. nothing f.one f.more (sym i ∙ (sym g ∙ f.is));
      }

  cut_down : (c : Bool) (l : List ℕ) (ls : List (List ℕ)) (rs : List Record) (r : Region) → region z ls ≡ r → down z c (l ∷ ls) ls r ≡ BelowCut rs → (region z ls ≡ BelowCut rs → AtCut ls rs) → AtCut (l ∷ ls) rs
  cut_down c l ls rs (BelowCut ss) e h ih =
      let a = ih (e ∙ h) in
      record { one = a.one; there = a.there; servers = a.servers; above = ends_trans (l ∷ ls) ls a.one.owner (ends_tail l ls) a.above; inner = a.inner; first = a.first; dname = a.dname; owner = a.owner; some = a.some }
  cut_down c l ls rs (BelowDname ds) e h ih = absurd (cc)
  cut_down c l ls rs Within e h ih = by_tests (are_some (asked_records z ls 39)) refl (c && is_cut z (l ∷ ls)) refl h
    where
      by_tests : (a : Bool) → are_some (asked_records z ls 39) ≡ a → (b : Bool) → (c && is_cut z (l ∷ ls)) ≡ b → (if a then BelowDname (asked_records z ls 39) else (if b then BelowCut (asked_records z (l ∷ ls) 2) else Within)) ≡ BelowCut rs → AtCut (l ∷ ls) rs
      by_tests true n b q g = absurd (cc)
      by_tests false n false q g = absurd (cc)
      by_tests false n true q g = let k : asked_records z (l ∷ ls) 2 ≡ rs = cc in own_cut c l ls rs e n q k

  cut_region : (name : List (List ℕ)) (rs : List Record) → region z name ≡ BelowCut rs → AtCut name rs
  cut_region [] rs h = absurd (cc)
  cut_region (l ∷ ls) rs h = cut_down true l ls rs (region z ls) refl h (cut_region ls rs)

  pub asked_cut : (t : ℕ) (name : List (List ℕ)) (rs : List Record) → asked_region z t name ≡ BelowCut rs → AtCut name rs
  asked_cut t [] rs h = absurd (cc)
  asked_cut t (l ∷ ls) rs h = cut_down (not (nat_eq t 43)) l ls rs (region z ls) refl h (cut_region ls rs)

  -- if DS is asked for, a name at a cut is below one
  pub asked_below : (name : List (List ℕ)) (rs : List Record) → asked_region z 43 name ≡ BelowCut rs → is_below_cut z name ≡ true
  asked_below [] rs h = absurd (cc)
  asked_below (l ∷ ls) rs h = by_region (region z ls) refl h
    where
      by_dname : (a : Bool) → (if a then BelowDname (asked_records z ls 39) else Within) ≡ BelowCut rs → is_below_cut z (l ∷ ls) ≡ true
      by_dname true g = absurd (cc)
      by_dname false g = absurd (cc)

      by_region : (r : Region) → region z ls ≡ r → down z false (l ∷ ls) ls r ≡ BelowCut rs → is_below_cut z (l ∷ ls) ≡ true
      by_region (BelowDname ds) e g = absurd (cc)
      by_region Within e g = by_dname (are_some (asked_records z ls 39)) g
      by_region (BelowCut ss) e g =
          let a = cut_region ls ss e in
          let up : ends_name (l ∷ ls) a.one.owner ≡ true = ends_trans (l ∷ ls) ls a.one.owner (ends_tail l ls) a.above in
          let o : same_name a.one.owner (l ∷ ls) ≡ false = false_from_ne_true (same_name a.one.owner (l ∷ ls)) (λ k. absurd (omega (arith, same_length a.one.owner (l ∷ ls) k, ends_short ls a.one.owner a.above))) in
          present (λ (r : Record). delegates z (l ∷ ls) r && not (same_name r.owner (l ∷ ls))) z.records a.one a.there
          (and_from (delegates z (l ∷ ls) a.one) (not (same_name a.one.owner (l ∷ ls)))
          (and_from (is_of 2 a.one) (ends_name (l ∷ ls) a.one.owner && not (same_name a.one.owner z.apex)) a.servers (and_from (ends_name (l ∷ ls) a.one.owner) (not (same_name a.one.owner z.apex)) up (not_from_false (same_name a.one.owner z.apex) a.inner)))
          (not_from_false (same_name a.one.owner (l ∷ ls)) o))

-- One step of the way down from the apex to a name, and its end.
use Rattle.std.proofs.Common.{◌≡◌, ℕ, ◌+◌, ◌-◌, ◌≤◌, ◌<◌, Bool, true, false, List, [], ◌∷◌, length, drop, get_or, nat_eq, nat_le, Option, Some, None, refl, ap, sym, subst, ◌∙◌, arith}
use Rattle.std.specs.Prelude.{◌&&◌, not, map, if◌then◌else◌, is_some}
use Rattle.std.specs.List.{AllByRecursion, filter}
use Rattle.std.proofs.lemmas.List.{drop_more, length-drop, nil_from_length}
use Rattle.dns_name.specs.Canonical.{same_name}
use Rattle.dns_message.specs.declared.record.Record.{Record}
use Rattle.dns_route.specs.Routes.{ends_name}
use Rattle.dns_zone.specs.ZoneIndex.{IsInZone}
use Rattle.dns_zone.specs.Owned.{ZoneState, asked_records, is_asked, is_of}
use Rattle.dns_zone.specs.Places.{at_places, places}
use Rattle.dns_zone.specs.ZoneReply.{exists, negative_soa}
use Rattle.dns_zone.proofs.PathLaws.{same_length, second_true}
use Rattle.dns_zone.proofs.PlaceLaws.{at_places_of, places_agree, places_count}
use Rattle.dns_zone_tree.specs.Kinds.{kind_places, places_in}
use Rattle.dns_zone_tree.specs.declared.kinds.Kinds.{Kinds}
use Rattle.dns_zone_tree.specs.Regions.{Region, Within, BelowCut, BelowDname, asked_region, down, is_cut, region}
use Rattle.dns_zone_tree.specs.Walks.{HasNoServers, HasServers, IsNode, ReachesNode, ReachesNone, may_cut}
use Rattle.dns_zone_tree.specs.Wildcards.{are_some}
use Rattle.dns_zone_tree.proofs.DownLaws.{apex_exists, asked_same, asked_stays, down_within, exists_same, false_by, reaches_none, region_apex}

-- ---- lists

some_of : (rs : List Record) → 0 < length rs → are_some rs ≡ true
some_of [] h = absurd (omega (arith, h))
some_of (r ∷ rs) h = refl

none_of : (rs : List Record) → length rs ≡ 0 → rs ≡ []
none_of rs h = nil_from_length rs h

-- the records at the places of a type of a name
asked_at : (z : ZoneState) (name : List (List ℕ)) (t : ℕ) (is : List ℕ) → is ≡ places (is_asked name t) z.records → at_places z.records is ≡ asked_records z name t
asked_at z name t is e = ap (at_places z.records) e ∙ at_places_of (is_asked name t) z.records

as_many : (z : ZoneState) (name : List (List ℕ)) (t : ℕ) (is : List ℕ) → is ≡ places (is_asked name t) z.records → length (asked_records z name t) ≡ length is
as_many z name t is e = sym (places_count (is_asked name t) z.records) ∙ sym (ap length e)

asked_some : (z : ZoneState) (name : List (List ℕ)) (t : ℕ) (is : List ℕ) → is ≡ places (is_asked name t) z.records → 0 < length is → are_some (asked_records z name t) ≡ true
asked_some z name t is e h = some_of (asked_records z name t) (omega (arith, h, as_many z name t is e))

asked_none : (z : ZoneState) (name : List (List ℕ)) (t : ℕ) (is : List ℕ) → is ≡ places (is_asked name t) z.records → length is ≡ 0 → asked_records z name t ≡ []
asked_none z name t is e h = none_of (asked_records z name t) (as_many z name t is e ∙ h)

-- ---- the way

-- down to the name after that many labels, whose records have these places
pub record IsOnWay (z : ZoneState) (name : List (List ℕ)) (left : ℕ) (last : Kinds) : Type 0 where
  pub few : left + length z.apex ≤ length name
  pub region_ : region z (drop left name) ≡ Within
  pub kept : (t : ℕ) → kind_places t last ≡ places (is_asked (drop left name) t) z.records
  pub there : exists z (drop left name) ≡ true

pub way_first : (z : ZoneState) (name : List (List ℕ)) (left : ℕ) (top : Kinds) (negative : Record) → AllByRecursion (IsInZone z.apex) z.records → map negative_soa (filter (is_of 6) z.records) ≡ negative ∷ [] → ends_name name z.apex ≡ true → left + length z.apex ≡ length name →
    ((t : ℕ) → kind_places t top ≡ places (is_asked z.apex t) z.records) → IsOnWay z name left top
way_first z name left top negative within soa ends e d =
    let k : length name - length z.apex ≡ left = omega (arith, e) in
    let same : same_name (drop left name) z.apex ≡ true = ap (λ (i : ℕ). same_name (drop i name) z.apex) (sym k) ∙ second_true (nat_le (length z.apex) (length name)) (same_name (drop (length name - length z.apex) name) z.apex) ends in
    record {
      few = omega (arith, e);
      region_ = region_apex z within (drop left name) same;
      kept = λ t. d t ∙ places_agree (is_asked z.apex t) (is_asked (drop left name) t) (λ r. sym (asked_same z (drop left name) z.apex same t r)) z.records 0;
      there = exists_same z (drop left name) z.apex same (apex_exists z negative within soa);
    }

module _ (z : ZoneState) (within : AllByRecursion (IsInZone z.apex) z.records) (name : List (List ℕ)) (k : ℕ) (last : Kinds) (w : IsOnWay z name (k + 1) last) where
  abbrev label : List ℕ
  label = get_or name k []

  abbrev above : List (List ℕ)
  above = drop (k + 1) name

  next_label : drop k name ≡ label ∷ above
  next_label = drop_more name k [] (omega (arith, w.few))

  -- ---- DNAME records above

  dname_down : 0 < length (kind_places 39 last) → (c : Bool) → down z c (label ∷ above) above (region z above) ≡ BelowDname (asked_records z above 39)
  dname_down h c =
      ap (down z c (label ∷ above) above) w.region_
      ∙ ap (λ (b : Bool). if b then BelowDname (asked_records z above 39) else (if c && is_cut z (label ∷ above) then BelowCut (asked_records z (label ∷ above) 2) else Within)) (asked_some z above 39 (kind_places 39 last) (w.kept 39) h)

  pub way_dname : (t : ℕ) → 0 < length (kind_places 39 last) → (asked_region z t name ≡ BelowDname (at_places z.records (kind_places 39 last))) × (0 < length (kind_places 39 last))
  way_dname t h =
      let a = asked_at z above 39 (kind_places 39 last) (w.kept 39) in
      let r = BelowDname (asked_records z above 39) in (
        asked_stays z label above r (λ c n p. refl) (dname_down h true) t k name next_label (λ _. dname_down h (not (nat_eq t 43))) ∙ ap BelowDname (sym a),
        h,
      )

  module _ (none : kind_places 39 last ≡ []) where
    no_dname : asked_records z above 39 ≡ []
    no_dname = asked_none z above 39 (kind_places 39 last) (w.kept 39) (ap length none)

    -- ---- a name that doesn't exist

    pub way_missing : (t : ℕ) (o : Option Kinds) → IsNode z (drop k name) o → o ≡ None → ReachesNone z t name (k + 1)
    way_missing t o n e =
        let m : exists z (label ∷ above) ≡ false = ap (exists z) (sym next_label) ∙ (sym n.there ∙ ap is_some e) in
        reaches_none z within label above m w.region_ no_dname t k name next_label refl w.there

    -- ---- a name that exists

    module _ (m : Kinds) (o : Option Kinds) (found : IsNode z (drop k name) o) (is : o ≡ Some m) where
      kept : (u : ℕ) → kind_places u m ≡ places (is_asked (label ∷ above) u) z.records
      kept u = ap (λ (x : Option Kinds). places_in u x) (sym is) ∙ (found.kept u ∙ ap (λ (x : List (List ℕ)). places (is_asked x u) z.records) next_label)

      here : exists z (drop k name) ≡ true
      here = sym found.there ∙ ap is_some is

      -- which is longer than the apex
      not_apex : same_name (label ∷ above) z.apex ≡ false
      not_apex = false_by (same_name (label ∷ above) z.apex) (λ e.
          let n : length (label ∷ above) ≡ length z.apex = same_length (label ∷ above) z.apex e in
          omega (arith, n, w.few, length-drop (k + 1) name))

      cut_here : 0 < length (kind_places 2 m) → is_cut z (label ∷ above) ≡ true
      cut_here h = ap (λ (b : Bool). b && not (same_name (label ∷ above) z.apex)) (asked_some z (label ∷ above) 2 (kind_places 2 m) (kept 2) h) ∙ ap not not_apex

      cut_down : 0 < length (kind_places 2 m) → (c : Bool) → c ≡ true → down z c (label ∷ above) above (region z above) ≡ BelowCut (asked_records z (label ∷ above) 2)
      cut_down h c t =
          ap (down z c (label ∷ above) above) w.region_
          ∙ (ap (λ (rs : List Record). if are_some rs then BelowDname rs else (if c && is_cut z (label ∷ above) then BelowCut (asked_records z (label ∷ above) 2) else Within)) no_dname
          ∙ (ap (λ (b : Bool). if b && is_cut z (label ∷ above) then BelowCut (asked_records z (label ∷ above) 2) else Within) t
          ∙ ap (λ (b : Bool). if b then BelowCut (asked_records z (label ∷ above) 2) else Within) (cut_here h)))

      own_may : (t i : ℕ) → i ≡ 0 → may_cut i t ≡ true → not (nat_eq t 43) ≡ true
      own_may t i e h = sym (ap (λ (j : ℕ). not (nat_eq j 0 && nat_eq t 43)) e) ∙ h

      pub way_cut : (t : ℕ) → HasServers k t m → asked_region z t name ≡ BelowCut (at_places z.records (kind_places 2 m))
      way_cut t h =
          asked_stays z label above (BelowCut (asked_records z (label ∷ above) 2)) (λ c n p. refl) (cut_down h.some true refl) t k name next_label (λ e. cut_down h.some (not (nat_eq t 43)) (own_may t k e h.may))
          ∙ ap BelowCut (sym (asked_at z (label ∷ above) 2 (kind_places 2 m) (kept 2)))

      uncut : kind_places 2 m ≡ [] → is_cut z (label ∷ above) ≡ false
      uncut e = ap (λ (rs : List Record). are_some rs && not (same_name (label ∷ above) z.apex)) (asked_none z (label ∷ above) 2 (kind_places 2 m) (kept 2) (ap length e))

      uncut_by : (c : Bool) → (c ≡ true → kind_places 2 m ≡ []) → (c && is_cut z (label ∷ above)) ≡ false
      uncut_by true h = uncut (h refl)
      uncut_by false h = refl

      -- with names below it
      pub way_next : (t : ℕ) → HasNoServers k t m → nat_eq k 0 ≡ false → IsOnWay z name k m
      way_next t h e = record {
        few = omega (arith, w.few);
        region_ = ap (region z) next_label ∙ down_within z within true (label ∷ above) above (region z above) w.region_ no_dname (uncut (h (ap (λ (b : Bool). not (b && nat_eq t 43)) e)));
        kept = λ u. kept u ∙ ap (λ (x : List (List ℕ)). places (is_asked x u) z.records) (sym next_label);
        there = here;
      }

      -- or the name itself
      pub way_node : (t : ℕ) → HasNoServers k t m → k ≡ 0 → ReachesNode z t name m
      way_node t h e =
          let d : drop k name ≡ name = ap (λ (i : ℕ). drop i name) e in
          let n : name ≡ label ∷ above = sym d ∙ next_label in
          record {
            region = ap (asked_region z t) n ∙ down_within z within (not (nat_eq t 43)) (label ∷ above) above (region z above) w.region_ no_dname (uncut_by (not (nat_eq t 43)) (λ c. h (ap (λ (i : ℕ). not (nat_eq i 0 && nat_eq t 43)) e ∙ c)));
            exists_ = ap (exists z) (sym d) ∙ here;
            kept = λ u. kept u ∙ ap (λ (x : List (List ℕ)). places (is_asked x u) z.records) (sym n);
          }

-- ---- the apex

own_within : (z : ZoneState) (c : Bool) (name parent : List (List ℕ)) (r : Region) → down z true name parent r ≡ Within → down z c name parent r ≡ Within
own_within z true name parent r h = h
own_within z false name parent (BelowCut rs) h = absurd (cc)
own_within z false name parent (BelowDname rs) h = absurd (cc)
own_within z false name parent Within h = by_tests (are_some (asked_records z parent 39)) (is_cut z name) h
  where
    by_tests : (a b : Bool) → (if a then BelowDname (asked_records z parent 39) else (if b then BelowCut (asked_records z name 2) else Within)) ≡ Within → (if a then BelowDname (asked_records z parent 39) else Within) ≡ Within
    by_tests true b e = absurd (cc)
    by_tests false b e = refl

asked_of : (z : ZoneState) (t : ℕ) (name : List (List ℕ)) → region z name ≡ Within → asked_region z t name ≡ Within
asked_of z t [] h = refl
asked_of z t (l ∷ ls) h = own_within z (not (nat_eq t 43)) (l ∷ ls) ls (region z ls) h

pub way_apex : (z : ZoneState) (t : ℕ) (name : List (List ℕ)) (left : ℕ) (last : Kinds) → left ≡ 0 → IsOnWay z name left last → ReachesNode z t name last
way_apex z t name left last e w =
    let d : drop left name ≡ name = ap (λ (i : ℕ). drop i name) e in
    record {
      region = asked_of z t name (ap (region z) (sym d) ∙ w.region_);
      exists_ = ap (exists z) (sym d) ∙ w.there;
      kept = λ u. w.kept u ∙ ap (λ (x : List (List ℕ)). places (is_asked x u) z.records) d;
    }

-- before a label is passed
pub onward : (z : ZoneState) (name : List (List ℕ)) (left : ℕ) (last : Kinds) → 0 < left → IsOnWay z name left last → IsOnWay z name (left - 1 + 1) last
onward z name left last h w = subst (λ (n : ℕ). IsOnWay z name n last) (one_less left h) w
  where
    one_less : (n : ℕ) → 0 < n → n ≡ n - 1 + 1
    one_less n h = omega (arith, h)

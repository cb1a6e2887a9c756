-- Names that a walk doesn't reach.
use Rattle.std.proofs.Common.{◌≡◌, ℕ, ◌≤◌, Bool, true, false, List, [], ◌∷◌, length, nat_eq, None, refl, ap, sym, ◌∙◌, arith}
use Rattle.std.specs.Prelude.{◌&&◌, ◌||◌, not, if◌then◌else◌}
use Rattle.std.specs.List.{Contains, list_any}
use Rattle.std.proofs.lemmas.Bool.{true≢false, and_from, and_parts, false_from_ne_true, not-true, not_from_false}
use Rattle.dns_name.specs.Canonical.{same_name}
use Rattle.dns_message.specs.declared.record.Record.{Record}
use Rattle.dns_route.specs.Routes.{ends_name}
use Rattle.dns_zone.specs.Owned.{ZoneState, asked_records, is_asked, is_of, is_owned}
use Rattle.dns_zone.specs.ZoneReply.{exists}
use Rattle.dns_zone_tree.specs.Regions.{BelowCut, BelowDname, Region, Within, asked_region, down, is_cut, region}
use Rattle.dns_zone_tree.specs.TreeErrors.{tree_error}
use Rattle.dns_zone_tree.specs.Walks.{ReachesNode}
use Rattle.dns_zone_tree.specs.Wildcards.{are_some}
use Rattle.dns_zone_tree.specs.declared.kinds.Kinds.{Kinds}
use Rattle.dns_denial.specs.Denials.{is_under_dname}
use Rattle.dns_denial.proofs.ListLaws.{first, found, present, some_any}
use Rattle.dns_denial.proofs.NameLaws.{ends_itself, ends_short, ends_tail, ends_trans, same_back, same_ends, same_length}
use Rattle.dns_denial.proofs.RegionLaws.{asked_below, reached}
use Rattle.dns_denial.proofs.StartLaws.{starts}
use Rattle.dns_hashed_zone.specs.Meetings.{IsStanding}

-- ---- below a DNAME record

module _ (z : ZoneState) where
  dname_of : (name : List (List ℕ)) (r : Record) → Contains z.records r → is_of 39 r ≡ true → ends_name name r.owner ≡ true → same_name r.owner name ≡ false → is_under_dname z name ≡ true
  dname_of name r c d e n = present (λ (s : Record). is_of 39 s && (ends_name name s.owner && not (same_name s.owner name))) z.records r c
      (and_from (is_of 39 r) (ends_name name r.owner && not (same_name r.owner name)) d
      (and_from (ends_name name r.owner) (not (same_name r.owner name)) e (not_from_false (same_name r.owner name) n)))

  longer : (l : List ℕ) (ls : List (List ℕ)) (o : List (List ℕ)) → length o ≤ length ls → same_name o (l ∷ ls) ≡ false
  longer l ls o e = false_from_ne_true (same_name o (l ∷ ls)) (λ k. absurd (omega (arith, e, same_length o (l ∷ ls) k)))

  dname_at : (l : List ℕ) (ls : List (List ℕ)) → are_some (asked_records z ls 39) ≡ true → is_under_dname z (l ∷ ls) ≡ true
  dname_at l ls e =
      let f = first (is_asked ls 39) z.records (sym (some_any (is_asked ls 39) z.records) ∙ e) in
      let q = and_parts (is_owned ls f.one) (is_of 39 f.one) f.passes in
      let s : same_name ls f.one.owner ≡ true = same_back f.one.owner ls q.0 in
      dname_of (l ∷ ls) f.one f.there q.1 (ends_trans (l ∷ ls) ls f.one.owner (ends_tail l ls) (same_ends ls f.one.owner s))
      (longer l ls f.one.owner (omega (arith, same_length f.one.owner ls q.0)))

  dname_up : (l : List ℕ) (ls : List (List ℕ)) → is_under_dname z ls ≡ true → is_under_dname z (l ∷ ls) ≡ true
  dname_up l ls e =
      let f = found (λ (r : Record). is_of 39 r && (ends_name ls r.owner && not (same_name r.owner ls))) z.records e in
      let p = and_parts (is_of 39 f.one) (ends_name ls f.one.owner && not (same_name f.one.owner ls)) f.passes in
      let q = and_parts (ends_name ls f.one.owner) (not (same_name f.one.owner ls)) p.1 in
      dname_of (l ∷ ls) f.one f.there p.0 (ends_trans (l ∷ ls) ls f.one.owner (ends_tail l ls) q.0) (longer l ls f.one.owner (ends_short ls f.one.owner q.0))

  under_down : (c : Bool) (l : List ℕ) (ls : List (List ℕ)) (rs : List Record) (g : Region) → region z ls ≡ g → down z c (l ∷ ls) ls g ≡ BelowDname rs → ((ds : List Record) → region z ls ≡ BelowDname ds → is_under_dname z ls ≡ true) → is_under_dname z (l ∷ ls) ≡ true
  under_down c l ls rs (BelowCut ss) e h ih = absurd (cc)
  under_down c l ls rs (BelowDname ds) e h ih = dname_up l ls (ih ds e)
  under_down c l ls rs Within e h ih = by_tests (are_some (asked_records z ls 39)) refl (c && is_cut z (l ∷ ls)) h
    where
      by_tests : (a : Bool) → are_some (asked_records z ls 39) ≡ a → (b : Bool) → (if a then BelowDname (asked_records z ls 39) else (if b then BelowCut (asked_records z (l ∷ ls) 2) else Within)) ≡ BelowDname rs → is_under_dname z (l ∷ ls) ≡ true
      by_tests true n b g = dname_at l ls n
      by_tests false n true g = absurd (cc)
      by_tests false n false g = absurd (cc)

  under_region : (name : List (List ℕ)) (rs : List Record) → region z name ≡ BelowDname rs → is_under_dname z name ≡ true
  under_region [] rs h = absurd (cc)
  under_region (l ∷ ls) rs h = under_down true l ls rs (region z ls) refl h (under_region ls)

  pub asked_under : (t : ℕ) (name : List (List ℕ)) (rs : List Record) → asked_region z t name ≡ BelowDname rs → is_under_dname z name ≡ true
  asked_under t [] rs h = absurd (cc)
  asked_under t (l ∷ ls) rs h = under_down (not (nat_eq t 43)) l ls rs (region z ls) refl h (under_region ls)

-- ---- what a walk to a name that stands ends at

module _ (z : ZoneState) (tree : tree_error z.apex z.records ≡ None) (name : List (List ℕ)) where
  pub not_cut : IsStanding z name → (rs : List Record) → asked_region z 43 name ≡ BelowCut rs → ⊥
  not_cut s rs e = true≢false (sym (asked_below z (starts z tree) name rs e) ∙ s.uncut)

  pub not_under : IsStanding z name → (rs : List Record) → asked_region z 43 name ≡ BelowDname rs → ⊥
  not_under s rs e = true≢false (sym (asked_under z 43 name rs e) ∙ s.plain)

  pub stands_at : (m : Kinds) → ReachesNode z 43 name m → IsStanding z name
  stands_at m r = let k = reached z (starts z tree) 43 name r.region in record { there = r.exists_; uncut = k.first; plain = k.dname }

-- a record's owner exists
pub owner_there : (z : ZoneState) (r : Record) → Contains z.records r → exists z r.owner ≡ true
owner_there z r c = present (λ (s : Record). ends_name s.owner r.owner) z.records r c (ends_itself r.owner)

-- Whether a name is held, by the NSEC3 that is nearest to its hash.
use Rattle.std.proofs.Common.{◌≡◌, ℕ, suc, ◌+◌, ◌≤◌, ◌<◌, Bool, true, false, List, [], ◌∷◌, length, drop, get_or, refl, ap, sym, subst, ◌∙◌, arith}
use Rattle.std.specs.Prelude.{◌==◌, ◌&&◌, ◌||◌, not}
use Rattle.std.specs.List.{list_any}
use Rattle.std.specs.Str.{bytes_eq}
use Rattle.std.proofs.Math.ListN.{set}
use Rattle.std.proofs.lemmas.Bool.{true≢false, and_parts}
use Rattle.std.proofs.lemmas.Bool.Decides.{nat_tests}
use Rattle.std.proofs.lemmas.List.{drop-drop}
use Rattle.dns_name.specs.Canonical.{same_name}
use Rattle.dns_route.specs.Routes.{ends_name}
use Rattle.dns_zone.specs.Owned.{ZoneState}
use Rattle.dns_denial.specs.Hashes.{AreSorted3}
use Rattle.dns_denial.specs.Nsec3.{Hashing, Nsec3State, closer, hash_of, is_matched, matches3}
use Rattle.dns_denial.proofs.HashOrder.{nearest_matches}
use Rattle.dns_denial.proofs.NameLaws.{ends_whole}
use Rattle.dns_denial.proofs.ProvableLaws.{same_hashes}
use Rattle.dns_hashed_zone.specs.HashedChecks.{is_held, is_spared, lists_types}
use Rattle.dns_hashed_zone.specs.Meetings.{IsAbove, marked}
use Rattle.dns_hashed_zone.specs.Searches.{near_place}
use Rattle.dns_hashed_zone.proofs.DownLaws.{held_matched, held_missing, spared_by}
use Rattle.dns_hashed_zone.proofs.MarkLaws.{all_listed, marked_by}
use Rattle.dns_hashed_zone.proofs.PlaceLaws.{nearest_at}

some_of : (p : Nsec3State → Bool) (ns : List Nsec3State) → list_any p ns ≡ true → 0 < length ns
some_of p [] e = absurd (true≢false (sym e))
some_of p (n ∷ ns) e = omega arith

not_none : (k : ℕ) → (suc k == 0) ≡ false
not_none k = grind (arith, nat_tests)

-- an empty chain has none
pub none_matched : (h : Hashing) (ns : List Nsec3State) (name : List (List ℕ)) (b : Bool) → b ≡ (length ns == 0) → b ≡ true → false ≡ is_matched h ns name
none_matched h [] name b e t = refl
none_matched h (n ∷ ns) name b e t = absurd (true≢false (sym t ∙ (e ∙ not_none (length ns))))

module _ (h : Hashing) (ns : List Nsec3State) where
  -- a chain with an NSEC3 of a name isn't empty
  pub some_matched : (name : List (List ℕ)) → is_matched h ns name ≡ true → 0 < length ns
  some_matched name e = some_of (matches3 h name) ns e

  -- the apex but for case has an NSEC3 if the apex has
  pub top_matched : (apex top : List (List ℕ)) → is_matched h ns apex ≡ true → ends_name top apex ≡ true → length top ≡ length apex → is_matched h ns top ≡ true
  top_matched apex top m e l = ap (λ (o : List ℕ). list_any (λ (n : Nsec3State). bytes_eq n.hash o) ns) (same_hashes h top apex (ends_whole top apex e l)) ∙ m

  -- ---- what is said of the name below

  pub above_true : (name : List (List ℕ)) → is_matched h ns name ≡ true → IsAbove h ns name true
  above_true name m = record { is = sym m; spared = λ e. absurd (true≢false e) }

  pub above_false : (z : ZoneState) (firm : Bool) (name : List (List ℕ)) → is_matched h ns name ≡ false → is_held z h ns firm name ≡ true → IsAbove h ns name false
  above_false z firm name m k = record { is = sym m; spared = λ e. (and_parts (not firm) (is_spared h ns (closer h ns name)) (sym (held_missing h ns z firm name m) ∙ k)).1 }

  pub above_here : (k left : ℕ) (name one : List (List ℕ)) (b : Bool) → left ≡ k + 1 → one ≡ drop k name → IsAbove h ns (drop left name) b → IsAbove h ns (drop 1 one) b
  above_here k left name one b q t a =
      subst (λ (x : List (List ℕ)). IsAbove h ns x b) (ap (λ (i : ℕ). drop i name) q ∙ (sym (drop-drop 1 k name) ∙ sym (ap (λ (x : List (List ℕ)). drop 1 x) t))) a

-- ---- the NSEC3 at the place that is nearest to a name's hash

module _ (z : ZoneState) (h : Hashing) (ns : List Nsec3State) (sorted : AreSorted3 ns) (firm : Bool) (name : List (List ℕ)) (p : ℕ) (near : p ≡ near_place h ns name) (n : Nsec3State) (l : p < length ns) (e : n ≡ get_or ns p n) where
  matches_here : is_matched h ns name ≡ true → matches3 h name n ≡ true
  matches_here m = nearest_matches ns (hash_of h name) n (nearest_at ns (hash_of h name) sorted (omega (arith, l)) n (e ∙ ap (λ (k : ℕ). get_or ns k n) near)) m

  pub held_by : (b : Bool) → is_matched h ns name ≡ true → lists_types z name n ≡ b → is_held z h ns firm name ≡ b
  held_by b m t = held_matched h ns z firm name b m (all_listed z h ns sorted name p n l e (matches_here m) ∙ t)

  pub marked_here : (met : List Bool) → length met ≡ length ns → is_matched h ns name ≡ true → set met p true ≡ marked h name ns met
  marked_here met many m = marked_by h name ns met p n sorted many l e (matches_here m)

  -- if it isn't the name's
  pub spared_here : (above b : Bool) → is_matched h ns name ≡ false → IsAbove h ns (drop 1 name) above → (not firm && (not above || n.opt_out)) ≡ b → is_held z h ns firm name ≡ b
  spared_here above b m a t =
      held_missing h ns z firm name m
      ∙ (ap (λ (c : Bool). not firm && c) (spared_by h ns name above n m a (subst (λ (k : ℕ). k < length ns) near l) (e ∙ ap (λ (k : ℕ). get_or ns k n) near)) ∙ t)

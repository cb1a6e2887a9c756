-- Names and their services in two lists of one length, and the places that know them.
use Rattle.std.proofs.Common.{◌≡◌, ℕ, zero, suc, ◌+◌, ◌-◌, ◌≤◌, ◌<◌, List, [], ◌∷◌, ◌++◌, length, drop, Option, Some, None, MatchOption, Bor, get_or, refl, ap, sym, subst, ◌∙◌, arith, length-append, length-drop}
use Rattle.std.specs.Prelude.{option_map, max, if◌then◌else◌, IfSome}
use Rattle.std.specs.HashMap.{HashMap}
use Rattle.std.specs.List.{HoldsAt, slice_get, zip}
use Rattle.std.specs.Option.{option_copied}
use Rattle.std.proofs.lemmas.Option.{slice_get_past, slice_get_read}
use Rattle.std.specs.Str.{bytes_eq}
use Rattle.smallvec.specs.SmallVec.{SmallVec}
use Rattle.std.proofs.Math.Nat.{max-le, le-max_left, le-max_right}
use Rattle.dns_name.specs.Labels.{AreLabels}
use Rattle.dns_routes.specs.Places.{AreRoutes, Knows, last_under, name_key, place_under, route_at}
use Rattle.dns_routes.specs.Routes.{Route, most_labels}
use Rattle.dns_routes.proofs.KeyLaws.{known_more}
use Rattle.dns_routes.proofs.RouteLaws.{AllUnder, IsTail, ends_le}

-- ---- pairs

zip_more : {K X : Type 0} (ks : List K) (xs : List X) (k : K) (x : X) → length xs ≡ length ks → zip (ks ++ k ∷ []) (xs ++ x ∷ []) ≡ zip ks xs ++ (k, x) ∷ []
zip_more [] [] k x h = refl
zip_more [] (y ∷ xs) k x h = absurd (omega arith)
zip_more (l ∷ ks) [] k x h = absurd (omega arith)
zip_more (l ∷ ks) (y ∷ xs) k x h = ap (λ zs. (l, y) ∷ zs) (zip_more ks xs k x (omega (arith, h)))

pub zip_grown : {K X : Type 0} (ks : List K) (xs : List X) (keys : List K) (items : List X) (p : K × X) → keys ≡ ks ++ p.0 ∷ [] → items ≡ xs ++ p.1 ∷ [] → length xs ≡ length ks → zip keys items ≡ zip ks xs ++ p ∷ []
zip_grown ks xs keys items p e f h = ap (λ l. zip l items) e ∙ (ap (zip (ks ++ p.0 ∷ [])) f ∙ zip_more ks xs p.0 p.1 h)

zip_length : {K X : Type 0} (ks : List K) (xs : List X) → length xs ≡ length ks → length (zip ks xs) ≡ length xs
zip_length [] [] h = refl
zip_length [] (y ∷ xs) h = absurd (omega arith)
zip_length (l ∷ ks) [] h = absurd (omega arith)
zip_length (l ∷ ks) (y ∷ xs) h = omega (arith, zip_length ks xs (omega (arith, h)))

zip_at : {K X : Type 0} (ks : List K) (xs : List X) (i : ℕ) → length xs ≡ length ks → option_map (λ (p : K × X). p.1) (slice_get (zip ks xs) i) ≡ slice_get xs i
zip_at [] [] i h = refl
zip_at [] (y ∷ xs) i h = absurd (omega arith)
zip_at (l ∷ ks) [] i h = absurd (omega arith)
zip_at (l ∷ ks) (y ∷ xs) zero h = refl
zip_at (l ∷ ks) (y ∷ xs) (suc i) h = zip_at ks xs i (omega (arith, h))

-- what a slice's `get` gives
pub copied_at : {X : Type 0} (r : Option (Bor X)) (xs : List X) (i : ℕ) → MatchOption r (length xs ≤ i) (λ x. (i < length xs) × HoldsAt (λ y. x.now ≡ y) xs i) → IfSome r (λ x. x.now ≡ get_or xs i x.now) → option_copied r ≡ slice_get xs i
copied_at None xs i m h = sym (slice_get_past xs i m)
copied_at (Some x) xs i m h = sym (slice_get_read xs (length xs) i x.now refl m.0 h)

-- ---- labels

more_within : {S : Type 0} (rs : List (Route S)) (r : Route S) (n : ℕ) → most_labels rs ≤ n → most_labels (rs ++ r ∷ []) ≤ max n (length r.0)
more_within [] r n h = max-le (le-max_right n (length r.0)) (omega arith)
more_within (x ∷ rs) r n h =
    let a = le-max_left (length x.0) (most_labels rs) in
    let b = le-max_right (length x.0) (most_labels rs) in
    let c = le-max_left n (length r.0) in
    let d : length x.0 ≤ max n (length r.0) = omega (arith, h) in
    max-le d (more_within rs r n (omega (arith, h)))

-- a name without first labels
pub tail_behind : (q s : List (List ℕ)) (k : ℕ) → s ≡ drop k q → k ≤ length q → IsTail q s
tail_behind q s k e h =
    let n : length s ≡ length q - k = ap length e ∙ length-drop k q in
    let m : k ≡ length q - length s = omega (arith, n, h) in
    record { short = omega (arith, n); tail = e ∙ ap (λ n. drop n q) m }

under_from : {S : Type 0} (q : List (List ℕ)) (k m : ℕ) (rs : List (Route S)) → most_labels rs ≤ m → k ≤ length q - m → AllUnder (length q - k + 1) q rs
under_from q k m [] h i = tt
under_from q k m (r ∷ rs) h i =
    let a = le-max_left (length r.0) (most_labels rs) in
    let b = le-max_right (length r.0) (most_labels rs) in
    (λ e. omega (arith, ends_le q r.0 e, a, h, i), under_from q k m rs (omega (arith, b, h)) i)

-- no name has more labels than are left of a question's
pub under_behind : {S : Type 0} (q s : List (List ℕ)) (k : ℕ) (rs : List (Route S)) → s ≡ drop k q → k ≤ length q - most_labels rs → AllUnder (length s + 1) q rs
under_behind q s k rs e h =
    let n : length s ≡ length q - k = ap length e ∙ length-drop k q in
    let a : AllUnder (length q - k + 1) q rs = under_from q k (most_labels rs) rs (omega arith) h in
    subst (λ n. AllUnder (n + 1) q rs) (sym n) a

dropped : (k : ℕ) (q : List (List ℕ)) → AreLabels q → AreLabels (drop k q)
dropped zero q h = h
dropped (suc k) [] h = tt
dropped (suc k) (l ∷ q) h = dropped k q h.2

pub labels_behind : (q s : List (List ℕ)) (k : ℕ) → s ≡ drop k q → AreLabels q → AreLabels s
labels_behind q s k e h = subst AreLabels (sym e) (dropped k q h)

-- ---- places

module _ {S H : Type 0} (ns : List (List (List ℕ))) (ss : List S) where
  -- names and services with one more
  module _ (names : List (List (List ℕ))) (services : List S) (r : Route S) (e : names ≡ ns ++ r.0 ∷ []) (f : services ≡ ss ++ r.1 ∷ []) where
    pub known_grown : (m n : HashMap (SmallVec ℕ) ℕ H) (k : List ℕ) (place : ℕ) → length ss ≡ length ns → Knows m (zip ns ss) → k ≡ name_key r.0 → place ≡ length ss →
        ((o : List ℕ) → place_under n o ≡ (if bytes_eq k o then Some place else place_under m o)) → Knows n (zip names services)
    known_grown m n k place p h i l put =
        subst (λ (rs : List (Route S)). Knows n rs) (sym (zip_grown ns ss names services r e f p)) (known_more (zip ns ss) r m n k place h i (l ∙ sym (zip_length ns ss p)) put)

    pub routes_grown : (m n : HashMap (SmallVec ℕ) ℕ H) (most more : ℕ) → AreRoutes ns ss m most → Knows n (zip names services) → more ≡ max most (length r.0) → AreRoutes names services n more
    routes_grown m n most more a k g =
        let w = more_within (zip ns ss) r most a.within in
        record {
          paired = omega (arith, a.paired, ap length e, ap length f, length-append ns (r.0 ∷ []), length-append ss (r.1 ∷ []));
          known = k;
          within = subst (λ (rs : List (Route S)). most_labels rs ≤ more) (sym (zip_grown ns ss names services r e f a.paired)) (omega (arith, w, g));
        }

  -- the service at the place under octets
  pub service_under : (m : HashMap (SmallVec ℕ) ℕ H) (o : List ℕ) (p : Option ℕ) → length ss ≡ length ns → Knows m (zip ns ss) → place_under m o ≡ p → option_map (λ (r : Route S). r.1) (route_at (zip ns ss) p) ≡ option_map (λ (r : Route S). r.1) (last_under o (zip ns ss))
  service_under m o p l h e = ap (option_map (λ (r : Route S). r.1)) (ap (route_at (zip ns ss)) (sym e) ∙ h.last o)

  pub service_at : (m : HashMap (SmallVec ℕ) ℕ H) (o : List ℕ) (i : ℕ) → length ss ≡ length ns → Knows m (zip ns ss) → place_under m o ≡ Some i → slice_get ss i ≡ option_map (λ (r : Route S). r.1) (last_under o (zip ns ss))
  service_at m o i l h e = sym (zip_at ns ss i l) ∙ service_under m o (Some i) l h e

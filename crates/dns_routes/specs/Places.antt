-- How a router finds a name: by the octets of the name in lower case (RFC 1035, section 3.1; RFC 4343, section 3).
use Rattle.std.specs.Prelude.{ℕ, ◌≡◌, ◌<◌, ◌≤◌, List, length, Option, Some, None, IfSome}
use Rattle.std.specs.List.{filter, last_or, slice_get, zip}
use Rattle.std.specs.Str.{bytes_eq}
use Rattle.std.specs.HashMap.{HashMap, get_by}
use Rattle.smallvec.specs.SmallVec.{SmallVec}
use Rattle.dns_name.specs.Labels.{folded, spell}
use Rattle.dns_routes.specs.Routes.{Route, most_labels}

-- the octets by which a name is found
abbrev pub name_key : List (List ℕ) → List ℕ
name_key ls = spell (folded ls)

-- the place that is kept under octets
abbrev pub place_under : {H : Type 0} → HashMap (SmallVec ℕ) ℕ H → List ℕ → Option ℕ
place_under m o = get_by (λ (k : SmallVec ℕ). bytes_eq o k.items) m

-- the route at a place, if there is one
abbrev pub route_at : {S : Type 0} → List (Route S) → Option ℕ → Option (Route S)
route_at rs None = None
route_at rs (Some i) = slice_get rs i

-- the route that was added last of those whose names have these octets
abbrev pub last_under : {S : Type 0} → List ℕ → List (Route S) → Option (Route S)
last_under {S} o rs = last_or None (filter (λ (r : Route S). bytes_eq o (name_key r.0)) rs)

-- under all octets the place of the last route is kept whose name has them
pub record Knows {S H : Type 0} (m : HashMap (SmallVec ℕ) ℕ H) (rs : List (Route S)) : Type 0 where
  pub last : (o : List ℕ) → route_at rs (place_under m o) ≡ last_under o rs
  pub within : (o : List ℕ) → IfSome (place_under m o) (λ i. i < length rs)

-- names and their services, places that know them, and a number of labels that none of the names passes
pub record AreRoutes {S H : Type 0} (names : List (List (List ℕ))) (services : List S) (places : HashMap (SmallVec ℕ) ℕ H)
    (most : ℕ) : Type 0 where
  pub paired : length services ≡ length names
  pub known : Knows places (zip names services)
  pub within : most_labels (zip names services) ≤ most

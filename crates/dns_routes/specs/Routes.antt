-- The value that is chosen for a name, of values that were added under names: names are compared up to ASCII case (RFC 4343,
-- section 3), by whole labels from the root (RFC 1034, section 3.1).
use Rattle.std.specs.Prelude.{ℕ, ◌-◌, ◌&&◌, Bool, List, [], ◌∷◌, length, drop, max, nat_eq, nat_le, Option, Some, None, option_map}
use Rattle.std.specs.List.{filter, last_or}
use Rattle.dns_name.specs.Canonical.{same_name}

-- a name that was added, and its service
abbrev pub Route : Type 0 → Type 0
Route S = List (List ℕ) × S

-- whether a name ends a question's, up to ASCII case
abbrev pub ends_name : List (List ℕ) → List (List ℕ) → Bool
ends_name q name = nat_le (length name) (length q) && same_name (drop (length q - length name) q) name

-- the routes whose names end a question's, in the order in which they were added
abbrev pub matching : {S : Type 0} → List (List ℕ) → List (Route S) → List (Route S)
matching {S} q rs = filter (λ (r : Route S). ends_name q r.0) rs

-- the most labels that a name of them has
abbrev pub most_labels : {S : Type 0} → List (Route S) → ℕ
most_labels [] = 0
most_labels (r ∷ rs) = max (length r.0) (most_labels rs)

-- the routes whose names have this number of labels
abbrev pub of_labels : {S : Type 0} → ℕ → List (Route S) → List (Route S)
of_labels {S} n rs = filter (λ (r : Route S). nat_eq (length r.0) n) rs

-- of the routes whose names end the question's and have the most labels, the one that was added last
abbrev pub chosen_route : {S : Type 0} → List (List ℕ) → List (Route S) → Option (Route S)
chosen_route q rs = last_or None (of_labels (most_labels (matching q rs)) (matching q rs))

-- the service of the route that is chosen for a name
abbrev pub chosen : {S : Type 0} → List (List ℕ) → List (Route S) → Option S
chosen {S} q rs = option_map (λ (r : Route S). r.1) (chosen_route q rs)

-- The NSEC3s of names, by their places in the order of hashes.
use Rattle.std.specs.Prelude.{ℕ, ◌≡◌, ◌-◌, Bool, true, false, ◌||◌, List, [], ◌∷◌, length, nat_eq, if◌then◌else◌}
use Rattle.std.specs.List.{count_by}
use Rattle.dns_denial.specs.Hashes.{is_up_to3}
use Rattle.dns_denial.specs.Nsec3.{Hashing, Nsec3State, closer, hash_of, is_matched, provable}
use Rattle.dns_hashed_zone.specs.declared.search.HashedName.{HashedName}
use Rattle.dns_hashed_zone.specs.declared.search.HashedName.TheVariants.{Own, Missing}

-- the place of the NSEC3 that matches or covers a hash: of the last that is not above it, or where all are, of the highest
abbrev pub place_by : ℕ → ℕ → ℕ
place_by count n = if nat_eq count 0 then n - 1 else count - 1

abbrev pub nearest_place : List Nsec3State → List ℕ → ℕ
nearest_place ns o = place_by (count_by (is_up_to3 o) ns) (length ns)

abbrev pub near_place : Hashing → List Nsec3State → List (List ℕ) → ℕ
near_place h ns name = nearest_place ns (hash_of h name)

-- a name has an NSEC3, or one above it
abbrev pub any_matched : Hashing → List Nsec3State → List (List ℕ) → Bool
any_matched h ns [] = is_matched h ns []
any_matched h ns (l ∷ ls) = is_matched h ns (l ∷ ls) || any_matched h ns ls

-- a name that has one, or those of the closest provable encloser and of the next closer name (RFC 5155, section 7.2.1)
abbrev pub IsFound : Hashing → List Nsec3State → List (List ℕ) → HashedName → Type 0
IsFound h ns name (Own place) = (is_matched h ns name ≡ true) × (place ≡ near_place h ns name)
IsFound h ns name (Missing encloser next above) = (is_matched h ns name ≡ false) × (above ≡ provable h ns name)
    × (encloser ≡ near_place h ns (provable h ns name)) × (next ≡ near_place h ns (closer h ns name))

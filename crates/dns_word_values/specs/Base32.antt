-- base32hex without padding (RFC 4648, section 7), in whole groups: eight digits are five octets.
use Rattle.std.specs.Prelude.{ℕ, zero, suc, ◌+◌, ◌-◌, ◌*◌, ◌/◌, ◌%◌, Bool, ◌&&◌, ◌||◌, List, [], ◌∷◌, ◌++◌, length, slice_index, nat_eq, if◌then◌else◌, Option, Some, None}
use Rattle.std.specs.Int.{is_in_range}
use Rattle.std.specs.List.{list_all}

-- 0 to 9 and A to V, in either case
abbrev pub is_base32_digit : ℕ → Bool
is_base32_digit c = is_in_range 48 57 c || (is_in_range 65 86 c || is_in_range 97 118 c)

abbrev pub base32_value : ℕ → ℕ
base32_value c =
    if is_in_range 48 57 c then c - 48
    else if is_in_range 65 86 c then c - 55
    else if is_in_range 97 118 c then c - 87
    else 0

-- the bits of eight digits, five each
abbrev pub five_octets : ℕ → ℕ → ℕ → ℕ → ℕ → ℕ → ℕ → ℕ → List ℕ
five_octets a b c d e f g h =
    (8 * a + b / 4) ∷ (64 * (b % 4) + 2 * c + d / 16) ∷ (16 * (d % 16) + e / 2) ∷ (128 * (e % 2) + 4 * f + g / 8) ∷ (32 * (g % 8) + h) ∷ []

abbrev pub value_at : List ℕ → ℕ → ℕ
value_at w at = base32_value (slice_index w at)

-- the group that begins at a place
unfoldable pub base32_group : List ℕ → ℕ → List ℕ
base32_group w at =
    five_octets (value_at w at) (value_at w (at + 1)) (value_at w (at + 2)) (value_at w (at + 3)) (value_at w (at + 4))
    (value_at w (at + 5)) (value_at w (at + 6)) (value_at w (at + 7))

-- that many groups
abbrev pub base32_groups : List ℕ → ℕ → List ℕ
base32_groups w zero = []
base32_groups w (suc n) = base32_groups w n ++ base32_group w (8 * n)

abbrev pub base32_octets : List ℕ → Option (List ℕ)
base32_octets w = if nat_eq (length w % 8) 0 && list_all is_base32_digit w then Some (base32_groups w (length w / 8)) else None

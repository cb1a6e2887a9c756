-- Sets of types as bitmaps (RFC 4034, section 4.1.2): windows of 256 types, those without a type left out.
use Rattle.std.specs.Prelude.{ℕ, zero, suc, ◌+◌, ◌*◌, ◌/◌, ◌%◌, List, [], ◌∷◌, ◌++◌, nat_eq, nat_lt, if◌then◌else◌}
use Rattle.std.specs.List.{list_any}

abbrev pub type_bit : List ℕ → ℕ → ℕ
type_bit types t = if list_any (λ u. nat_eq u t) types then 1 else 0

-- eight types from this one on, of which the first is the highest bit
abbrev pub eight_bits : List ℕ → ℕ → ℕ
eight_bits types t =
    128 * type_bit types t + 64 * type_bit types (t + 1) + 32 * type_bit types (t + 2) + 16 * type_bit types (t + 3) + 8
    * type_bit types (t + 4) + 4 * type_bit types (t + 5) + 2 * type_bit types (t + 6) + type_bit types (t + 7)

-- that many octets, from this type on
abbrev pub bits_from : List ℕ → ℕ → ℕ → List ℕ
bits_from types t zero = []
bits_from types t (suc n) = bits_from types t n ++ eight_bits types (t + 8 * n) ∷ []

-- how many octets of a window reach a type; none, if it is of another window
abbrev pub octets_to : ℕ → ℕ → ℕ
octets_to window t = if nat_eq (t / 256) window then t % 256 / 8 + 1 else 0

abbrev pub larger : ℕ → ℕ → ℕ
larger m n = if nat_lt m n then n else m

-- the octets up to the last type of a window, if that many are said already
abbrev pub size_after : ℕ → ℕ → List ℕ → ℕ
size_after window size [] = size
size_after window size (t ∷ types) = size_after window (larger size (octets_to window t)) types

-- the number of a window, its length, and its octets except for zeros at its end
abbrev pub window_of_size : List ℕ → ℕ → ℕ → List ℕ
window_of_size types window size = if nat_eq size 0 then [] else window ∷ size ∷ bits_from types (256 * window) size

abbrev pub window_octets : List ℕ → ℕ → List ℕ
window_octets types window = window_of_size types window (size_after window 0 types)

-- that many windows
unfoldable pub windows_to : List ℕ → ℕ → List ℕ
windows_to types zero = []
windows_to types (suc n) = windows_to types n ++ window_octets types n

unfoldable pub type_set : List ℕ → List ℕ
type_set types = windows_to types 256

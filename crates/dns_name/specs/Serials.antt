-- Serial numbers of 32 bits (RFC 1982).
use Rattle.std.specs.Prelude.{ℕ, ◌+◌, ◌-◌, ◌%◌, List, [], ◌∷◌, Option, Some, None, nat_eq, nat_lt, if◌then◌else◌}
use Rattle.std.specs.declared.cmp.Ordering.{Ordering}
use Rattle.std.specs.declared.cmp.Ordering.TheVariants.{Less, Equal, Greater}
use Rattle.dns_name.specs.Place.{be32}

-- the serial that four octets are in network order
abbrev pub serial_of : List ℕ → ℕ
serial_of (a ∷ b ∷ c ∷ d ∷ []) = be32 a b c d
serial_of _ = 0

-- a serial by how far it lies after another: greater up to 2^31 - 1, neither at 2^31 (RFC 1982, section 3.2)
abbrev pub by_distance : ℕ → Option Ordering
by_distance d = if nat_eq d 0 then Some Equal
    else (if nat_lt d 2147483648 then Some Greater else (if nat_eq d 2147483648 then None else Some Less))

abbrev pub serial_cmp : ℕ → ℕ → Option Ordering
serial_cmp a b = by_distance ((a + (4294967296 - b)) % 4294967296)

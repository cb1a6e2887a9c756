-- An order, as it is said to a program.
use Rattle.std.specs.Prelude.{ℕ, List, [], ◌∷◌, Option, Some, None, take, length, nat_eq, ◌-◌, if◌then◌else◌}
use Rattle.std.specs.List.{ends_with}
use Rattle.std.specs.Io.BufRead.{take_through}

-- a line except for its line feed; what has none is no line
abbrev pub ended_line : List ℕ → Option (List ℕ)
ended_line line = if ends_with nat_eq line (10 ∷ []) then Some (take (length line - 1) line) else None

-- the order that is said: the octets before the first line feed, which is among the first 16 octets
abbrev pub order_in : List ℕ → Option (List ℕ)
order_in said = ended_line (take_through 10 (take 16 said))

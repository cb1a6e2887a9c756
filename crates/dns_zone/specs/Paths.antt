-- How a zone finds a name: by the octets of the name (RFC 1035, section 3.1) from their end, in lower case (RFC 4343, section 3).
-- So the octets of a name begin with those of each name that it ends with.
use Rattle.std.specs.Prelude.{ℕ, List, [], ◌∷◌, ◌++◌, length, reverse}
use Rattle.dns_name.specs.Labels.{folded}

-- each label before its length
abbrev pub marked : List (List ℕ) → List ℕ
marked [] = []
marked (l ∷ ls) = l ++ (length l ∷ marked ls)

unfoldable pub name_path : List (List ℕ) → List ℕ
name_path ls = reverse (marked (folded ls))

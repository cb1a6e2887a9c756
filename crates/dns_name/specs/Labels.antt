-- The labels of a name, from the first to the last and without the root's, and how they are written (RFC 1035, section 3.1).
use Rattle.std.specs.Prelude.{ℕ, ◌≡◌, ◌+◌, ◌-◌, ◌≤◌, ◌<◌, List, [], ◌∷◌, ◌++◌, length, drop, map, Option, Some, None}
use Rattle.std.specs.Char.{to_ascii_lowercase}

-- a name as octets: each label after its length, and the root
abbrev pub spell : List (List ℕ) → List ℕ
spell [] = 0 ∷ []
spell (l ∷ ls) = length l ∷ (l ++ spell ls)

-- labels of 1 to 63 octets (RFC 1035, section 2.3.4)
abbrev pub AreLabels : List (List ℕ) → Type 0
AreLabels [] = Unit {0}
AreLabels (l ∷ ls) = (0 < length l) × (length l < 64) × AreLabels ls

-- labels that end a name whose labels before them have taken that many octets, lengths included
pub record FitBehind (size : ℕ) (ls : List (List ℕ)) : Type 0 where
  pub labels : AreLabels ls
  pub room : size + length (spell ls) ≤ 255

-- the labels of a name: at most 255 octets as it is written (RFC 1035, section 2.3.4)
abbrev pub IsName : List (List ℕ) → Type 0
IsName ls = FitBehind 0 ls

-- labels with ASCII letters in lower case (RFC 4343, section 3)
abbrev pub folded : List (List ℕ) → List (List ℕ)
folded ls = map (map to_ascii_lowercase) ls

-- the name after the first label; the root has none
abbrev pub parent_of : List (List ℕ) → Option (List (List ℕ))
parent_of [] = None
parent_of (l ∷ ls) = Some ls

-- the last labels are the others, up to ASCII case
pub record EndsWith (ls others : List (List ℕ)) : Type 0 where
  pub enough : length others ≤ length ls
  pub last : folded (drop (length ls - length others) ls) ≡ folded others

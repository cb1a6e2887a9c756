-- The texts of options over octets (RFC 5001, section 2.4, for the name server identifier).
use Rattle.std.specs.Prelude.{ℕ, ◌/◌, ◌%◌, true, List, [], ◌∷◌, ◌++◌, flat_map, if◌then◌else◌}
use Rattle.std.specs.Fmt.{digits}
use Rattle.std.specs.Str.{is_utf8}

-- a number in upper-case hexadecimal, without leading zeros
abbrev pub hex : ℕ → List ℕ
hex n = digits 16 true n

-- octets, each with a space after it
abbrev pub spaced_text : List ℕ → List ℕ
spaced_text d = flat_map (λ x. hex x ++ 32 ∷ []) d

-- the octets as text in brackets, if they are text
abbrev pub bracketed : List ℕ → List ℕ
bracketed d = if is_utf8 d then 40 ∷ (d ++ 41 ∷ []) else []

-- octets and then the text that they are
abbrev pub octets_text : List ℕ → List ℕ
octets_text d = spaced_text d ++ bracketed d

-- octets, two digits each
abbrev pub plain_text : List ℕ → List ℕ
plain_text d = flat_map (λ x. hex (x / 16) ++ hex (x % 16)) d

-- numbers, each after a comma and a space
abbrev pub more_numbers_text : List ℕ → List ℕ
more_numbers_text ns = flat_map (λ n. 44 ∷ 32 ∷ hex n) ns

-- numbers joined by a comma and a space
abbrev pub numbers_text : List ℕ → List ℕ
numbers_text [] = []
numbers_text (n ∷ ns) = hex n ++ more_numbers_text ns

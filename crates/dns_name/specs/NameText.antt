-- A name as text (RFC 1035, section 5.1): labels joined by dots, without a final dot; the root is a dot.
use Rattle.std.specs.Prelude.{ℕ, ◌/◌, ◌%◌, Bool, true, List, [], ◌∷◌, ◌++◌, nat_eq, nat_lt, if◌then◌else◌, encode_utf8}
use Rattle.std.specs.List.{flat_map}
use Rattle.std.specs.Fmt.{decimal}

-- the dot, the backslash and the space stand after a backslash
abbrev pub is_quoted : ℕ → Bool
is_quoted b = if nat_eq b 46 then true else (if nat_eq b 92 then true else nat_eq b 32)

-- other octets from 33 to 126 stand as they are, and the rest as three decimal digits after a backslash
abbrev pub digits_text : ℕ → List ℕ
digits_text n = 92 ∷ (decimal (n / 100) ++ (decimal (n / 10 % 10) ++ decimal (n % 10)))

abbrev pub octet_text : ℕ → List ℕ
octet_text b = if is_quoted b then 92 ∷ encode_utf8 b
    else (if nat_lt 32 b then (if nat_lt b 127 then encode_utf8 b else digits_text b) else digits_text b)

abbrev pub label_text : List ℕ → List ℕ
label_text l = flat_map octet_text l

-- the labels after the first one, each after a dot
abbrev pub more_text : List (List ℕ) → List ℕ
more_text ls = flat_map (λ (l : List ℕ). 46 ∷ label_text l) ls

abbrev pub name_text : List (List ℕ) → List ℕ
name_text [] = 46 ∷ []
name_text (l ∷ ls) = label_text l ++ more_text ls

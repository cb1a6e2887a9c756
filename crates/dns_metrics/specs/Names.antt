-- The names of metrics and labels (Prometheus, "Data model").
use Rattle.std.specs.Prelude.{ℕ, List, [], ◌∷◌, Bool, true, false, not, ◌&&◌, ◌||◌, nat_eq}
use Rattle.std.specs.List.{list_all}
use Rattle.std.specs.Int.{is_in_range}

-- [a-zA-Z0-9_]
abbrev pub is_word_octet : ℕ → Bool
is_word_octet c = is_in_range 48 57 c || (is_in_range 65 90 c || (is_in_range 97 122 c || nat_eq c 95))

-- [a-zA-Z0-9_], and in the name of a metric a colon
abbrev pub is_name_octet : Bool → ℕ → Bool
is_name_octet colon c = is_word_octet c || (nat_eq c 58 && colon)

-- at least one such octet, the first of them no digit
abbrev pub is_name : Bool → List ℕ → Bool
is_name colon [] = false
is_name colon (c ∷ cs) = not (is_in_range 48 57 c) && list_all (is_name_octet colon) (c ∷ cs)

-- [a-zA-Z_:][a-zA-Z0-9_:]*
abbrev pub is_metric_name : List ℕ → Bool
is_metric_name name = is_name true name

-- a name that begins with two underscores is reserved
abbrev pub is_reserved : List ℕ → Bool
is_reserved [] = false
is_reserved (a ∷ []) = false
is_reserved (a ∷ b ∷ cs) = nat_eq a 95 && nat_eq b 95

-- [a-zA-Z_][a-zA-Z0-9_]*
abbrev pub is_label_name : List ℕ → Bool
is_label_name name = not (is_reserved name) && is_name false name

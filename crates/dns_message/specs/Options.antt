-- Option lists, the data of an OPT record (RFC 6891, section 6.1.2): code, length and data of each option, one after another.
use Rattle.std.specs.Prelude.{◌≡◌, ℕ, zero, suc, ◌/◌, ◌%◌, true, List, [], ◌∷◌, length, take, drop, Option, Some, None, Result, Ok, Err, option_map, is_some, nat_lt, nat_le, if◌then◌else◌}
use Rattle.dns_name.specs.declared.error.ParseError.{ParseError}
use Rattle.dns_name.specs.declared.error.ParseError.TheVariants.{ShortInput, Form}
use Rattle.dns_name.specs.declared.error.FormReason.TheVariants.{LongList}
use Rattle.dns_name.specs.Place.{be16}

-- the first option, as its code, its data and what follows it
abbrev pub split_at : ℕ → ℕ → List ℕ → Option (ℕ × List ℕ × List ℕ)
split_at code n d = if nat_le n (length d) then Some (code, take n d, drop n d) else None

abbrev pub first_option : List ℕ → Option (ℕ × List ℕ × List ℕ)
first_option [] = None
first_option (a ∷ []) = None
first_option (a ∷ b ∷ []) = None
first_option (a ∷ b ∷ c ∷ []) = None
first_option (a ∷ b ∷ c ∷ e ∷ d) = split_at (be16 a b) (be16 c e) d

-- the options, if the octets are such a list; each takes four octets, so their length is fuel enough
abbrev pub with_first : (List ℕ → Option (List (ℕ × List ℕ))) → Option (ℕ × List ℕ × List ℕ) → Option (List (ℕ × List ℕ))
with_first f None = None
with_first f (Some p) = option_map (λ ps. (p.0, p.1) ∷ ps) (f p.2)

abbrev pub options_up_to : ℕ → List ℕ → Option (List (ℕ × List ℕ))
options_up_to zero [] = Some []
options_up_to zero (a ∷ d) = None
options_up_to (suc k) [] = Some []
options_up_to (suc k) (a ∷ d) = with_first (options_up_to k) (first_option (a ∷ d))

unfoldable pub options : List ℕ → Option (List (ℕ × List ℕ))
options o = options_up_to (length o) o

-- one option, as octets
abbrev pub option_octets : ℕ → List ℕ → List ℕ
option_octets code d = code / 256 ∷ code % 256 ∷ length d / 256 ∷ length d % 256 ∷ d

abbrev pub IsOptionList : List ℕ → Type 0
IsOptionList o = is_some (options o) ≡ true

-- the octets, or why they are no option list
abbrev pub option_list : List ℕ → Result (List ℕ) ParseError
option_list o = if nat_lt 65535 (length o) then Err (Form LongList) else (if is_some (options o) then Ok o else Err ShortInput)

-- The names that IANA's registries "Domain Name System (DNS) Parameters" give to numbers, and how numbers are written by
-- them: a number without a name stands in decimal, after TYPE for a record type and CLASS for a class (RFC 3597, section 5).
use Rattle.std.specs.Prelude.{ℕ, ◌+◌, ◌-◌, ◌*◌, Bool, ◌&&◌, List, [], ◌∷◌, ◌++◌, length, take, drop, map, nat_eq, nat_lt, nat_le, if◌then◌else◌, Option, Some, None, codes, decimal}
use Rattle.std.specs.Borrow.{Bor}
use Rattle.std.specs.Char.{is_ascii_digit, to_ascii_lowercase}
use Rattle.std.specs.List.{find}
use Rattle.std.specs.Str.{bytes_eq}
use Rattle.dns_name.specs.declared.registry.Registry.{Registry}
use Rattle.dns_name.specs.declared.registry.Registry.TheVariants.{Classes, Rtypes, OptionCodes, ErrorCodes, Opcodes, Rcodes}
use Rattle.dns_name.specs.declared.registry.Wanted.{Wanted}
use Rattle.dns_name.specs.declared.registry.Wanted.TheVariants.{Number, Name}
use Rattle.dns_name.specs.declared.registry_names.TheConstants.{CLASSES, TYPES, TYPES_FROM_17, TYPES_FROM_33, TYPES_FROM_49, TYPES_FROM_66, TYPES_FROM_128, TYPES_FROM_258, OPTIONS, OPTIONS_FROM_15, ERRORS, ERRORS_FROM_16, OPCODES, RCODES, RCODES_FROM_16}

-- an entry of a registry: a number and its name
abbrev pub Entry : Type 0
Entry = ℕ × List ℕ

-- the entries of a table of the code
abbrev pub entries_in : List (ℕ × record { now : List ℕ }) → List Entry
entries_in = map (λ e. (e.0, e.1.now))

abbrev pub entries : Registry → List Entry
entries Classes = entries_in CLASSES.now
entries Rtypes =
    entries_in TYPES.now ++ entries_in TYPES_FROM_17.now ++ entries_in TYPES_FROM_33.now ++ entries_in TYPES_FROM_49.now
    ++ entries_in TYPES_FROM_66.now
    ++ entries_in TYPES_FROM_128.now ++ entries_in TYPES_FROM_258.now
entries OptionCodes = entries_in OPTIONS.now ++ entries_in OPTIONS_FROM_15.now
entries ErrorCodes = entries_in ERRORS.now ++ entries_in ERRORS_FROM_16.now
entries Opcodes = entries_in OPCODES.now
entries Rcodes = entries_in RCODES.now ++ entries_in RCODES_FROM_16.now

-- the entry that a number and a borrowed name are
abbrev pub entry_of : ℕ × Bor (List ℕ) → Entry
entry_of e = (e.0, e.1.now)

-- what stands before the decimal number if there is no name
abbrev pub word_of : Registry → List ℕ
word_of Classes = codes "CLASS"
word_of Rtypes = codes "TYPE"
word_of OptionCodes = []
word_of ErrorCodes = []
word_of Opcodes = []
word_of Rcodes = []

-- texts that are the same up to ASCII case
abbrev pub same_letters : List ℕ → List ℕ → Bool
same_letters a b = bytes_eq (map to_ascii_lowercase a) (map to_ascii_lowercase b)

abbrev pub has_number : ℕ → Entry → Bool
has_number n e = nat_eq e.0 n

abbrev pub has_name : List ℕ → Entry → Bool
has_name t e = same_letters e.1 t

-- an entry is the one that is looked for
abbrev pub fits : Wanted → Entry → Bool
fits (Number n) e = has_number n e
fits (Name t) e = has_name t.now e

abbrev pub name_or : List ℕ → Option Entry → List ℕ
name_or other (Some e) = e.1
name_or other None = other

-- how a number is written: by its name, else in decimal after the registry's word
abbrev pub code_text : Registry → ℕ → List ℕ
code_text r n = name_or (word_of r ++ decimal n) (find (has_number n) (entries r))

-- a number that decimal digits go on
abbrev pub with_digits : ℕ → List ℕ → Option ℕ
with_digits n [] = Some n
with_digits n (c ∷ cs) = if is_ascii_digit c then with_digits (10 * n + (c - 48)) cs else None

abbrev pub if_below : ℕ → Option ℕ → Option ℕ
if_below top (Some n) = if nat_lt n top then Some n else None
if_below top None = None

-- a number below 65,536 from 1 to 5 decimal digits
abbrev pub number_of_digits : List ℕ → Option ℕ
number_of_digits t = if nat_lt 0 (length t) && nat_le (length t) 5 then if_below 65536 (with_digits 0 t) else None

abbrev pub number_behind : List ℕ → List ℕ → Option ℕ
number_behind word t =
    if nat_lt (length t) (length word) then None
    else (if same_letters (take (length word) t) word then number_of_digits (drop (length word) t) else None)

abbrev pub number_or : Option ℕ → Option Entry → Option ℕ
number_or other (Some e) = Some e.0
number_or other None = other

-- the number that a text names: by its name up to ASCII case, else by decimal digits after the registry's word
abbrev pub code_named : Registry → List ℕ → Option ℕ
code_named r t = number_or (number_behind (word_of r) t) (find (has_name t) (entries r))

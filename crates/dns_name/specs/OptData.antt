-- What option data is read as (RFC 6891, section 6.1.2).
use Rattle.std.specs.Prelude.{◌≡◌, ℕ, ◌≤◌, List, length, Option, Some, None, Result, Ok, Err, option_map, nat_lt, nat_eq, if◌then◌else◌}
use Rattle.dns_name.specs.declared.error.ParseError.{ParseError}
use Rattle.dns_name.specs.declared.error.ParseError.TheVariants.{Form}
use Rattle.dns_name.specs.declared.error.FormReason.TheVariants.{Trailing, LongList}
use Rattle.dns_name.specs.Place.{Place, rest, moved}

-- a reading of what is left at a place: a value and how many octets it takes, or a refusal
abbrev pub Taken : Type 0 → Type 0
Taken X = Result (X × ℕ) ParseError

-- a call of parse gives what is read and goes after it; a refused call leaves the place
abbrev pub ParsesData : {X : Type 0} → Taken X → Place → Place → Result X ParseError → Type 0
ParsesData (Ok p) old new result = (p.1 ≤ length (rest old)) × (result ≡ Ok p.0) × (new ≡ moved p.1 old)
ParsesData (Err e) old new result = (result ≡ Err e) × (new ≡ old)

-- a call of parse_option: none, and the place stays, if the type reads no options of this code
abbrev pub ParsesOption : {X : Type 0} → Option (Taken X) → Place → Place → Result (Option X) ParseError → Type 0
ParsesOption None old new result = (result ≡ Ok None) × (new ≡ old)
ParsesOption (Some (Ok p)) old new result = (p.1 ≤ length (rest old)) × (result ≡ Ok (Some p.0)) × (new ≡ moved p.1 old)
ParsesOption (Some (Err e)) old new result = (result ≡ Err e) × (new ≡ old)

-- the reading of one code alone
abbrev pub for_code : {X : Type 0} → ℕ → (List ℕ → Taken X) → ℕ → List ℕ → Option (Taken X)
for_code mine read code d = if nat_eq code mine then Some (read d) else None

-- an option's data is taken whole
abbrev pub whole : {X : Type 0} → List ℕ → Taken X → Result X ParseError
whole d (Ok p) = if nat_lt p.1 (length d) then Err (Form Trailing) else Ok p.0
whole d (Err e) = Err e

-- the value of an option, or its refusal; none if the type reads no options of this code
abbrev pub kind : {X : Type 0} → (ℕ → List ℕ → Option (Taken X)) → ℕ → List ℕ → Option (Result X ParseError)
kind takes code d = option_map (whole d) (takes code d)

-- what is read of data that is taken whole
abbrev pub all_taken : {X : Type 0} → List ℕ → Result X ParseError → Taken X
all_taken d (Ok x) = Ok (x, length d)
all_taken d (Err e) = Err e

-- a reading takes octets whole and gives its value, or is refused
abbrev pub GivesWhole : {X : Type 0} → List ℕ → Taken X → Result X ParseError → Type 0
GivesWhole d (Ok p) result = (result ≡ Ok p.0) × (p.1 ≡ length d)
GivesWhole d (Err e) result = result ≡ Err e

-- any octets
abbrev pub list_data : List ℕ → Taken (List ℕ)
list_data d = if nat_lt 65535 (length d) then Err (Form LongList) else Ok (d, length d)

-- what is read, turned into another value
abbrev pub mapped_data : {X Y : Type 0} → (X → Y) → Taken X → Taken Y
mapped_data f (Ok p) = Ok (f p.0, p.1)
mapped_data f (Err e) = Err e

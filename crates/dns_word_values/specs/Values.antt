-- Values that a word spells: numbers, times, addresses and strings.
use Rattle.std.specs.Prelude.{ℕ, zero, suc, ◌+◌, ◌*◌, ◌-◌, ◌/◌, ◌%◌, ◌<◌, Bool, true, false, ◌&&◌, ◌||◌, List, [], ◌∷◌, ◌++◌, length, nat_eq, nat_lt, nat_le, if◌then◌else◌, Option, Some, None, option_map}
use Rattle.std.specs.Char.{is_ascii_digit}
use Rattle.std.specs.Net.Addr.{octets_of}
use Rattle.std.specs.Net.Reader.{read_ipv4, read_ipv6, whole_value}
use Rattle.dns_word_values.specs.declared.values.Escape.{Escape}
use Rattle.dns_word_values.specs.declared.values.Escape.TheVariants.{Clear, Backslash, Hundreds, Tens}

infixl 10 ◌>>?◌
abbrev pub ◌>>?◌ : {A B : Type 0} → Option A → (A → Option B) → Option B
(Some x) >>? f = f x
None >>? f = None

-- the number that goes on with these digits, if it stays below the top
abbrev pub decimal_after : ℕ → ℕ → List ℕ → Option ℕ
decimal_after top n [] = Some n
decimal_after top n (c ∷ cs) = if is_ascii_digit c && nat_lt (10 * n + (c - 48)) top then decimal_after top (10 * n + (c - 48)) cs else None

-- decimal digits of a number below the top
unfoldable pub number_below : ℕ → List ℕ → Option ℕ
number_below top w = if nat_eq (length w) 0 then None else decimal_after top 0 w

-- weeks, days, hours, minutes and seconds
abbrev pub unit_seconds : ℕ → Option ℕ
unit_seconds c =
    if nat_eq c 119 || nat_eq c 87 then Some 604800
    else if nat_eq c 100 || nat_eq c 68 then Some 86400
    else if nat_eq c 104 || nat_eq c 72 then Some 3600
    else if nat_eq c 109 || nat_eq c 77 then Some 60
    else if nat_eq c 115 || nat_eq c 83 then Some 1
    else None

abbrev pub below : ℕ → ℕ → Option ℕ
below top n = if nat_lt n top then Some n else None

-- the number with a digit more, if any came
abbrev pub digit_more : Option ℕ → ℕ → Option ℕ
digit_more None c = Some (c - 48)
digit_more (Some n) c = below 4294967296 (10 * n + (c - 48))

-- the seconds with that many units more
abbrev pub units_more : ℕ → Option ℕ → ℕ → Option ℕ
units_more total None c = None
units_more total (Some n) c = unit_seconds c >>? λ u. below 4294967296 (total + n * u)

-- a number without its unit is none
abbrev pub units_end : ℕ → Option ℕ → Option ℕ
units_end total None = Some total
units_end total (Some n) = None

-- the seconds so far, and the number whose unit is to come
abbrev pub units_after : ℕ → Option ℕ → List ℕ → Option ℕ
units_after total o [] = units_end total o
units_after total o (c ∷ cs) =
    if is_ascii_digit c then (digit_more o c >>? λ n. units_after total (Some n) cs)
    else (units_more total o c >>? λ t. units_after t None cs)

abbrev pub some_or_else : {A : Type 0} → Option A → Option A → Option A
some_or_else (Some x) o = Some x
some_or_else None o = o

-- seconds, or numbers with a unit each, as 1h30m
unfoldable pub period : List ℕ → Option ℕ
period w = if nat_eq (length w) 0 then None else some_or_else (number_below 4294967296 w) (units_after 0 None w)

-- an IPv4 address: four decimal numbers below 256, without leading zeros, and dots between them (RFC 1035, section 3.4.1)
abbrev pub quad : List ℕ → Option (List ℕ)
quad w = whole_value (read_ipv4 w)

-- an IPv6 address (RFC 4291, section 2.2)
abbrev pub long_address : List ℕ → Option (List ℕ)
long_address w = option_map octets_of (whole_value (read_ipv6 w))

-- The octets of a string, octet by octet (RFC 1035, section 5.1): \DDD, or \X for another character than a digit.
abbrev pub unescape : Escape → List ℕ → ℕ → Option (Escape × List ℕ)
unescape Clear octets c = if nat_eq c 92 then Some (Backslash, octets) else Some (Clear, octets ++ c ∷ [])
unescape Backslash octets c = if is_ascii_digit c then Some (Hundreds (c - 48), octets) else Some (Clear, octets ++ c ∷ [])
unescape (Hundreds n) octets c = if is_ascii_digit c then Some (Tens (10 * n + (c - 48)), octets) else None
unescape (Tens n) octets c = if is_ascii_digit c && nat_lt (10 * n + (c - 48)) 256
    then Some (Clear, octets ++ (10 * n + (c - 48)) ∷ []) else None

abbrev pub unescaped_end : Escape → List ℕ → Option (List ℕ)
unescaped_end Clear octets = Some octets
unescaped_end Backslash octets = None
unescaped_end (Hundreds n) octets = None
unescaped_end (Tens n) octets = None

abbrev pub unescaped : Escape → List ℕ → List ℕ → Option (List ℕ)
unescaped m octets [] = unescaped_end m octets
unescaped m octets (c ∷ cs) = unescape m octets c >>? λ s. unescaped s.0 s.1 cs

-- the octets that a string spells
abbrev pub string_octets : List ℕ → Option (List ℕ)
string_octets w = unescaped Clear [] w

-- the state of an escape as two digits at most leave it
abbrev pub IsEscape : Escape → Type 0
IsEscape Clear = Unit {0}
IsEscape Backslash = Unit {0}
IsEscape (Hundreds n) = n < 10
IsEscape (Tens n) = n < 100

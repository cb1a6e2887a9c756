-- Values that words spell.
use Rattle.std.specs.Prelude.{ℕ, Bool, true, false, ◌+◌, ◌-◌, ◌*◌, ◌==◌, ◌&&◌, nat_lt, nat_le, if◌then◌else◌, List, [], ◌∷◌, length, Option, Some, None, Result, Ok, Err, codes}
use Rattle.std.specs.List.{slice_split}
use Rattle.std.specs.Str.{bytes_eq}
use Rattle.hex.specs.Hex.{decode_of, decode_sized}
use Rattle.hex.specs.declared.error.FromHexError.{FromHexError}
use Rattle.dns_name.specs.declared.address.IpAddr.{IpAddr}
use Rattle.dns_name.specs.declared.address.IpAddr.TheVariants.{V4, V6}
use Rattle.dns_trace.specs.Words.{word_at}
use Rattle.dns_trace.specs.Reading.{◌>>=◌, unless}
use Rattle.dns_trace.specs.declared.reason.Reason.{Reason}
use Rattle.dns_trace.specs.declared.reason.Reason.TheVariants.{Value}

-- the number of decimal digits that follow the number n
abbrev pub digits_after : ℕ → List ℕ → Result ℕ Reason
digits_after n [] = Ok n
digits_after n (c ∷ cs) = if nat_le 48 c && nat_le c 57 then digits_after (10 * n + (c - 48)) cs else Err Value

-- 1 to `most` digits of a number below `top`
unfoldable pub number : ℕ → ℕ → List ℕ → Result ℕ Reason
number most top w = do
  _ ← unless Value (nat_lt 0 (length w) && nat_le (length w) most)
  n ← digits_after 0 w
  _ ← unless Value (nat_lt n top)
  Ok n

abbrev pub num_of : List ℕ → Result ℕ Reason
num_of w = number 20 18446744073709551616 w

abbrev pub port_of : List ℕ → Result ℕ Reason
port_of w = number 20 65536 w

-- the refusals of hexadecimal digits are one
abbrev pub from_hex : {A : Type 0} → Result A FromHexError → Result A Reason
from_hex (Ok x) = Ok x
from_hex (Err e) = Err Value

-- an even number of hexadecimal digits, or `-` for no octet
unfoldable pub hex_octets_of : List ℕ → Result (List ℕ) Reason
hex_octets_of w = if bytes_eq w (codes "-") then Ok [] else from_hex (decode_of w)

-- `yes` or `no`
unfoldable pub yes_no_of : List ℕ → Result Bool Reason
yes_no_of w = if bytes_eq w (codes "yes") then Ok true else if bytes_eq w (codes "no") then Ok false else Err Value

-- a size in octets of at most 65,535, or none
unfoldable pub size_or_none : List ℕ → Result (Option ℕ) Reason
size_or_none w = if bytes_eq w (codes "none") then Ok None else (number 20 65536 w >>= λ n. Ok (Some n))

-- 32 hexadecimal digits
unfoldable pub secret_of : List ℕ → Result (List ℕ) Reason
secret_of w = from_hex (decode_sized w 16)

-- the four parts of a dotted quad
unfoldable pub quad_of : List (List ℕ) → Result IpAddr Reason
quad_of ps = do
  _ ← unless Value (length ps == 4)
  a ← number 3 256 (word_at ps 0)
  b ← number 3 256 (word_at ps 1)
  c ← number 3 256 (word_at ps 2)
  d ← number 3 256 (word_at ps 3)
  Ok (V4 (a ∷ b ∷ c ∷ d ∷ []))

abbrev pub quad_word : List ℕ → Result IpAddr Reason
quad_word w = quad_of (slice_split (λ b. b == 46) w)

abbrev pub six : Result (List ℕ) Reason → Result IpAddr Reason
six (Ok o) = Ok (V6 o)
six (Err e) = Err e

-- 32 hexadecimal digits, or a dotted quad
unfoldable pub addr_of : List ℕ → Result IpAddr Reason
addr_of w = if length w == 32 then six (from_hex (decode_sized w 16)) else quad_word w

-- EXPIRE (RFC 7314) and TCP-KEEPALIVE (RFC 7828).
use Rattle.std.specs.Prelude.{ℕ, List, [], ◌∷◌, Option, Some, None, Ok, Err}
use Rattle.std.specs.Fmt.{decimal}
use Rattle.dns_name.specs.declared.error.ParseError.TheVariants.{ShortInput}
use Rattle.dns_name.specs.OptData.{Taken}
use Rattle.dns_name.specs.Place.{be16, be32, two, four}

-- no number, or four octets of seconds (RFC 7314, section 2)
abbrev pub expire_data : List ℕ → Taken (Option ℕ)
expire_data [] = Ok (None, 0)
expire_data (a ∷ []) = Err ShortInput
expire_data (a ∷ b ∷ []) = Err ShortInput
expire_data (a ∷ b ∷ c ∷ []) = Err ShortInput
expire_data (a ∷ b ∷ c ∷ d ∷ more) = Ok (Some (be32 a b c d), 4)

abbrev pub expire_octets : Option ℕ → List ℕ
expire_octets None = []
expire_octets (Some n) = four n

-- no number, or two octets of units of 100 ms (RFC 7828, section 3.1)
abbrev pub keepalive_data : List ℕ → Taken (Option ℕ)
keepalive_data [] = Ok (None, 0)
keepalive_data (a ∷ []) = Err ShortInput
keepalive_data (a ∷ b ∷ more) = Ok (Some (be16 a b), 2)

abbrev pub keepalive_octets : Option ℕ → List ℕ
keepalive_octets None = []
keepalive_octets (Some n) = two n

-- a number in decimal, or nothing
abbrev pub number_text : Option ℕ → List ℕ
number_text None = []
number_text (Some n) = decimal n

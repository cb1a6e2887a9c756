-- The one spelling of each value: numbers in decimal without leading zeros. Octets are hexadecimal digits in lower case, or `-` for
-- none. An IPv4 address is a dotted quad, and an IPv6 address 32 hexadecimal digits.
use Rattle.std.specs.Prelude.{ℕ, Bool, true, false, List, [], ◌∷◌, ◌++◌, map, Option, Some, None, codes, decimal}
use Rattle.std.specs.List.{join_with_byte}
use Rattle.hex.specs.Hex.{encode_lower}
use Rattle.dns_name.specs.declared.address.IpAddr.{IpAddr}
use Rattle.dns_name.specs.declared.address.IpAddr.TheVariants.{V4, V6}

abbrev pub yes_no : Bool → List ℕ
yes_no true = codes "yes"
yes_no false = codes "no"

abbrev pub number_or_none : Option ℕ → List ℕ
number_or_none None = codes "none"
number_or_none (Some n) = decimal n

abbrev pub octets_word : List ℕ → List ℕ
octets_word [] = codes "-"
octets_word (o ∷ os) = encode_lower (o ∷ os)

abbrev pub address_word : IpAddr → List ℕ
address_word (V4 o) = join_with_byte 46 (map decimal o)
address_word (V6 o) = encode_lower o

-- words after one space each
abbrev pub spaced : List (List ℕ) → List ℕ
spaced [] = []
spaced (w ∷ ws) = 32 ∷ w ++ spaced ws

-- words parted by one space, and the end of the line
abbrev pub line_of_words : List (List ℕ) → List ℕ
line_of_words ws = join_with_byte 32 ws ++ 10 ∷ []

-- DNS cookies (RFC 7873, section 4) and the standard server cookie (RFC 9018, section 4).
use Rattle.std.specs.Prelude.{◌≡◌, ℕ, ◌+◌, ◌-◌, ◌%◌, ◌^◌, ◌≤◌, List, [], ◌∷◌, ◌++◌, length, take, drop, slice_index, Option, Some, None, Bool, false, IsTrue, ◌↔◌, ◌==◌, if◌then◌else◌}
use Rattle.std.specs.declared.cmp.Ordering.{Ordering}
use Rattle.std.specs.Cmp.Lexicographic.{slice_cmp}
use Rattle.std.specs.Option.{option_cmp}
use Rattle.std.specs.Ordering.{nat_cmp, ordering_then}
use Rattle.std.specs.Int.{w32, w64, from_be_bytes, to_be_bytes, to_le_bytes}
use Rattle.dns_name.specs.declared.address.IpAddr.{IpAddr}
use Rattle.dns_name.specs.declared.serial.Serial.{Serial}
use Rattle.dns_name.specs.Addresses.{address_octets}
use Rattle.hex.specs.Hex.{encode_upper}
use Rattle.dns_cookie.specs.Sip.{sip}

-- ---- timestamps (RFC 9018, section 4.3)

-- how many seconds a timestamp lies after the moment one hour before now, modulo 2 ^ 32
abbrev pub after_last_hour : ℕ → ℕ → ℕ
after_last_hour timestamp now = (timestamp + 3600 + (2 ^ 32 - now)) % 2 ^ 32

-- at most one hour old, and at most five minutes ahead
abbrev pub IsTimely : ℕ → ℕ → Type 0
IsTimely timestamp now = after_last_hour timestamp now ≤ 3900

-- ---- the standard server cookie: version, three reserved octets, a timestamp and eight octets of hash

-- the octets before the hash
abbrev pub octets_before_hash : ℕ → List ℕ → ℕ → List ℕ
octets_before_hash version reserved timestamp = version ∷ (reserved ++ to_be_bytes w32 timestamp)

abbrev pub version_of : List ℕ → ℕ
version_of s = slice_index s 0

abbrev pub reserved_of : List ℕ → List ℕ
reserved_of s = take 3 (drop 1 s)

abbrev pub timestamp_of : List ℕ → ℕ
timestamp_of s = from_be_bytes w32 (take 4 (drop 4 s))

abbrev pub hash_of : List ℕ → List ℕ
hash_of s = drop 8 s

-- the standard server cookie that a server cookie of 16 octets is
abbrev pub standard_part : List ℕ → Option (List ℕ)
standard_part s = if length s == 16 then Some s else None

-- ---- the hash (RFC 9018, section 4.4)

-- the hash as a number: under the server's secret over the client cookie, the octets before the hash
-- as they stand, and the client's address
abbrev pub hash_number : List ℕ → List ℕ → List ℕ → IpAddr → ℕ
hash_number secret client before address = sip secret (client ++ before ++ address_octets address)

-- the hash, little-endian
abbrev pub hash_octets : List ℕ → List ℕ → List ℕ → IpAddr → List ℕ
hash_octets secret client before address = to_le_bytes w64 (hash_number secret client before address)

-- a standard server cookie has the hash of its own first eight octets
abbrev pub HashAgrees : List ℕ → List ℕ → IpAddr → List ℕ → Type 0
HashAgrees secret client address s = hash_of s ≡ hash_octets secret client (take 8 s) address

-- the server cookie of version 1
abbrev pub server_cookie : List ℕ → List ℕ → ℕ → IpAddr → List ℕ
server_cookie secret client timestamp address =
    let before = octets_before_hash 1 (0 ∷ 0 ∷ 0 ∷ []) timestamp in
    before ++ hash_octets secret client before address

-- ---- a cookie: a client part, and a server part or none

pub record Cookie : Type 0 where
  pub client : List ℕ
  pub server : Option (List ℕ)

-- a cookie as text: the hexadecimal digits of the client part and of the server part
abbrev pub cookie_text : List ℕ → Option (List ℕ) → List ℕ
cookie_text client None = encode_upper client
cookie_text client (Some s) = encode_upper client ++ encode_upper s

-- the standard server cookie in it
abbrev pub standard_of : Option (List ℕ) → Option (List ℕ)
standard_of None = None
standard_of (Some s) = standard_part s

-- the cookie of a response
abbrev pub response : List ℕ → Cookie → ℕ → IpAddr → Cookie
response secret c timestamp address =
    record { client = c.client; server = Some (server_cookie secret c.client timestamp address) }

-- a check of a standard server cookie asks the caller once whether its timestamp is accepted. It is true exactly if it is and the
-- hash agrees
pub record IsChecked (accepts : Serial → Bool → Type 0) (secret client : List ℕ) (address : IpAddr) (s : List ℕ)
    (result : Bool) : Type 0 where
  pub accepted : Bool
  pub asked : accepts (record { 0 = timestamp_of s }) accepted
  pub verdict : IsTrue result ↔ (IsTrue accepted × HashAgrees secret client address s)

abbrev pub ChecksStandard : (Serial → Bool → Type 0) → List ℕ → List ℕ → IpAddr → Option (List ℕ) → Bool → Type 0
ChecksStandard accepts secret client address None result = result ≡ false
ChecksStandard accepts secret client address (Some s) result = IsChecked accepts secret client address s result

-- a check of a cookie (RFC 7873, section 5.2.3): false without a standard server cookie
abbrev pub Checks : (Serial → Bool → Type 0) → List ℕ → IpAddr → Cookie → Bool → Type 0
Checks accepts secret address c result = ChecksStandard accepts secret c.client address (standard_of c.server) result

-- a standard server cookie that is timely and has the right hash
abbrev pub IsGoodPart : List ℕ → List ℕ → IpAddr → ℕ → Option (List ℕ) → Type 0
IsGoodPart secret client address now None = ⊥
IsGoodPart secret client address now (Some s) = IsTimely (timestamp_of s) now × HashAgrees secret client address s

-- a cookie that a server takes as its own at a moment (RFC 7873, section 5.2.4; RFC 9018, section 4.3)
abbrev pub IsGood : List ℕ → IpAddr → ℕ → Cookie → Type 0
IsGood secret address now c = IsGoodPart secret c.client address now (standard_of c.server)

-- ---- order

-- that of the client part first, and no server part is least
abbrev pub cookie_cmp : Cookie → Cookie → Ordering
cookie_cmp a b = ordering_then (slice_cmp nat_cmp a.client b.client) (option_cmp (slice_cmp nat_cmp) a.server b.server)

-- The header of a message (RFC 1035, section 4.1.1; RFC 4035, section 3.2, for AD and CD): an identifier of 16 bits, and two octets
-- of flags and codes.
use Rattle.std.specs.Prelude.{ℕ, ◌+◌, ◌*◌, ◌/◌, ◌%◌, ◌<◌, ◌==◌, Bool, List, [], ◌∷◌, if◌then◌else◌}
use Rattle.dns_message.specs.declared.header.Header.{Header}

-- a flag as a bit
abbrev pub bit : Bool → ℕ
bit b = if b then 1 else 0

-- the lowest bit of a number
abbrev pub low_bit : ℕ → Bool
low_bit n = n % 2 == 1

-- QR, four bits of opcode, AA, TC, RD
abbrev pub upper_flags : Header → ℕ
upper_flags h = 128 * bit h.qr + 8 * h.opcode + 4 * bit h.aa + 2 * bit h.tc + bit h.rd

-- RA, Z, AD, CD, four bits of response code
abbrev pub lower_flags : Header → ℕ
lower_flags h = 128 * bit h.ra + 64 * bit h.z + 32 * bit h.ad + 16 * bit h.cd + h.rcode

-- the four octets of a header
abbrev pub header_octets : Header → List ℕ
header_octets h = h.id / 256 ∷ h.id % 256 ∷ upper_flags h ∷ lower_flags h ∷ []

-- the header that four octets are
abbrev pub header_in : ℕ → ℕ → ℕ → ℕ → Header
header_in a b c d = record {
  id = 256 * a + b;
  qr = low_bit (c / 128);
  opcode = c / 8 % 16;
  aa = low_bit (c / 4);
  tc = low_bit (c / 2);
  rd = low_bit c;
  ra = low_bit (d / 128);
  z = low_bit (d / 64);
  ad = low_bit (d / 32);
  cd = low_bit (d / 16);
  rcode = d % 16;
}

-- the header of octets that are a message
abbrev pub header_of : List ℕ → Header
header_of [] = header_in 0 0 0 0
header_of (a ∷ []) = header_in 0 0 0 0
header_of (a ∷ b ∷ []) = header_in 0 0 0 0
header_of (a ∷ b ∷ c ∷ []) = header_in 0 0 0 0
header_of (a ∷ b ∷ c ∷ d ∷ o) = header_in a b c d

-- a header in the ranges of its fields
pub record IsHeader (h : Header) : Type 0 where
  pub id : h.id < 65536
  pub opcode : h.opcode < 16
  pub rcode : h.rcode < 16

-- Type bit maps (RFC 4034, section 4.1.2): the types that an NSEC or NSEC3 record lists.
use Rattle.std.specs.Prelude.{ℕ, zero, suc, ◌≡◌, ◌≢◌, ◌≤◌, ◌<◌, ◌+◌, ◌-◌, ◌/◌, ◌%◌, ◌^◌, Bool, ◌&&◌, List, [], ◌∷◌, ◌++◌, length, nat_eq, slice_index, if◌then◌else◌}
use Rattle.std.specs.List.{list_any}

-- a window block: its number, which is the high-order octet of its types, and its bitmap
pub record Block : Type 0 where
  pub window : ℕ
  pub bitmap : List ℕ

-- each is "( Window Block # | Bitmap Length | Bitmap )"
abbrev pub block_octets : Block → List ℕ
block_octets b = b.window ∷ length b.bitmap ∷ b.bitmap

abbrev pub bit_maps : List Block → List ℕ
bit_maps [] = []
bit_maps (b ∷ bs) = block_octets b ++ bit_maps bs

-- A bitmap has from 1 to 32 octets. Trailing zero octets are omitted, and so are blocks with no types.
pub record IsBlock (b : Block) : Type 0 where
  pub some : 0 < length b.bitmap
  pub few : length b.bitmap ≤ 32
  pub last : slice_index b.bitmap (length b.bitmap - 1) ≢ 0

-- "Blocks are present in the NSEC RR RDATA in increasing numerical order"; they begin at a number
abbrev pub AreBlocks : ℕ → List Block → Type 0
AreBlocks low [] = Unit {0}
AreBlocks low (b ∷ bs) = (low ≤ b.window) × IsBlock b × AreBlocks (b.window + 1) bs

-- whether a bit of a bitmap is set, in network bit order: bit 0 is the highest of the first octet; octets that are not there are zero
abbrev pub has_bit : List ℕ → ℕ → Bool
has_bit bitmap bit = nat_eq (slice_index bitmap (bit / 8) / 2 ^ (7 - bit % 8) % 2) 1

-- whether a block says a type: its bit is that of the low-order octet
abbrev pub says : ℕ → Block → Bool
says t b = nat_eq b.window (t / 256) && has_bit b.bitmap (t % 256)

-- octets that are type bit maps, and types: exactly those of which a bit is set
pub record SayTypes (octets types : List ℕ) : Type 0 where
  pub blocks : List Block
  pub lawful : AreBlocks 0 blocks
  pub octets_ : bit_maps blocks ≡ octets
  pub types_ : (t : ℕ) → list_any (nat_eq t) types ≡ list_any (says t) blocks

-- octets that are no type bit maps
abbrev pub SayNone : List ℕ → Type 0
SayNone octets = (bs : List Block) → AreBlocks 0 bs → bit_maps bs ≡ octets → ⊥

-- ---- one block

-- octets that begin with a block
pub record BeginWith (low : ℕ) (octets : List ℕ) (window : ℕ) (bitmap left : List ℕ) : Type 0 where
  pub octets_ : octets ≡ window ∷ length bitmap ∷ bitmap ++ left
  pub least : low ≤ window
  pub lawful : IsBlock (record { window = window; bitmap = bitmap })
  pub short : length left < length octets

-- octets that don't begin with a block
abbrev pub BeginWithNone : ℕ → List ℕ → Type 0
BeginWithNone low octets = (b : Block) (more : List ℕ) → low ≤ b.window → IsBlock b → block_octets b ++ more ≡ octets → ⊥

-- the type of a bit that is set, if the types of a bitmap begin with one
abbrev pub bit_type : List ℕ → ℕ → ℕ → List ℕ
bit_type bitmap first bit = if has_bit bitmap bit then (first + bit) ∷ [] else []

-- the types of its first bits
abbrev pub first_types : List ℕ → ℕ → ℕ → List ℕ
first_types bitmap first zero = []
first_types bitmap first (suc bit) = first_types bitmap first bit ++ bit_type bitmap first bit

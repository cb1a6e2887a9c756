-- What words of a row stand for.
use Rattle.std.specs.Prelude.{◌≡◌, ℕ, List, Ok}
use Rattle.dns_name.specs.declared.address.IpAddr.{IpAddr}
use Rattle.dns_name.specs.declared.address.IpAddr.TheVariants.{V4, V6}
use Rattle.hex.specs.Hex.{decode_sized}

-- a word of eight digits spells an address of version 4, and one of 32 digits one of version 6
abbrev pub SpellsAddress : List ℕ → IpAddr → Type 0
SpellsAddress w (V4 o) = decode_sized w 4 ≡ Ok o
SpellsAddress w (V6 o) = decode_sized w 16 ≡ Ok o

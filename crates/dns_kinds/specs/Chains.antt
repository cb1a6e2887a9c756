-- CHAIN (RFC 7901, section 4).
use Rattle.std.specs.Prelude.{ℕ, List}
use Rattle.dns_name.specs.Names.{uncompressed_at}
use Rattle.dns_name.specs.OptData.{Taken}

-- one uncompressed name
abbrev pub chain_data : List ℕ → Taken (List (List ℕ))
chain_data d = uncompressed_at d 0

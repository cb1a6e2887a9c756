-- Options that no kind reads.
use Rattle.std.specs.Prelude.{ℕ, List, Option, Some}
use Rattle.dns_name.specs.OptData.{Taken, mapped_data, list_data}

-- a code and the data under it
pub record Unknown : Type 0 where
  pub code : ℕ
  pub octets : List ℕ

abbrev pub unknown : ℕ → List ℕ → Unknown
unknown c d = record { code = c; octets = d }

-- any octets under any code
abbrev pub unknown_taken : ℕ → List ℕ → Option (Taken Unknown)
unknown_taken c d = Some (mapped_data (unknown c) (list_data d))

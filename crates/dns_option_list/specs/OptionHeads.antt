-- The head of an option (RFC 6891, section 6.1.2).
use Rattle.std.specs.Prelude.{ℕ, List, length, Ok, Err, nat_lt, slice_index, if◌then◌else◌}
use Rattle.dns_name.specs.declared.error.ParseError.TheVariants.{ShortInput}
use Rattle.dns_name.specs.OptData.{Taken}
use Rattle.dns_name.specs.Place.{be16}

-- the first four octets of an option: its code and how many octets of data follow
pub record OptionHead : Type 0 where
  pub code : ℕ
  pub size : ℕ

abbrev pub option_head_in : List ℕ → OptionHead
option_head_in d = record { code = be16 (slice_index d 0) (slice_index d 1); size = be16 (slice_index d 2) (slice_index d 3) }

abbrev pub option_head : List ℕ → Taken OptionHead
option_head d = if nat_lt (length d) 4 then Err ShortInput else Ok (option_head_in d, 4)

-- A message that states no additional records has no OPT record.
use Rattle.std.proofs.Common.{◌≡◌, ◌∙◌, ℕ, List, None, Result, Ok, Err, refl, ap}
use Rattle.dns_name.specs.declared.error.ParseError.{ParseError}
use Rattle.dns_message.specs.Standing.{standing_at}
use Rattle.dns_base.specs.Sections.{authority_of, field, items_behind, reached}
use Rattle.dns_opt.specs.OptRecords.{opt_in, opt_of}

none_behind : (o : List ℕ) (end : Result ℕ ParseError) → opt_in (reached end (items_behind (standing_at o) 0 end)) ≡ None
none_behind o (Ok at) = refl
none_behind o (Err e) = refl

pub no_opt : (o : List ℕ) → field 10 o ≡ 0 → opt_of o ≡ None
no_opt o h = ap (λ (n : ℕ). opt_in (reached (authority_of o).1 (items_behind (standing_at o) n (authority_of o).1))) h ∙ none_behind o (authority_of o).1

-- The zones of a configuration.
use Rattle.std.specs.Prelude.{ℕ, Bool, false, ◌||◌, List, [], ◌∷◌, None}
use Rattle.std.specs.List.{list_any}
use Rattle.dns_name.specs.Canonical.{same_name}
use Rattle.dns_config.specs.declared.config.ZoneEntry.{ZoneEntry}
use Rattle.dns_generation.specs.declared.generation.ZoneSummary.{ZoneSummary}
use Rattle.dns_generation.specs.declared.signing.ZoneSigning.TheVariants.{Unsigned}

-- an entry is of the zone with this name
abbrev pub is_entry_named : List (List ℕ) → ZoneEntry → Bool
is_entry_named name entry = same_name entry.name.name name

-- a zone is in a configuration twice
abbrev pub stands_twice : List ZoneEntry → Bool
stands_twice [] = false
stands_twice (e ∷ es) = list_any (is_entry_named e.name.name) es || stands_twice es

-- a zone without data, as a secondary's before its first transfer, and after EXPIRE (RFC 1034, section 4.3.5)
abbrev pub without_data : ZoneSummary
without_data = record { timers = None; records = 0; signing = Unsigned }

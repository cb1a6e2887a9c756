-- Where a name stands in a zone: at or below a cut, or with what it owns.
use Rattle.std.specs.Prelude.{ℕ, ◌≡◌, true, false, List, Option, Some, None}
use Rattle.dns_zone.specs.declared.cuts.Standing.{Standing}
use Rattle.dns_zone.specs.declared.cuts.Standing.TheVariants.{Cut, Owner, Nothing}
use Rattle.dns_zone.specs.Cuts.{cut_records, is_cut_off}
use Rattle.dns_zone.specs.ZoneIndex.{places_in}
use Rattle.dns_zone.specs.Owned.{ZoneState, is_asked}
use Rattle.dns_zone.specs.Places.{Kinds, at_places, places}

-- what is owned, if there is something
abbrev pub OwnsSo : Option Kinds → Standing → Type 0
OwnsSo kinds (Cut servers) = ⊥
OwnsSo kinds (Owner owned) = kinds ≡ Some owned.now
OwnsSo kinds Nothing = kinds ≡ None

-- what a name owns, by the types
abbrev pub Owns : ZoneState → List (List ℕ) → Option Kinds → Type 0
Owns z name kinds = (t : ℕ) → places_in t kinds ≡ places (is_asked name t) z.records

-- where a name stands: cut off, with the records of its cut, or at or below no cut, with what it owns
abbrev pub StandsSo : ZoneState → List (List ℕ) → Standing → Type 0
StandsSo z name (Cut servers) = (is_cut_off z name ≡ true) × (at_places z.records servers.now ≡ cut_records z name)
StandsSo z name (Owner owned) = (is_cut_off z name ≡ false) × Owns z name (Some owned.now)
StandsSo z name Nothing = (is_cut_off z name ≡ false) × Owns z name None

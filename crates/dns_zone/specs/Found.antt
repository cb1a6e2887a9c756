-- What an alias leads to, as places in a zone's list.
use Rattle.std.specs.Prelude.{ℕ, ◌≡◌, ◌<◌, List, [], length, Option, Some, None}
use Rattle.dns_message.specs.declared.record.Record.{Record}
use Rattle.dns_zone.specs.declared.aliases.Lead.{Lead}
use Rattle.dns_zone.specs.declared.aliases.Lead.TheVariants.{Alias, Found, Nowhere}
use Rattle.dns_zone.specs.Owned.{ZoneState, is_asked, target}
use Rattle.dns_zone.specs.Aliases.{followed, gone_on}
use Rattle.dns_zone.specs.Places.{at_places, places}

-- the name that the data of a record is, if there is one
abbrev pub target_of : Option Record → Option (List (List ℕ))
target_of None = None
target_of (Some r) = target r.rdata

-- the places of the CNAMEs that a name owns, of which there are some
pub record AreAliases (z : ZoneState) (name : List (List ℕ)) (is : List ℕ) : Type 0 where
  pub places : is ≡ places (is_asked name 5) z.records
  pub some : 0 < length is

-- what an alias with a target leads to, if a type is asked for, however many CNAMEs may still be given: further aliases,
-- records, or nothing
abbrev pub TargetLeadsTo : ZoneState → ℕ → Option (List (List ℕ)) → Lead → Type 0
TargetLeadsTo z t target (Alias next) = (name : List (List ℕ)) × AreAliases z name next.now
    × ((k : ℕ) → gone_on z (followed z t k) target ≡ followed z t k name)
TargetLeadsTo z t target (Found is) = (k : ℕ) → gone_on z (followed z t k) target ≡ at_places z.records is.now
TargetLeadsTo z t target Nowhere = (k : ℕ) → gone_on z (followed z t k) target ≡ []

-- How the places of a name are stored.
use Rattle.std.specs.Prelude.{◌≡◌, List}
use Rattle.std.specs.List.{list_any}
use Rattle.dns_zone_tree.specs.TypedPlaces.{is_kind}
use Rattle.dns_zone_tree.specs.declared.kinds.TypedPlace.{TypedPlace}
use Rattle.dns_zone_tree.specs.declared.places.Marks.{Marks}
use Rattle.dns_zone_tree.specs.declared.places.Stored.{Stored}
use Rattle.dns_zone_tree.specs.declared.places.Stored.TheVariants.{Few, Many}

pub record Places : Type 0 where
  pub items : List TypedPlace

abbrev pub places_stored : Stored → Places
places_stored (Few m v) = record { items = v.items }
places_stored (Many m v) = record { items = v.items }

-- what is kept of places: whether there are NS and DNAME records
pub record IsMarked (m : Marks) (ks : List TypedPlace) : Type 0 where
  pub servers : m.servers ≡ list_any (is_kind 2) ks
  pub dname : m.dname ≡ list_any (is_kind 39) ks

abbrev pub AreMarked : Stored → Type 0
AreMarked (Few m v) = IsMarked m v.items
AreMarked (Many m v) = IsMarked m v.items

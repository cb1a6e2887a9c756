-- The places of the records of one name, with their types.
pub use Rattle.dns_zone_tree.specs.TypedPlaces.{is_kind, places_of}
use Rattle.std.specs.Prelude.{ℕ, List, [], Option, Some, None}
use Rattle.dns_zone_tree.specs.declared.kinds.Kinds.{Kinds}

abbrev pub kind_places : ℕ → Kinds → List ℕ
kind_places t m = places_of t m.places.items

abbrev pub places_in : ℕ → Option Kinds → List ℕ
places_in t None = []
places_in t (Some m) = kind_places t m

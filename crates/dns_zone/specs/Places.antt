-- The places of records in a list, and how places are kept by types.
use Rattle.std.specs.Prelude.{ℕ, suc, Bool, false, List, [], ◌∷◌, if◌then◌else◌, Option, Some, None}
use Rattle.std.specs.List.{filter_map, slice_get}
use Rattle.std.specs.Ordering.{nat_cmp}
use Rattle.std.specs.BTreeMap.{BTreeMap, get}
use Rattle.std.specs.declared.vec.Vec.{Vec}
use Rattle.std.specs.declared.alloc.Global.{Global}
use Rattle.dns_message.specs.declared.record.Record.{Record}

-- the places of the records that pass a test, if the list begins at a place
abbrev pub places_from : (Record → Bool) → ℕ → List Record → List ℕ
places_from p i [] = []
places_from p i (r ∷ rs) = if p r then i ∷ places_from p (suc i) rs else places_from p (suc i) rs

abbrev pub places : (Record → Bool) → List Record → List ℕ
places p rs = places_from p 0 rs

-- the records at places
abbrev pub at_places : List Record → List ℕ → List Record
at_places rs is = filter_map (slice_get rs) is

-- whether there is a record, and it passes a test
abbrev pub passes : (Record → Bool) → Option Record → Bool
passes p None = false
passes p (Some r) = p r

-- places by types: under 255 those of any type
abbrev pub Kinds : Type 0
Kinds = BTreeMap ℕ (Vec ℕ Global)

abbrev pub kept_places : Option (Vec ℕ Global) → List ℕ
kept_places None = []
kept_places (Some v) = v.items

abbrev pub kind_places : ℕ → Kinds → List ℕ
kind_places t m = kept_places (get nat_cmp m t)

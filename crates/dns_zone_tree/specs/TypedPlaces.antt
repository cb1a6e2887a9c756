-- Places of records, with their types.
use Rattle.std.specs.Prelude.{ℕ, Bool, ◌||◌, List, [], ◌∷◌, map, nat_eq, Option, None}
use Rattle.std.specs.List.{filter, slice_get}
use Rattle.dns_message.specs.declared.record.Record.{Record}
use Rattle.dns_zone_tree.specs.declared.kinds.TypedPlace.{TypedPlace}

-- whether a place is that of a record of a type: type 255 asks for any (RFC 1035, section 3.2.3)
abbrev pub is_kind : ℕ → TypedPlace → Bool
is_kind t k = nat_eq t 255 || nat_eq k.rtype t

-- the places of a type, in order
abbrev pub places_of : ℕ → List TypedPlace → List ℕ
places_of t ks = map (λ (k : TypedPlace). k.place) (filter (is_kind t) ks)

-- the record at the first of some places, if there is one
abbrev pub head_record : List Record → List TypedPlace → Option Record
head_record rs [] = None
head_record rs (k ∷ ks) = slice_get rs k.place

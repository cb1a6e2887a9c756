-- What a zone keeps besides its records: their places, by the path of the owner and by the type, and the SOA record of negative
-- answers.
use Rattle.std.specs.Prelude.{ℕ, ◌≡◌, Bool, ◌||◌, ◌&&◌, List, [], ◌∷◌, ◌++◌, ◌==◌, if◌then◌else◌, nat_eq, is_some, Option, Some, None, map, IsTrue}
use Rattle.std.specs.List.{AllByRecursion, filter, list_any, starts_with}
use Rattle.std.specs.Str.{bytes_eq}
use Rattle.std.specs.Ordering.{nat_cmp}
use Rattle.std.specs.Cmp.Lexicographic.{slice_cmp}
use Rattle.std.specs.BTreeMap.{get_by}
use Rattle.std.specs.declared.vec.Vec.{Vec}
use Rattle.std.specs.declared.alloc.Global.{Global}
use Rattle.dns_message.specs.declared.record.Record.{Record}
use Rattle.dns_route.specs.Routes.{ends_name}
use Rattle.dns_zone.specs.declared.name_places.NamePlaces.{NamePlaces}
use Rattle.dns_zone.specs.Owned.{AreLawful, HasTypedData, is_of}
use Rattle.dns_zone.specs.Paths.{name_path}
use Rattle.dns_zone.specs.Places.{Kinds, kind_places, places}
use Rattle.dns_zone.specs.ZoneReply.{negative_soa}

-- what is kept under octets
abbrev pub kinds_under : NamePlaces → List ℕ → Option Kinds
kinds_under n o = get_by (λ (k : Vec ℕ Global). slice_cmp nat_cmp o k.items) n.kinds

abbrev pub places_in : ℕ → Option Kinds → List ℕ
places_in t None = []
places_in t (Some m) = kind_places t m

abbrev pub places_under : NamePlaces → List ℕ → ℕ → List ℕ
places_under n o t = places_in t (kinds_under n o)

-- whether octets are the path of a record's owner
abbrev pub is_at : List ℕ → Record → Bool
is_at o r = bytes_eq o (name_path r.owner)

-- whether octets are the path of a record's owner, and its type is asked for
abbrev pub stands_under : List ℕ → ℕ → Record → Bool
stands_under o t r = is_at o r && (nat_eq t 255 || is_of t r)

-- whether the path of a record's owner begins with octets
abbrev pub begins_at : List ℕ → Record → Bool
begins_at o r = starts_with ◌==◌ (name_path r.owner) o

-- a place more is kept, of a type under octets
pub record Puts (old : NamePlaces) (o : List ℕ) (rtype place : ℕ) (new : NamePlaces) : Type 0 where
  pub kept : (p : List ℕ) (t : ℕ) → places_under new p t
      ≡ (if bytes_eq p o && (nat_eq t 255 || nat_eq rtype t) then places_under old p t ++ place ∷ [] else places_under old p t)
  pub alone : (p : List ℕ) → is_some (kinds_under new p) ≡ (bytes_eq p o || is_some (kinds_under old p))

-- the places of all records are kept, and nothing under other octets
pub record KnowsPlaces (n : NamePlaces) (rs : List Record) : Type 0 where
  pub kept : (o : List ℕ) (t : ℕ) → places_under n o t ≡ places (stands_under o t) rs
  pub alone : (o : List ℕ) → is_some (kinds_under n o) ≡ list_any (is_at o) rs

abbrev pub IsInZone : List (List ℕ) → Record → Type 0
IsInZone apex r = IsTrue (ends_name r.owner apex)

-- the path of an apex, records of typed data within it, their places, and the SOA record of negative answers
pub record IsZone (apex : List (List ℕ)) (path : List ℕ) (rs : List Record) (n : NamePlaces) (negative : Record) : Type 0 where
  pub lawful : AreLawful rs
  pub typed : AllByRecursion HasTypedData rs
  pub within : AllByRecursion (IsInZone apex) rs
  pub known : KnowsPlaces n rs
  pub path_is : path ≡ name_path apex
  pub soa : map negative_soa (filter (is_of 6) rs) ≡ negative ∷ []

-- the path of a name within an apex
pub record IsSought (apex : List (List ℕ)) (o : List ℕ) : Type 0 where
  pub name : List (List ℕ)
  pub is : o ≡ name_path name
  pub within : IsTrue (ends_name name apex)

-- The index of a zone: the keys of the names that own records, one after another, and a node for each in the order of the keys.
-- They compare as names do in the canonical order (RFC 4034, section 6.1). A name above one of them needs no node: its key begins
-- theirs.
use Rattle.std.specs.Prelude.{ℕ, ◌≡◌, Bool, true, false, ◌&&◌, not, List, [], ◌∷◌, ◌++◌, length, take, map, nat_eq, nat_le, if◌then◌else◌, Option, Some, None}
use Rattle.std.specs.List.{AllByRecursion, filter, list_any, slice_range}
use Rattle.std.specs.List.Sorted.{IsPartitionPoint}
use Rattle.std.specs.Ordering.{is_lt, nat_cmp}
use Rattle.std.specs.Cmp.Lexicographic.{slice_cmp}
use Rattle.std.specs.Str.{bytes_eq}
use Rattle.dns_zone_tree.specs.Kinds.{places_in}
use Rattle.dns_zone_tree.specs.declared.kinds.Kinds.{Kinds}
use Rattle.dns_zone_tree.specs.declared.kinds.TypedPlace.{TypedPlace}
use Rattle.dns_zone_tree.specs.declared.names.Keyed.{Keyed}
use Rattle.dns_zone_tree.specs.declared.names.Node.{Node}
use Rattle.dns_zone_tree.specs.declared.names.Span.{Span}

-- the octets of a key; none if it doesn't lie among the octets
abbrev pub key_of : List ℕ → Span → List ℕ
key_of o s = if nat_le s.start s.end && nat_le s.end (length o) then slice_range o s.start s.end else []

-- whether a key comes before another
abbrev pub is_below : List ℕ → List ℕ → Bool
is_below p q = is_lt (slice_cmp nat_cmp p q)

-- whether a key begins with octets
abbrev pub begins : List ℕ → List ℕ → Bool
begins p key = bytes_eq p (take (length p) key)

-- ---- records

-- whether octets are the key of a record's owner
abbrev pub is_at : List ℕ → List ℕ → Keyed → Bool
is_at o p k = bytes_eq (key_of o k.span) p

-- the types and places of the records of a key, in order
abbrev pub typed_at : List ℕ → List ℕ → List Keyed → List TypedPlace
typed_at o p ks = map (λ (k : Keyed). k.kind) (filter (is_at o p) ks)

-- whether the key of a record's owner begins with octets
abbrev pub begins_keyed : List ℕ → List ℕ → Keyed → Bool
begins_keyed o p k = begins p (key_of o k.span)

abbrev pub is_lower : List ℕ → Keyed → Keyed → Bool
is_lower o a b = is_below (key_of o a.span) (key_of o b.span)

-- whether the next key, if there is one, is another
abbrev pub is_last : List ℕ → List ℕ → List Keyed → Bool
is_last o p [] = true
is_last o p (k ∷ ks) = not (bytes_eq p (key_of o k.span))

-- ---- nodes

-- whether a node comes before a key
abbrev pub is_before : List ℕ → List ℕ → Node → Bool
is_before o p n = is_below (key_of o n.span) p

abbrev pub begins_node : List ℕ → List ℕ → Node → Bool
begins_node o p n = begins p (key_of o n.span)

-- each node comes before those after it
abbrev pub AreOrdered : List ℕ → List Node → Type 0
AreOrdered o [] = Unit {0}
AreOrdered o (n ∷ ns) = AllByRecursion (λ (m : Node). is_before o (key_of o m.span) n ≡ true) ns × AreOrdered o ns

-- how many nodes come before a key; they are the first ones
abbrev pub IsCountBefore : List ℕ → List ℕ → List Node → ℕ → Type 0
IsCountBefore o p ns count = IsPartitionPoint (λ (n : Node). is_before o p n ≡ true) (λ (n : Node). is_before o p n ≡ false) ns count

-- whether one of some octets is `*`
abbrev pub has_star : List ℕ → Bool
has_star o = list_any (nat_eq 42) o

-- nodes in order, and whether a key has an octet `*`
pub record IsIndex (o : List ℕ) (ns : List Node) (stars : Bool) : Type 0 where
  pub ordered : AreOrdered o ns
  pub starred : stars ≡ has_star o

-- the types and places of the nodes of a key
abbrev pub noded_at : List ℕ → List ℕ → List Node → List TypedPlace
noded_at o p [] = []
noded_at o p (n ∷ ns) = (if bytes_eq (key_of o n.span) p then n.kinds.places.items else []) ++ noded_at o p ns

-- nodes of records: they have the same types and places, and begin alike
pub record IsJoined (o : List ℕ) (ks : List Keyed) (ns : List Node) : Type 0 where
  pub kept : (p : List ℕ) → noded_at o p ns ≡ typed_at o p ks
  pub there : (p : List ℕ) → list_any (begins_node o p) ns ≡ list_any (begins_keyed o p) ks
  pub ordered : AreOrdered o ns

-- ---- the index

pub record Names : Type 0 where
  pub octets : List ℕ
  pub nodes : List Node
  pub none : Kinds

-- what is kept of a key: what is there if a node's key is it, and nothing if that only begins with it
abbrev pub kinds_by : List ℕ → List ℕ → Kinds → Kinds → Option Kinds
kinds_by own p kinds none = if bytes_eq own p then Some kinds else (if begins p own then Some none else None)

abbrev pub node_kinds : List ℕ → Kinds → List ℕ → Node → Option Kinds
node_kinds o none p n = kinds_by (key_of o n.span) p n.kinds none

-- the first node whose key begins with octets
abbrev pub kinds_among : List ℕ → Kinds → List ℕ → List Node → Option Kinds
kinds_among o none p [] = None
kinds_among o none p (n ∷ ns) = if begins_node o p n then node_kinds o none p n else kinds_among o none p ns

-- what is kept under octets
abbrev pub kinds_under : Names → List ℕ → Option Kinds
kinds_under n p = kinds_among n.octets n.none p n.nodes

abbrev pub places_under : Names → List ℕ → ℕ → List ℕ
places_under n p t = places_in t (kinds_under n p)

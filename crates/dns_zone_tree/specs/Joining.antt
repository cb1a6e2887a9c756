-- How nodes are made of records that are sorted by keys, one after another.
use Rattle.std.specs.Prelude.{ℕ, ◌≡◌, true, false, ◌||◌, List, [], ◌∷◌, ◌++◌, if◌then◌else◌}
use Rattle.std.specs.List.{AllByRecursion, list_any}
use Rattle.dns_zone_tree.specs.Nodes.{AreOrdered, begins_keyed, begins_node, is_at, is_before, is_lower, key_of, noded_at, typed_at}
use Rattle.dns_zone_tree.specs.declared.kinds.TypedPlace.{TypedPlace}
use Rattle.dns_zone_tree.specs.declared.names.Keyed.{Keyed}
use Rattle.dns_zone_tree.specs.declared.names.Node.{Node}

-- no key comes before the one in front of it
abbrev pub AreRising : List ℕ → List Keyed → Type 0
AreRising o [] = Unit {0}
AreRising o (x ∷ []) = Unit {0}
AreRising o (x ∷ y ∷ ks) = (is_lower o y x ≡ false) × AreRising o (y ∷ ks)

-- all nodes come before a key
abbrev pub AreBefore : List ℕ → List ℕ → List Node → Type 0
AreBefore o p ns = AllByRecursion (λ (n : Node). is_before o p n ≡ true) ns

-- all keys of nodes are before the key of the next record, if there is one
abbrev pub AreBeforeFirst : List ℕ → List Node → List Keyed → Type 0
AreBeforeFirst o ns [] = Unit {0}
AreBeforeFirst o ns (k ∷ ks) = AreBefore o (key_of o k.span) ns

-- places without a node are of the key of the next record
abbrev pub open_at : List ℕ → List ℕ → List TypedPlace → List Keyed → List TypedPlace
open_at o p ms [] = []
open_at o p ms (k ∷ ks) = if is_at o p k then ms else []

-- nodes so far, places without a node, and the records that are left, of all records
pub record IsJoining (o : List ℕ) (all : List Keyed) (ns : List Node) (ms : List TypedPlace) (ks : List Keyed) : Type 0 where
  pub kept : (p : List ℕ) → noded_at o p ns ++ (open_at o p ms ks ++ typed_at o p ks) ≡ typed_at o p all
  pub there : (p : List ℕ) → (list_any (begins_node o p) ns || list_any (begins_keyed o p) ks) ≡ list_any (begins_keyed o p) all
  pub ordered : AreOrdered o ns
  pub before : AreBeforeFirst o ns ks
  pub rising : AreRising o ks

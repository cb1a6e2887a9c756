-- What is found of a name on the way down from the apex.
use Rattle.std.specs.Prelude.{ℕ, ◌≡◌, ◌<◌, Bool, true, false, ◌&&◌, not, nat_eq, List, [], drop, length, is_some, Option}
use Rattle.dns_zone.specs.Owned.{ZoneState, is_asked}
use Rattle.dns_zone.specs.Places.{at_places, places}
use Rattle.dns_zone.specs.ZoneReply.{exists}
use Rattle.dns_zone_tree.specs.Kinds.{kind_places, places_in}
use Rattle.dns_zone_tree.specs.Regions.{Within, BelowCut, BelowDname, asked_region}
use Rattle.dns_zone_tree.specs.Wildcards.{encloser}
use Rattle.dns_zone_tree.specs.declared.kinds.Kinds.{Kinds}
use Rattle.dns_zone_tree.specs.declared.walk.Walk.{Walk}
use Rattle.dns_zone_tree.specs.declared.walk.Walk.TheVariants.{Cut, Dname, Node, Missing}

-- what is kept of a name that exists, if it does
pub record IsNode (z : ZoneState) (name : List (List ℕ)) (o : Option Kinds) : Type 0 where
  pub kept : (t : ℕ) → places_in t o ≡ places (is_asked name t) z.records
  pub there : is_some o ≡ exists z name

-- whether a name that many labels above the one that is asked for may be a cut: DS at a cut is the parent's
abbrev pub may_cut : ℕ → ℕ → Bool
may_cut left t = not (nat_eq left 0 && nat_eq t 43)

-- a name that may be a cut has NS records, or none
pub record HasServers (left t : ℕ) (m : Kinds) : Type 0 where
  pub may : may_cut left t ≡ true
  pub some : 0 < length (kind_places 2 m)

abbrev pub HasNoServers : ℕ → ℕ → Kinds → Type 0
HasNoServers left t m = (may_cut left t ≡ true) → kind_places 2 m ≡ []

-- the name lies within, and is a node
pub record ReachesNode (z : ZoneState) (t : ℕ) (name : List (List ℕ)) (m : Kinds) : Type 0 where
  pub region : asked_region z t name ≡ Within
  pub exists_ : exists z name ≡ true
  pub kept : (u : ℕ) → kind_places u m ≡ places (is_asked name u) z.records

-- the name lies within and doesn't exist; its closest encloser is after that many labels
pub record ReachesNone (z : ZoneState) (t : ℕ) (name : List (List ℕ)) (skipped : ℕ) : Type 0 where
  pub region : asked_region z t name ≡ Within
  pub missing : exists z name ≡ false
  pub encloser_ : encloser z name ≡ drop skipped name

-- what a walk to a name ends at, if a type is asked for
abbrev pub EndsAt : ZoneState → ℕ → List (List ℕ) → Walk → Type 0
EndsAt z t name (Cut m) = asked_region z t name ≡ BelowCut (at_places z.records (kind_places 2 m.now))
EndsAt z t name (Dname m) = (asked_region z t name ≡ BelowDname (at_places z.records (kind_places 39 m.now)))
    × (0 < length (kind_places 39 m.now))
EndsAt z t name (Node m) = ReachesNode z t name m.now
EndsAt z t name (Missing n) = ReachesNone z t name n

-- What the index of a zone says of its records: where those of a name are, and which names exist.
use Rattle.std.specs.Prelude.{ℕ, ◌≡◌, ◌≤◌, Bool, true, List, [], ◌∷◌, Some, None, is_some, length, map}
use Rattle.std.specs.Str.{bytes_eq}
use Rattle.std.specs.List.{AllByRecursion, filter, list_any, position}
use Rattle.dns_base.specs.Msg.{ResourceRecord}
use Rattle.dns_base.specs.Records.{record_of}
use Rattle.dns_message.specs.declared.record.Record.{Record}
use Rattle.dns_name.specs.Canonical.{same_name}
use Rattle.dns_order.specs.Keys.{canonical_key}
use Rattle.dns_route.specs.Routes.{ends_name}
use Rattle.dns_zone.specs.ZoneIndex.{IsInZone}
use Rattle.dns_zone.specs.Owned.{AreLawful, is_asked, is_of}
use Rattle.dns_zone.specs.Places.{places}
use Rattle.dns_zone.specs.ZoneReply.{negative_soa}
use Rattle.dns_zone_tree.specs.Kinds.{kind_places, places_of}
use Rattle.dns_zone_tree.specs.Long.{is_long}
use Rattle.dns_zone_tree.specs.Referrals.{AreReferrals}
use Rattle.dns_zone_tree.specs.Nodes.{Names, begins_keyed, key_of, kinds_under, places_under, typed_at}
use Rattle.dns_zone_tree.specs.TreeErrors.{keys_size}
use Rattle.dns_zone_tree.specs.TypedPlaces.{head_record}
use Rattle.dns_zone_tree.specs.declared.kinds.Kinds.{Kinds}
use Rattle.dns_zone_tree.specs.declared.names.Keyed.{Keyed}
use Rattle.dns_zone_tree.specs.declared.names.Node.{Node}
use Rattle.dns_zone_tree.specs.declared.referrals.Referral.{Referral}

-- keys of records: each lies among the octets, which have no others
pub record IsKeyed (o : List ℕ) (ks : List Keyed) (rs : List Record) : Type 0 where
  pub kept : (name : List (List ℕ)) (t : ℕ) → places_of t (typed_at o (canonical_key name) ks) ≡ places (is_asked name t) rs
  pub there : (name : List (List ℕ)) → list_any (begins_keyed o (canonical_key name)) ks
      ≡ list_any (λ (r : Record). ends_name r.owner name) rs
  pub within : AllByRecursion (λ (k : Keyed). k.span.end ≤ length o) ks
  pub size : length o ≡ keys_size rs

-- the places of all records, and that each owner and each name above one exists
pub record KnowsNames (n : Names) (rs : List Record) : Type 0 where
  pub kept : (name : List (List ℕ)) (t : ℕ) → places_under n (canonical_key name) t ≡ places (is_asked name t) rs
  pub there : (name : List (List ℕ)) → is_some (kinds_under n (canonical_key name)) ≡ list_any (λ (r : Record). ends_name r.owner name) rs

-- the key of a node is that of the owner of its first record
abbrev pub IsHeaded : List ℕ → List Record → Node → Type 0
IsHeaded o rs n = (r : Record) → Some r ≡ head_record rs n.kinds.places.items → bytes_eq (key_of o n.span) (canonical_key r.owner) ≡ true

-- the owner of a node's first record is a name
abbrev pub IsOwnedBy : List Record → Node → List (List ℕ) → Type 0
IsOwnedBy rs n name = (r : Record) × (Some r ≡ head_record rs n.kinds.places.items) × (same_name r.owner name ≡ true)

-- Records within an apex that aren't long, their index, and the places of the apex's records. The negative SOA record, also in wire
-- form, and referrals. Whether the keys of nodes were compared with the owners of their records.
pub record IsTree (apex : List (List ℕ)) (rs : List Record) (n : Names) (top : Kinds) (negative : Record)
    (denial : List ResourceRecord) (referrals : List Referral) (headed : Bool) : Type 0 where
  pub lawful : AreLawful rs
  pub within : AllByRecursion (IsInZone apex) rs
  pub short : position is_long rs ≡ None
  pub known : KnowsNames n rs
  pub top_ : (t : ℕ) → kind_places t top ≡ places (is_asked apex t) rs
  pub soa : map negative_soa (filter (is_of 6) rs) ≡ negative ∷ []
  pub denied : denial ≡ record_of negative ∷ []
  pub referred : AreReferrals (record { apex = apex; records = rs }) referrals
  pub heads : headed ≡ true → AllByRecursion (IsHeaded n.octets rs) n.nodes

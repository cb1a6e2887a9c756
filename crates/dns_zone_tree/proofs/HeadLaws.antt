-- A node is found by the owner of its first record.
use Rattle.std.proofs.Common.{◌≡◌, ℕ, true, List, Option, Some, None, refl, ap, sym, subst, ◌∙◌}
use Rattle.std.specs.Prelude.{IfSome}
use Rattle.std.specs.Borrow.{Bor}
use Rattle.std.specs.Cmp.Lexicographic.{bytes_decides}
use Rattle.std.specs.List.{AllByRecursion, slice_get}
use Rattle.std.specs.Str.{bytes_eq}
use Rattle.dns_message.specs.declared.record.Record.{Record}
use Rattle.dns_order.proofs.BeginLaws.{keys_are_names}
use Rattle.dns_order.specs.Keys.{canonical_key}
use Rattle.dns_zone.specs.Owned.{ZoneState}
use Rattle.dns_zone_tree.specs.Names.{IsHeaded, IsOwnedBy, KnowsNames}
use Rattle.dns_zone_tree.specs.Nodes.{AreOrdered, Names, key_of}
use Rattle.dns_zone_tree.specs.Walks.{IsNode}
use Rattle.dns_zone_tree.specs.declared.kinds.Kinds.{Kinds}
use Rattle.dns_zone_tree.specs.declared.names.Node.{Node}
use Rattle.dns_zone_tree.proofs.DownLaws.{node_of}
use Rattle.dns_zone_tree.proofs.SearchLaws.{all_got, own_among}

pub same_some : {A : Type 0} (a b : A) → Some a ≡ Some b → a ≡ b
same_some a b e = cc

pub headed_node : (z : ZoneState) (n : Names) → KnowsNames n z.records → AreOrdered n.octets n.nodes → AllByRecursion (IsHeaded n.octets z.records) n.nodes → (i : ℕ) (x : Node) → slice_get n.nodes i ≡ Some x → (name : List (List ℕ)) → IsOwnedBy z.records x name → IsNode z name (Some x.kinds)
headed_node z n known ordered heads i x g name own =
    let h : bytes_eq (key_of n.octets x.span) (canonical_key own.0.owner) ≡ true = all_got (IsHeaded n.octets z.records) n.nodes i x heads g own.0 own.1 in
    let k : canonical_key own.0.owner ≡ canonical_key name = (bytes_decides (canonical_key own.0.owner) (canonical_key name)).0 (keys_are_names own.0.owner name ∙ own.2) in
    let e : bytes_eq (key_of n.octets x.span) (canonical_key name) ≡ true = ap (bytes_eq (key_of n.octets x.span)) (sym k) ∙ h in
    node_of z n known name (canonical_key name) (Some x.kinds) refl (sym (own_among n.octets n.none (canonical_key name) x n.nodes i ordered g e))

-- what a node keeps is what is kept of the name that owns its records
pub if_owned : (z : ZoneState) (x : Node) (name : List (List ℕ)) (rs : List Record) → rs ≡ z.records → (IsOwnedBy z.records x name → IsNode z name (Some x.kinds)) → (o : Option (Bor Kinds)) → IfSome o (λ m. (m.now ≡ x.kinds) × IsOwnedBy rs x name) → IfSome o (λ m. IsNode z name (Some m.now))
if_owned z x name rs e f None h = tt
if_owned z x name rs e f (Some m) h =
    subst (λ (k : Kinds). IsNode z name (Some k)) (sym h.0) (f (subst (λ (l : List Record). IsOwnedBy l x name) e h.1))

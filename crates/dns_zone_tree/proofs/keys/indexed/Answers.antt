use Rattle.std.proofs.Common.{ℕ, List, refl, ap, sym, subst, ◌∙◌}
use Rattle.std.specs.List.Sorted.{IsSortedBy, IsStableBy}
use Rattle.dns_zone_tree.specs.Nodes.{AreOrdered, IsJoined, Names, has_star, is_lower}
use Rattle.dns_zone_tree.specs.declared.names.Keyed.{Keyed}
use Rattle.dns_zone_tree.proofs.KeyedLaws.{knows_names}
use Rattle.dns_zone_tree.proofs.keys.indexed.Goals as goal

pub joined-requires : goal.joined-requires
joined-requires c =
    subst (λ (l : List Keyed). IsSortedBy (is_lower c.as_slice-2.result.now) l) (sym c.as_slice-3.ensures.value)
    (subst (λ (l : List ℕ). IsSortedBy (is_lower l) c.sort_keys.new.keyed.items) (c.as_slice.ensures.value ∙ sym c.as_slice-2.ensures.value) c.in_ok-sort_keys.ensures.sorted)

pub invariant_of-result : goal.invariant_of-result
invariant_of-result c = record {
  ordered = subst (λ (l : List ℕ). AreOrdered l c.in_ok-nodes.nodes.items) c.as_slice-2.ensures.value c.in_ok-nodes.ensures.ordered;
  starred = c.has_star-stars.ensures ∙ ap has_star c.as_slice-4.ensures.value;
}

pub returns : goal.returns
returns c = λ rs h.
    let o = c.args.keys.octets.items in
    let ks = c.args.keys.keyed.items in
    let js = c.sort_keys.new.keyed.items in
    let stable : IsStableBy (is_lower o) ks js = subst (λ (l : List ℕ). IsStableBy (is_lower l) ks js) c.as_slice.ensures.value c.sort_keys.ensures.stable in
    let n : Names = record { octets = o; nodes = c.in_ok-nodes.nodes.items; none = c.new-none.result } in
    let joined : IsJoined o js n.nodes =
    subst (λ (l : List Keyed). IsJoined o l n.nodes) c.as_slice-3.ensures.value (subst (λ (l : List ℕ). IsJoined l c.as_slice-3.result.now n.nodes) c.as_slice-2.ensures.value c.in_ok-nodes.ensures) in
    knows_names o ks js c.sort_keys.ensures.same stable rs h n joined refl c.new-none.ensures

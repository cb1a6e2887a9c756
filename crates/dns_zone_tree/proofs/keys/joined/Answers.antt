use Rattle.std.proofs.Common.{List, subst}
use Rattle.std.proofs.lemmas.List.{nil_from_length}
use Rattle.dns_zone_tree.specs.Joining.{IsJoining}
use Rattle.dns_zone_tree.specs.declared.names.Keyed.{Keyed}
use Rattle.dns_zone_tree.proofs.JoinLaws.{joining_first, joining_last}
use Rattle.dns_zone_tree.proofs.keys.joined.Goals as goal

pub each-init : goal.each-init
each-init c = joining_first c.args.octets.now c.args.keyed.now c.in_ok-joining.joining.nodes.items c.in_ok-joining.joining.pending.places.items c.in_ok-joining.ensures.nodes c.in_ok-joining.ensures.pending c.requires

pub each-preserved : goal.each-preserved
each-preserved c =
    c.in_ok-push.ensures c.args.keyed.now
    (subst (λ (l : List Keyed). IsJoining c.args.octets.now c.args.keyed.now c.each.joining.nodes.items c.each.joining.pending.places.items l) c.in-Some.ensures.cases.0 c.each.invariant)

pub returns : goal.returns
returns c =
    joining_last c.args.octets.now c.args.keyed.now c.each.left.now c.each.joining.nodes.items c.each.joining.pending.places.items (nil_from_length c.each.left.now c.in_default.ensures.cases) c.each.invariant

use Rattle.std.proofs.Common.{◌≡◌, true, ap, sym, subst, ◌∙◌, arith}
use Rattle.std.specs.List.{AllByRecursion}
use Rattle.std.proofs.lemmas.Grind.{common_steps}
use Rattle.dns_zone.specs.Owned.{ZoneState}
use Rattle.dns_zone_tree.specs.Names.{IsHeaded, KnowsNames}
use Rattle.dns_zone_tree.proofs.HeadLaws.{headed_node, if_owned}
use Rattle.dns_zone_tree.proofs.zone_tree.ZoneTree.kinds_if.Goals as goal

pub returns-in-Some : goal.returns-in-Some
returns-in-Some c =
    let z = c.args.self.now in
    let n = c.self.inside.names in
    let x = c.in-Some.node.now in
    let known = subst (λ (y : ZoneState). KnowsNames n y.records) c.self.view_is c.self.invariant.known in
    let b : c.self.inside.headed ≡ true = grind (arith, common_steps) in
    let heads = subst (λ (y : ZoneState). AllByRecursion (IsHeaded n.octets y.records) n.nodes) c.self.view_is (c.self.invariant.heads b) in
    if_owned z x c.args.name.now c.as_slice.result.now (c.as_slice.ensures.value ∙ ap (λ (y : ZoneState). y.records) c.self.view_is)
    (headed_node z n known c.node.ensures.ordered heads c.args.place x (sym c.in-Some.ensures.node) c.args.name.now) c.kinds_by.result c.kinds_by.ensures

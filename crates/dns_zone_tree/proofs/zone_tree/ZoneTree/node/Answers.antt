use Rattle.std.proofs.Common.{subst, ◌∙◌}
use Rattle.std.specs.Option.{option_copied}
use Rattle.dns_zone.specs.Owned.{ZoneState}
use Rattle.dns_zone_tree.specs.Names.{KnowsNames}
use Rattle.dns_zone_tree.proofs.DownLaws.{node_of}
use Rattle.dns_zone_tree.proofs.zone_tree.ZoneTree.node.Goals as goal

pub returns : goal.returns
returns c =
    let known = subst (λ (z : ZoneState). KnowsNames c.self.inside.names z.records) c.self.view_is c.self.invariant.known in
    node_of c.args.self.now c.self.inside.names known c.args.name.now c.as_slice.result.now (option_copied c.kinds_at.result) (c.as_slice.ensures.value ∙ c.in_ok-key.ensures) c.kinds_at.ensures

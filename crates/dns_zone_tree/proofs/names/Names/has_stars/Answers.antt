use Rattle.std.proofs.Common.{◌≡◌, false, ap, sym, ◌∙◌}
use Rattle.dns_zone_tree.specs.Nodes.{Names, has_star}
use Rattle.dns_zone_tree.proofs.StarLaws.{none_starred}
use Rattle.dns_zone_tree.proofs.names.Names.has_stars.Goals as goal

pub returns : goal.returns
returns c = λ e key k.
    let z = c.args.self.now in
    let clear : has_star z.octets ≡ false = sym (ap (λ (x : Names). has_star x.octets) c.self.view_is) ∙ (sym c.self.invariant.starred ∙ e) in
    none_starred z.octets z.none key clear k z.nodes

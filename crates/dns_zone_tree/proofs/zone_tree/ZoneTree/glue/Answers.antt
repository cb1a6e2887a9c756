use Rattle.std.proofs.Common.{◌≡◌, List, ap, ◌∙◌}
use Rattle.dns_zone.specs.Cuts.{glue}
use Rattle.dns_zone.specs.Places.{at_places}
use Rattle.dns_zone.proofs.GlueLaws.{glue_of}
use Rattle.dns_zone_tree.specs.Kinds.{kind_places, places_of}
use Rattle.dns_zone_tree.specs.declared.kinds.TypedPlace.{TypedPlace}
use Rattle.dns_zone_tree.proofs.KeptLaws.{if_ok}
use Rattle.dns_zone_tree.proofs.zone_tree.ZoneTree.glue.Goals as goal

pub returns : goal.returns
returns c =
    let z = c.args.self.now in
    let e : at_places z.records c.in_ok-addresses.addresses.keys ≡ glue z (at_places z.records (kind_places 2 c.args.cut.now)) =
    glue_of z c.in_ok-addresses.addresses (places_of 2 c.as_slice.result.now) c.in_order.ensures.ordered c.in_ok-addresses.ensures ∙ ap (λ (ks : List TypedPlace). glue z (at_places z.records (places_of 2 ks))) c.as_slice.ensures in
    if_ok (λ v. v.items ≡ c.in_ok-addresses.addresses.keys) (λ v. at_places z.records v.items ≡ glue z (at_places z.records (kind_places 2 c.args.cut.now))) c.in_order.result c.in_order.ensures.value
    (λ v f. ap (at_places z.records) f ∙ e)

use Rattle.std.proofs.Common.{◌≡◌, ℕ, List, [], false, ap, subst, ◌∙◌}
use Rattle.dns_route.specs.Routes.{ends_name}
use Rattle.dns_zone.specs.Owned.{ZoneState}
use Rattle.dns_zone_tree.specs.Walks.{EndsAt}
use Rattle.dns_zone_tree.specs.declared.walk.Walk.{Walk}
use Rattle.dns_hashed_reply.proofs.ChoiceLaws.{adds_none, for_one}
use Rattle.dns_hashed_reply.proofs.MissingLaws.{dname_fine, dname_places}
use Rattle.dns_hashed_reply.proofs.denials.add_name.Goals as goal

pub walk-requires : goal.walk-requires
walk-requires c = ap (λ (z : ZoneState). ends_name c.args.name.now z.apex) c.zone-tree.ensures ∙ c.requires

ends : (y z : ZoneState) (t : ℕ) (name : List (List ℕ)) (found w : Walk) → EndsAt y t name found → y ≡ z → found ≡ w → EndsAt z t name w
ends y z t name found w h e f = subst (EndsAt z t name) f (subst (λ (x : ZoneState). EndsAt x t name found) e h)

pub add_node-requires : goal.add_node-requires
add_node-requires c = record {
  inside = c.requires;
  reached = ends c.zone-tree.result.now c.args.zone.now.zone c.args.rtype c.args.name.now c.in_ok-found.found _ c.in_ok-found.ensures c.zone-tree.ensures c.in-Node.is;
}

pub add_missing-requires : goal.add_missing-requires
add_missing-requires c = record {
  inside = c.requires;
  reached = ends c.zone-tree.result.now c.args.zone.now.zone c.args.rtype c.args.name.now c.in_ok-found.found _ c.in_ok-found.ensures c.zone-tree.ensures c.in-Missing.is;
}

pub returns-in-Cut : goal.returns-in-Cut
returns-in-Cut c = c.add_cut.ensures c.args.rtype c.args.name.now (ends c.zone-tree.result.now c.args.zone.now.zone c.args.rtype c.args.name.now c.in_ok-found.found _ c.in_ok-found.ensures c.zone-tree.ensures c.in-Cut.is)

pub returns-in-Dname : goal.returns-in-Dname
returns-in-Dname c =
    let s = c.args.zone.now in
    let t = c.args.rtype in
    let name = c.args.name.now in
    let old = c.args.chosen.now in
    let e = ends c.zone-tree.result.now s.zone t name c.in_ok-found.found _ c.in_ok-found.ensures c.zone-tree.ensures c.in-Dname.is in
    for_one s t old old name false [] (dname_fine s t name _ e.0) (dname_places s t name _ e.0) (adds_none old)

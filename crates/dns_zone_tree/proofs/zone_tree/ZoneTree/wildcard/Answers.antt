use Rattle.std.proofs.Common.{◌≡◌, ◌∷◌, false, refl, subst, ◌∙◌, arith}
use Rattle.std.specs.Option.{option_copied}
use Rattle.std.specs.Prelude.{None}
use Rattle.std.proofs.lemmas.Grind.{common_steps}
use Rattle.dns_order.specs.Keys.{canonical_key}
use Rattle.dns_zone.specs.Owned.{ZoneState}
use Rattle.dns_zone_tree.specs.Names.{KnowsNames}
use Rattle.dns_zone_tree.specs.Wildcards.{star}
use Rattle.dns_zone_tree.proofs.DownLaws.{node_of}
use Rattle.dns_zone_tree.proofs.StarLaws.{star_starred}
use Rattle.dns_zone_tree.proofs.zone_tree.ZoneTree.wildcard.Goals as goal

pub returns-then-not-has_stars : goal.returns-then-not-has_stars
returns-then-not-has_stars c =
    let known = subst (λ (z : ZoneState). KnowsNames c.self.inside.names z.records) c.self.view_is c.self.invariant.known in
    let key = canonical_key (star ∷ c.args.above.now) in
    let b : c.has_stars.result ≡ false = grind (arith, common_steps) in
    node_of c.args.self.now c.self.inside.names known (star ∷ c.args.above.now) key None refl (c.has_stars.ensures b key (star_starred c.args.above.now))

pub returns : goal.returns
returns c =
    let known = subst (λ (z : ZoneState). KnowsNames c.self.inside.names z.records) c.self.view_is c.self.invariant.known in
    node_of c.args.self.now c.self.inside.names known (star ∷ c.args.above.now) c.as_slice.result.now (option_copied c.kinds_at.result) (c.as_slice.ensures.value ∙ c.in_ok-key.ensures) c.kinds_at.ensures

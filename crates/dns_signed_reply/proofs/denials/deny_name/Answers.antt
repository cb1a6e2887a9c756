use Rattle.std.proofs.Common.{ap, subst, ◌∙◌}
use Rattle.dns_route.specs.Routes.{ends_name}
use Rattle.dns_zone.specs.Owned.{ZoneState}
use Rattle.dns_zone_tree.specs.Walks.{EndsAt}
use Rattle.dns_signed_reply.proofs.denials.deny_name.Goals as goal

pub walk-requires : goal.walk-requires
walk-requires c = ap (λ (z : ZoneState). ends_name c.args.name.now z.apex) c.zone-tree.ensures ∙ c.requires

pub deny_found-requires : goal.deny_found-requires
deny_found-requires c = record {
  inside = c.requires;
  ends = subst (λ (z : ZoneState). EndsAt z c.args.rtype c.args.name.now c.in_ok-found.found) c.zone-tree.ensures c.in_ok-found.ensures;
}

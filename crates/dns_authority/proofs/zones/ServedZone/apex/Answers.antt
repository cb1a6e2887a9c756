use Rattle.std.proofs.Common.{ap, ◌∙◌}
use Rattle.dns_zone.specs.Owned.{ZoneState}
use Rattle.dns_authority.specs.Authorities.{ServedState}
use Rattle.dns_authority.proofs.zones.ServedZone.apex.Goals as goal

pub returns : goal.returns
returns c = c.apex.ensures ∙ (ap (λ (z : ZoneState). z.apex) c.tree.ensures ∙ ap (λ (s : ServedState). s.zone.apex) c.self.view_is)

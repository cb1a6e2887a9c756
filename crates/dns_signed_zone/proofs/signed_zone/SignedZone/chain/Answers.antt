use Rattle.std.proofs.Common.{ap, subst}
use Rattle.dns_zone.specs.Owned.{ZoneState}
use Rattle.dns_denial.specs.Chains.{IsWhole}
use Rattle.dns_signed_zone.specs.SignedZones.{SignedState}
use Rattle.dns_signed_zone.proofs.signed_zone.SignedZone.chain.Goals as goal

pub returns-clause-whole : goal.returns-clause-whole
returns-clause-whole c = subst (λ (z : ZoneState). IsWhole z c.self.inside.chain) (ap (λ (s : SignedState). s.zone) c.self.view_is) c.self.invariant

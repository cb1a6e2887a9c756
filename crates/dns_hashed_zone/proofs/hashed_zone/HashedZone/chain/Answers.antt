use Rattle.std.proofs.Common.{ap, subst}
use Rattle.dns_zone.specs.Owned.{AreLawful}
use Rattle.dns_denial.specs.Nsec3.{IsWhole3}
use Rattle.dns_hashed_zone.specs.HashedStates.{HashedState, joined}
use Rattle.dns_hashed_zone.proofs.hashed_zone.HashedZone.chain.Goals as goal

pub returns-clause-whole : goal.returns-clause-whole
returns-clause-whole c = subst (λ (s : HashedState). IsWhole3 s.zone s.hashing c.self.inside.chain) c.self.view_is c.self.invariant.signed.whole

pub returns-clause-lawful : goal.returns-clause-lawful
returns-clause-lawful c = subst (λ (s : HashedState). AreLawful (joined s.groups)) c.self.view_is c.self.invariant.signed.lawful

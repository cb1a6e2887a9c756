use Rattle.std.proofs.Common.{ap, length, ◌∙◌}
use Rattle.dns_hashed_zone.specs.HashedStates.{HashedState, all_records}
use Rattle.dns_hashed_zone.proofs.hashed_zone.HashedZone.record_count.Goals as goal

pub returns : goal.returns
returns c = c.self.invariant.counted ∙ ap (λ (s : HashedState). length (all_records s)) c.self.view_is

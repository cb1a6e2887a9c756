use Rattle.std.proofs.Common.{subst, ◌∙◌}
use Rattle.dns_zone.specs.ZoneIndex.{KnowsPlaces}
use Rattle.dns_zone.specs.Owned.{ZoneState}
use Rattle.dns_zone.proofs.KeepLaws.{behind_name}
use Rattle.dns_zone.proofs.zone.Zone.has.Goals as goal

pub returns : goal.returns
returns c = λ name e.
    let known = subst (λ (z : ZoneState). KnowsPlaces c.self.inside.names z.records) c.self.view_is c.self.invariant.known in
    c.has_behind.ensures c.args.self.now.records known ∙ behind_name c.args.self.now.records c.args.path.now.items name e

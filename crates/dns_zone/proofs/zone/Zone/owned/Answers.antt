use Rattle.std.proofs.Common.{subst}
use Rattle.dns_zone.specs.ZoneIndex.{KnowsPlaces}
use Rattle.dns_zone.specs.Owned.{ZoneState}
use Rattle.dns_zone.proofs.KeepLaws.{owned_of}
use Rattle.dns_zone.proofs.zone.Zone.owned.Goals as goal

pub returns : goal.returns
returns c = λ name e.
    let known = subst (λ (z : ZoneState). KnowsPlaces c.self.inside.names z.records) c.self.view_is c.self.invariant.known in
    owned_of c.self.inside.names c.args.self.now.records c.args.path.now name c.args.rtype c.find.result known e c.find.ensures

use Rattle.std.proofs.Common.{ap, subst, ◌∙◌}
use Rattle.dns_zone.specs.ZoneIndex.{KnowsPlaces, places_in}
use Rattle.dns_zone.specs.Owned.{ZoneState}
use Rattle.dns_zone.proofs.KeepLaws.{places_asked}
use Rattle.dns_zone.proofs.zone.Zone.kinds_of.Goals as goal

pub returns : goal.returns
returns c = λ name e t.
    let known = subst (λ (z : ZoneState). KnowsPlaces c.self.inside.names z.records) c.self.view_is c.self.invariant.known in
    ap (places_in t) c.kinds_at.ensures ∙ places_asked c.self.inside.names c.args.self.now.records c.args.path.now name t known e

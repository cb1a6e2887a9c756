use Rattle.dns_zone.proofs.BuildLaws.{negative_lawful}
use Rattle.dns_zone_tree.proofs.zone_tree.ZoneTree.negative.Goals as goal

pub returns-clause-lawful : goal.returns-clause-lawful
returns-clause-lawful c = negative_lawful c.self.inside.records.items c.self.inside.negative c.self.invariant.lawful c.self.invariant.soa

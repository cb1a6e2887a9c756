use Rattle.dns_zone.proofs.BuildLaws.{none_pushed}
use Rattle.dns_zone.proofs.sections.add_place.Goals as goal

pub returns-in-None : goal.returns-in-None
returns-in-None g c = none_pushed g.B.TakesRecords.section (g.B.TakesRecords.built c.args.builder.now) c.args.records.now c.args.place c.in-None.ensures.lookup.3 c.requires.short

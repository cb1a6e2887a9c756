use Rattle.std.proofs.Common.{[], ◌∷◌, ap}
use Rattle.dns_zone.specs.Places.{at_places}
use Rattle.dns_zone_tree.specs.Kinds.{places_of}
use Rattle.dns_zone_tree.proofs.KindLaws.{record_got, record_lawful}
use Rattle.dns_zone_tree.proofs.kinds.TypedPlace.record.Goals as goal

pub returns-in-Some-clause-value : goal.returns-in-Some-clause-value
returns-in-Some-clause-value c = record_got c.args.records.now (places_of c.args.rtype (c.args.self.now ∷ [])) c.in-Some.place c.record_at.result c.in-Some.ensures c.record_at.ensures

pub returns-in-Some-clause-lawful : goal.returns-in-Some-clause-lawful
returns-in-Some-clause-lawful c = record_lawful c.args.records.now c.in-Some.place c.record_at.result c.record_at.ensures

pub returns-in-None-clause-value : goal.returns-in-None-clause-value
returns-in-None-clause-value c = ap (at_places c.args.records.now) c.in-None.ensures

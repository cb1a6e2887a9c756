use Rattle.std.proofs.Common.{map}
use Rattle.std.proofs.lemmas.Result.{err_from_is_err_and}
use Rattle.dns_base.specs.Builds.{with_records}
use Rattle.dns_base.specs.Records.{record_of}
use Rattle.dns_zone.specs.Places.{at_places}
use Rattle.dns_zone.proofs.BuildLaws.{place_refused}
use Rattle.dns_zone.proofs.sections.add_places.Goals as goal

pub returns-in_err-add_place : goal.returns-in_err-add_place
returns-in_err-add_place g c =
    let p = err_from_is_err_and c.from_residual.result c.from_residual.ensures.1 in
    let s = g.B.TakesRecords.section in
    let b = g.B.TakesRecords.built c.each.builder in
    let new = g.B.TakesRecords.built c.add_place.new.builder in
    rw (p.1, p.2) (place_refused s b new new c.args.records.now c.args.places.now c.each.place-index (with_records s (g.B.TakesRecords.built c.args.builder.now) (map record_of (at_places c.args.records.now c.args.places.now))) c.in_err-add_place.field-0.0 c.each-test.true c.in_err-add_place.ensures c.each.invariant.same)

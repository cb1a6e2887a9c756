use Rattle.std.proofs.Common.{take_all, subst, ◌∙◌, arith}
use Rattle.std.specs.List.{AllByRecursion}
use Rattle.dns_zone.specs.ZoneIndex.{KnowsPlaces}
use Rattle.dns_zone.specs.Owned.{HasNamedData}
use Rattle.dns_zone.proofs.KeepLaws.{next_known}
use Rattle.dns_zone.proofs.TypedLaws.{next_named}
use Rattle.dns_zone.proofs.listing.names_of.Goals as goal

pub each-preserved : goal.each-preserved
each-preserved c = record {
  known = next_known c.each.names c.put.new.self c.args.records.now c.each.place c.index-records-place.result c.in_ok-path.path.items c.to_int.result c.each.invariant.known c.each-test.true c.index-records-place.is c.in_ok-path.ensures
      (c.to_int.ensures.value ∙ c.rtype.ensures) c.in_ok-put.ensures;
  named = next_named c.args.records.now c.each.place c.index-records-place.result c.each.invariant.named c.each-test.true c.index-records-place.is c.data_has_names.ensures;
}

pub returns-clause-known : goal.returns-clause-known
returns-clause-known c = subst (KnowsPlaces c.each.names) (take_all c.each.place c.args.records.now (omega arith)) c.each.invariant.known

pub returns-clause-named : goal.returns-clause-named
returns-clause-named c = subst (AllByRecursion HasNamedData) (take_all c.each.place c.args.records.now (omega arith)) c.each.invariant.named

use Rattle.std.proofs.Common.{ℕ, List, [], map, ap, take_all, ◌∙◌, arith}
use Rattle.dns_base.specs.Records.{record_of}
use Rattle.dns_zone.specs.Places.{at_places}
use Rattle.dns_zone_tree.proofs.WireLaws.{add_next}
use Rattle.dns_zone_tree.proofs.wire.wire_places.Goals as goal

pub each-preserved : goal.each-preserved
each-preserved c = add_next c.args.records.now c.args.places.now c.each.place-index [] c.each.all c.add_place.new.into c.each-test.true c.each.invariant c.in_ok-add_place.ensures

pub returns : goal.returns
returns c = c.each.invariant ∙ ap (λ (x : List ℕ). map record_of (at_places c.args.records.now x)) (take_all c.each.place-index c.args.places.now (omega arith))

use Rattle.std.proofs.Common.{[], arith}
use Rattle.dns_zone.specs.Places.{at_places}
use Rattle.dns_signed_reply.proofs.LoopLaws.{all_added, one_more, places_joined}
use Rattle.dns_signed_reply.proofs.records.at_places.Goals as goal

pub each-preserved : goal.each-preserved
each-preserved c =
    one_more (at_places c.args.records.now) (places_joined c.args.records.now) c.args.places.now c.each.place-index _ [] c.each.found.items c.add_place.new.into.items c.each-test.true c.each.invariant c.in_ok-add_place.ensures

pub returns : goal.returns
returns c = all_added (at_places c.args.records.now) c.args.places.now c.each.place-index [] c.each.found.items (omega arith) c.each.invariant

use Rattle.std.proofs.Common.{List, [], arith}
use Rattle.dns_zone.specs.Places.{at_places}
use Rattle.dns_zone_tree.specs.Kinds.{places_of}
use Rattle.dns_zone_tree.specs.declared.kinds.TypedPlace.{TypedPlace}
use Rattle.dns_signed_reply.proofs.LoopLaws.{all_added, kinds_joined, one_more}
use Rattle.dns_signed_reply.proofs.records.at_kinds.Goals as goal

pub each-preserved : goal.each-preserved
each-preserved c =
    one_more (λ (ks : List TypedPlace). at_places c.args.records.now (places_of c.args.rtype ks)) (kinds_joined c.args.records.now c.args.rtype) c.args.kinds.now c.each.kind-index _ [] c.each.found.items c.add_kind.new.into.items c.each-test.true c.each.invariant c.in_ok-add_kind.ensures

pub returns : goal.returns
returns c = all_added (λ (ks : List TypedPlace). at_places c.args.records.now (places_of c.args.rtype ks)) c.args.kinds.now c.each.kind-index [] c.each.found.items (omega arith) c.each.invariant

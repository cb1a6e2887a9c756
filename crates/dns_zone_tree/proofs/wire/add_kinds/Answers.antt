use Rattle.std.proofs.Common.{List, ◌++◌, map, append-nil, ap, sym, take_all, ◌∙◌, arith}
use Rattle.dns_base.specs.Records.{record_of}
use Rattle.dns_zone.specs.Places.{at_places}
use Rattle.dns_zone_tree.specs.Kinds.{places_of}
use Rattle.dns_zone_tree.specs.declared.kinds.TypedPlace.{TypedPlace}
use Rattle.dns_zone_tree.proofs.WireLaws.{kinds_next}
use Rattle.dns_zone_tree.proofs.wire.add_kinds.Goals as goal

pub each-init : goal.each-init
each-init c = sym (append-nil c.args.into.now)

pub each-preserved : goal.each-preserved
each-preserved c = kinds_next c.args.records.now c.args.rtype c.args.kinds.now c.each.kind-index _ c.args.into.now c.each.into c.add_kind.new.into c.each-test.true c.each.invariant c.in_ok-add_kind.ensures

pub returns : goal.returns
returns c = c.each.invariant ∙ ap (λ (x : List TypedPlace). c.args.into.now ++ map record_of (at_places c.args.records.now (places_of c.args.rtype x))) (take_all c.each.kind-index c.args.kinds.now (omega arith))

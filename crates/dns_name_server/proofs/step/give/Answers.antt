use Rattle.std.proofs.Common.{List, ◌++◌, map, append-nil, ap, sym, take_all, ◌∙◌, arith}
use Rattle.dns_base.specs.Records.{record_of}
use Rattle.dns_zone.specs.Places.{at_places}
use Rattle.dns_zone_tree.specs.Kinds.{places_of}
use Rattle.dns_zone_tree.specs.Wildcards.{given_as}
use Rattle.dns_zone_tree.specs.declared.kinds.TypedPlace.{TypedPlace}
use Rattle.dns_name_server.proofs.StepLaws.{give_next}
use Rattle.dns_name_server.proofs.step.give.Goals as goal

pub each-init : goal.each-init
each-init c = sym (append-nil c.args.given.now)

pub each-preserved : goal.each-preserved
each-preserved c = give_next c.args.records.now c.args.name.now c.args.rtype c.args.kinds.now c.each.kind-index _ c.args.given.now c.each.given c.give_one.new.given c.each-test.true c.each.invariant c.in_ok-give_one.ensures

pub returns : goal.returns
returns c = c.each.invariant ∙ ap (λ (x : List TypedPlace). c.args.given.now ++ map record_of (map (given_as c.args.name.now) (at_places c.args.records.now (places_of c.args.rtype x)))) (take_all c.each.kind-index c.args.kinds.now (omega arith))

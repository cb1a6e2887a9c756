use Rattle.std.proofs.Common.{List, sym, ◌∙◌, arith}
use Rattle.std.proofs.lemmas.List.{at_drop_all}
use Rattle.dns_zone.specs.Places.{at_places}
use Rattle.dns_zone_tree.specs.Kinds.{places_of}
use Rattle.dns_zone_tree.specs.declared.kinds.TypedPlace.{TypedPlace}
use Rattle.dns_name_server.specs.Steps.{head_of}
use Rattle.dns_name_server.proofs.StepLaws.{head_found, head_passed}
use Rattle.dns_signed_reply.proofs.records.first_of.Goals as goal

pub returns-in-Some : goal.returns-in-Some
returns-in-Some c = head_found c.args.records.now c.args.rtype c.args.kinds.now c.each.kind-index _ c.each-test.true c.in-Some.record.now c.in-Some.ensures.value ∙ c.each.invariant

pub each-preserved : goal.each-preserved
each-preserved c = head_passed c.args.records.now c.args.rtype c.args.kinds.now c.each.kind-index _ c.each-test.true c.in_default.ensures.value ∙ c.each.invariant

pub returns : goal.returns
returns c = sym (at_drop_all (λ (x : List TypedPlace). head_of (at_places c.args.records.now (places_of c.args.rtype x))) c.args.kinds.now c.each.kind-index (omega arith)) ∙ c.each.invariant

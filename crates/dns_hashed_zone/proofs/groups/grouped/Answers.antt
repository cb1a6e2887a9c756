use Rattle.std.proofs.Common.{◌≡◌, ℕ, ◌+◌, ◌<◌, List, [], ◌∷◌, ◌++◌, length, refl, ap, subst, sym, ◌∙◌, arith}
use Rattle.std.proofs.lemmas.Iterator.Adapters.{YieldsList-from_vec}
use Rattle.std.proofs.lemmas.Iterator.Consumers.{YieldsList-end, YieldsList-turn}
use Rattle.std.proofs.lemmas.List.{map-id}
use Rattle.dns_message.specs.declared.record.Record.{Record}
use Rattle.dns_hashed_zone.specs.HashedStates.{AreGroupsOf, items_of}
use Rattle.dns_hashed_zone.specs.MadeHashed.{GivesPlace, HasAt}
use Rattle.dns_hashed_zone.proofs.GroupLaws.{AreGroupedAs, items_length, none_grouped, one_grouped, place_in, unowned_at}
use Rattle.dns_hashed_zone.proofs.groups.grouped.Goals as goal

pub each-init : goal.each-init
each-init c = (tt, tt, none_grouped c.args.apex.now c.args.nsecs.now (items_of c.in_ok-groups.groups.items) (length c.args.nsecs.now) c.in_ok-groups.ensures refl)

pub add_to-requires : goal.add_to-requires
add_to-requires c = omega (arith, place_in c.args.apex.now c.args.nsecs.now c.each.yielded c.each.groups.items c.each.at c.in-Some-2.place c.in-Some.resource (rw c.in-Some-2.is at c.in_ok-place.ensures) c.each.invariant.2, c.each.groups.ok)

pub returns-in-None-2 : goal.returns-in-None-2
returns-in-None-2 c =
    let given = c.into_iter-resource-iterator.ensures.into_iter_gives in
    let many : c.into_iter-resource-iterator.result.rest.len ≡ length c.args.hashed.items = omega (arith, given.1, c.args.hashed.ok) in
    let t = YieldsList-turn (YieldsList-from_vec c.args.hashed.items given.0 many) c.each.yielded c.each.resource-iterator c.each.yielded_by c.next.result c.next.new.self c.in-Some.resource c.in-Some.is c.next.ensures.steps in
    unowned_at c.args.apex.now c.args.nsecs.now c.args.hashed.items c.each.yielded (items_of c.each.groups.items) c.each.at c.in-Some.resource t (rw c.in-None-2.is at c.in_ok-place.ensures) c.each.invariant.2

pub each-preserved : goal.each-preserved
each-preserved c =
    let p = rw c.in-Some-2.is at c.in_ok-place.ensures in
    let l = place_in c.args.apex.now c.args.nsecs.now c.each.yielded c.each.groups.items c.each.at c.in-Some-2.place c.in-Some.resource p c.each.invariant.2 in (
      tt,
      tt,
      subst (λ (gs : List (List Record)). AreGroupedAs c.args.apex.now c.args.nsecs.now (c.each.yielded ++ c.in-Some.resource ∷ []) gs (c.each.at + 1)) (sym c.in_ok-add_to-in-Some-2.ensures)
          (one_grouped c.args.apex.now c.args.nsecs.now c.each.yielded (items_of c.each.groups.items) c.each.at c.in-Some-2.place c.in-Some.resource (omega (arith, l, items_length c.each.groups.items)) p c.each.invariant.2),
    )

pub returns : goal.returns
returns c =
    let given = c.into_iter-resource-iterator.ensures.into_iter_gives in
    let many : c.into_iter-resource-iterator.result.rest.len ≡ length c.args.hashed.items = omega (arith, given.1, c.args.hashed.ok) in
    let ends = YieldsList-end (YieldsList-from_vec c.args.hashed.items given.0 many) c.each.yielded c.each.resource-iterator c.each.yielded_by c.next.result c.next.new.self c.in-None.is c.next.ensures.steps in
    let all : c.each.yielded ≡ c.args.hashed.items = sym (map-id c.each.yielded) ∙ ends.0 in
    subst (λ (rs : List Record). AreGroupsOf c.args.apex.now c.args.nsecs.now rs (items_of c.each.groups.items)) all c.each.invariant.2.of

use Rattle.std.proofs.Common.{◌≡◌, List, length, ap, subst, sym, ◌∙◌, arith}
use Rattle.std.proofs.lemmas.Iterator.Adapters.{YieldsList-from_vec}
use Rattle.std.proofs.lemmas.Iterator.Consumers.{YieldsList-end}
use Rattle.std.proofs.lemmas.List.{map-id}
use Rattle.dns_message.specs.declared.record.Record.{Record}
use Rattle.dns_hashed_zone.specs.HashedStates.{ArePartsOf}
use Rattle.dns_hashed_zone.proofs.GroupLaws.{one_parted}
use Rattle.dns_hashed_zone.proofs.groups.parted.Goals as goal

pub each-preserved : goal.each-preserved
each-preserved c =
    (tt, tt, one_parted c.each.yielded c.each.named.items c.each.hashed.items c.part.new.named.items c.part.new.hashed.items c.in-Some.resource c.in_ok-part.ensures.named c.in_ok-part.ensures.hashed c.each.invariant.2)

pub returns : goal.returns
returns c =
    let given = c.into_iter-resource-iterator.ensures.into_iter_gives in
    let many : c.into_iter-resource-iterator.result.rest.len ≡ length c.args.records.items = omega (arith, given.1, c.args.records.ok) in
    let ends = YieldsList-end (YieldsList-from_vec c.args.records.items given.0 many) c.each.yielded c.each.resource-iterator c.each.yielded_by c.next.result c.next.new.self c.in-None.is c.next.ensures.steps in
    let all : c.each.yielded ≡ c.args.records.items = sym (map-id c.each.yielded) ∙ ends.0 in
    subst (λ (rs : List Record). ArePartsOf rs c.each.named.items c.each.hashed.items) all c.each.invariant.2

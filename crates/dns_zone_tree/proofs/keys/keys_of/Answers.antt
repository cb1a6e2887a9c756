use Rattle.std.proofs.Common.{length, ap, ◌∙◌, arith}
use Rattle.dns_order.specs.Keys.{canonical_key}
use Rattle.dns_zone_tree.proofs.KeyedLaws.{keyed_all, keying_next, keying_none, large_keys}
use Rattle.dns_zone_tree.proofs.keys.keys_of.Goals as goal

pub each-init : goal.each-init
each-init c = keying_none c.in_ok-keys.keys.octets.items c.in_ok-keys.keys.keyed.items c.args.records.now c.in_ok-keys.ensures.octets c.in_ok-keys.ensures.keyed

pub push-requires-clause-size : goal.push-requires-clause-size
push-requires-clause-size c = omega (arith, c.each.invariant.room, ap length c.as_slice.ensures.value)

pub push-requires-clause-place : goal.push-requires-clause-place
push-requires-clause-place c = omega (arith, c.requires, c.each-test.true)

pub returns-then-len : goal.returns-then-len
returns-then-len c = λ z.
    large_keys c.args.records.now c.each.place c.index-records-place.result c.each.keys.octets.items (length c.in_ok-key.key.items) c.each-test.true c.index-records-place.is c.each.invariant.keyed.size (ap length (c.in_ok-key.ensures ∙ ap canonical_key c.for_ref.ensures.value)) (omega arith)

pub each-preserved : goal.each-preserved
each-preserved c = keying_next c.args.records.now c.each.place c.index-records-place.result c.each.keys.octets.items c.each.keys.keyed.items c.as_slice.result.now c.to_int.result c.push.new.self.octets.items c.push.new.self.keyed.items
    c.each-test.true c.index-records-place.is (c.as_slice.ensures.value ∙ (c.in_ok-key.ensures ∙ ap canonical_key c.for_ref.ensures.value)) (c.to_int.ensures.value ∙ c.rtype.ensures) c.in_ok-push.ensures.octets c.in_ok-push.ensures.keyed (omega arith) c.each.invariant

pub returns : goal.returns
returns c = keyed_all c.each.keys.octets.items c.each.keys.keyed.items c.args.records.now c.each.place (omega arith) c.requires c.each.invariant

use Rattle.std.proofs.Common.{length, sym, arith}
use Rattle.std.proofs.lemmas.Bool.{eqb-false, eqb-true}
use Rattle.dns_nsec_data.proofs.BlockLaws.{all_read, one_read, stuck}
use Rattle.dns_nsec_data.proofs.bit_maps.types_in.Goals as goal

pub returns-in_default : goal.returns-in_default
returns-in_default c =
    let e = eqb-false (length c.each.left.now) 0 (sym c.each-test.ensures) in
    stuck c.args.octets.now c.each.left.now c.each.low c.each.types.items c.each.invariant (omega (arith, e)) c.in_default.ensures

pub each-preserved : goal.each-preserved
each-preserved c =
    one_read c.args.octets.now c.each.left.now c.each.low c.each.types.items c.in-Some.block.window c.in-Some.block.bitmap.now c.in-Some.block.left.now c.push_types.new.types.items
    c.each.invariant c.in-Some.ensures c.in_ok-push_types.ensures

pub returns : goal.returns
returns c = all_read c.args.octets.now c.each.left.now c.each.low c.each.types.items c.each.invariant (eqb-true (length c.each.left.now) 0 (sym c.each-test.ensures))

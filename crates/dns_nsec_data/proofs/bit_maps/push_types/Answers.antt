use Rattle.dns_nsec_data.proofs.BitLaws.{bits_more}
use Rattle.dns_nsec_data.proofs.bit_maps.push_types.Goals as goal

pub loop-bit-preserved : goal.loop-bit-preserved
loop-bit-preserved c =
    bits_more c.args.types.now.items c.loop-bit.types.items c.push_bit.new.types.items c.args.bitmap.now c.args.first c.loop-bit.bit c.loop-bit.invariant c.in_ok-push_bit.ensures

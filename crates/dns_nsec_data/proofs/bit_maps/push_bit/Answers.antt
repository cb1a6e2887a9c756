use Rattle.dns_nsec_data.proofs.BitLaws.{bit_clear, bit_set}
use Rattle.dns_nsec_data.proofs.bit_maps.push_bit.Goals as goal

pub returns-then-not-has_bit : goal.returns-then-not-has_bit
returns-then-not-has_bit c = bit_clear c.args.types.now.items c.args.bitmap.now c.args.first c.args.bit c.if-not-has_bit.ensures

pub returns : goal.returns
returns c = bit_set c.args.types.now.items c.push.new.self.items c.args.bitmap.now c.args.first c.args.bit c.if-not-has_bit.ensures c.in_ok-push.ensures.items

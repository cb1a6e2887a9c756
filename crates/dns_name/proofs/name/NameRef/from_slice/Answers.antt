use Rattle.std.proofs.Common.{sym, arith}
use Rattle.dns_name.proofs.Whole.{whole_spelt}
use Rattle.dns_name.proofs.name.NameRef.from_slice.Goals as goal

pub invariant_of-result : goal.invariant_of-result
invariant_of-result c = (whole_spelt c.args.octets.now c.in_ok-end.end (sym c.in_ok-end.ensures.value) (omega arith)).0

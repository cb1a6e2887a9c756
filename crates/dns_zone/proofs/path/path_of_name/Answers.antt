use Rattle.std.proofs.Common.{length, ap, arith}
use Rattle.dns_zone.proofs.CutLaws.{path_length}
use Rattle.dns_zone.proofs.path.path_of_name.Goals as goal

pub overflow_sub-as_slice : goal.overflow_sub-as_slice
overflow_sub-as_slice c = omega (arith, ap length c.as_slice.ensures.value, path_length c.args.name.now)

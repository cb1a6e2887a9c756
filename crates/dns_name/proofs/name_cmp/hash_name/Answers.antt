use Rattle.std.proofs.Common.{arith}
use Rattle.dns_name.proofs.Sames.{all_fed}
use Rattle.dns_name.proofs.name_cmp.hash_name.Goals as goal

pub returns : goal.returns
returns g c = all_fed g.H.Hasher.write c.args.state.now c.write_usize.new.self c.octets.state c.octets.octet-index c.as_slice-octets.result.now c.args.name.now c.as_slice-octets.ensures.value c.as_slice-octets.ensures.named (omega arith) c.write_usize.ensures c.octets.invariant

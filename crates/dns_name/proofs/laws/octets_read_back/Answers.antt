use Rattle.std.proofs.Common.{arith}
use Rattle.dns_name.proofs.TextsBack.{octets_back}
use Rattle.dns_name.proofs.laws.octets_read_back.Goals as goal

pub returns : goal.returns
returns c = λ ls e n. octets_back ls c.args.octets.now e n (λ k. let h = c.type_inv.octets k in omega arith)

use Rattle.dns_kinds.proofs.Readable.{small_is}
use Rattle.dns_kinds.proofs.mask.prefix.Goals as goal

pub returns-clause-fits : goal.returns-clause-fits
returns-clause-fits c = small_is c.args.octets.now (λ k. (c.type_inv.octets k).fits)

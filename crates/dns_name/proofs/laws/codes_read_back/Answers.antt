use Rattle.dns_name.proofs.CodesBack.{codes_back}
use Rattle.dns_name.proofs.laws.codes_read_back.Goals as goal

pub returns : goal.returns
returns c = codes_back

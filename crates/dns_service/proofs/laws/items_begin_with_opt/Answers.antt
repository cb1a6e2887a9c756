use Rattle.dns_service.proofs.AskedLaws.{begin_with_opt}
use Rattle.dns_service.proofs.laws.items_begin_with_opt.Goals as goal

pub returns : goal.returns
returns c = begin_with_opt

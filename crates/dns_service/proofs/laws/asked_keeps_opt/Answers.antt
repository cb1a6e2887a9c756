use Rattle.dns_service.proofs.AskedLaws.{keeps_opt}
use Rattle.dns_service.proofs.laws.asked_keeps_opt.Goals as goal

pub returns : goal.returns
returns c = keeps_opt

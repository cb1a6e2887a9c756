use Rattle.dns_forward.proofs.ForwardLaws.{forwards_so}
use Rattle.dns_forward.proofs.laws.relaying_services_forward.Goals as goal

pub returns : goal.returns
returns g c = λ us rs e. forwards_so g.S.SingleService.answer us rs e

use Rattle.dns_denial.proofs.AcceptedLaws.{each_absence}
use Rattle.dns_denial.proofs.laws.each_absence_is_proved.Goals as goal

pub returns : goal.returns
returns c = each_absence

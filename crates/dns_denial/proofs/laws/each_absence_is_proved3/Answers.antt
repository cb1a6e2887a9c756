use Rattle.dns_denial.proofs.Accepted3Laws.{each_absence3}
use Rattle.dns_denial.proofs.laws.each_absence_is_proved3.Goals as goal

pub returns : goal.returns
returns c = each_absence3

use Rattle.dns_replies.proofs.CutLaws.{all_fit, all_lawful}
use Rattle.dns_replies.proofs.cutting.cut_fits.Goals as goal

pub returns-clause-fits : goal.returns-clause-fits
returns-clause-fits c = all_fit

pub returns-clause-lawful : goal.returns-clause-lawful
returns-clause-lawful c = all_lawful

use Rattle.dns_option_list.proofs.JoinedLaws.{one_more}
use Rattle.dns_option_list.proofs.laws.push_adds_one_pair.Goals as goal

pub returns : goal.returns
returns c = one_more

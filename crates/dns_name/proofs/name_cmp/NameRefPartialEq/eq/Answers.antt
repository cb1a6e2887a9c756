use Rattle.std.proofs.Common.{rules}
use Rattle.dns_name.proofs.Sames.{is_same_name}
use Rattle.dns_name.proofs.name_cmp.NameRefPartialEq.eq.Goals as goal

pub returns : goal.returns
returns c = search (rules, is_same_name)

use Rattle.std.proofs.Common.{rules}
use Rattle.dns_name.proofs.Sames.{is_same_name_by}
use Rattle.dns_name.proofs.parsed.ParsedNamePartialEq.eq.Goals as goal

pub returns : goal.returns
returns c = search (rules, is_same_name_by)

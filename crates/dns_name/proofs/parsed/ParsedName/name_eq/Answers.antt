use Rattle.std.proofs.Common.{rules}
use Rattle.dns_name.proofs.Sames.{is_same_name_by}
use Rattle.dns_name.proofs.parsed.ParsedName.name_eq.Goals as goal

pub returns-clause-same : goal.returns-clause-same
returns-clause-same c = search (rules, is_same_name_by)

use Rattle.std.proofs.Common.{sym, true}
use Rattle.dns_name.proofs.Whole.{read_on}
use Rattle.dns_name.proofs.parsed.ParsedName.at.Goals as goal

pub invariant_of-result : goal.invariant_of-result
invariant_of-result c = read_on c.args.message.now (record { limit = c.args.limit; pointers = true }) c.args.at c.in_ok-end.end (sym c.in_ok-end.ensures.value) c.requires.first c.requires.limited

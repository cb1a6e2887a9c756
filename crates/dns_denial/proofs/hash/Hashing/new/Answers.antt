use Rattle.std.proofs.Common.{refl, rules, tests}
use Rattle.dns_denial.proofs.hash.Hashing.new.Goals as goal

pub returns : goal.returns
returns c = record { allowed = search (tests, rules); is = refl }

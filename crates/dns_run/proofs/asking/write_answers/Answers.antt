use Rattle.std.proofs.Common.{rules}
use Rattle.dns_flood.specs.CachedRules.{cache_text}
use Rattle.dns_run.specs.Asking.{asked_text}
use Rattle.dns_run.proofs.asking.write_answers.Goals as goal

-- src/asking.rt:113:1
pub returns-clause-observed : goal.returns-clause-observed
unfolding cache_text asked_text
returns-clause-observed g c = search rules

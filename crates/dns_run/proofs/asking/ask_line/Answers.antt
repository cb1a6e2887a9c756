use Rattle.dns_run.specs.Asking.{asked_behind, asked_line}
use Rattle.dns_run.proofs.asking.ask_line.Goals as goal

pub returns-clause-line : goal.returns-clause-line
unfolding asked_line
returns-clause-line c = c.ask.ensures.line

pub returns-clause-cached : goal.returns-clause-cached
unfolding asked_behind
returns-clause-cached c = c.ask.ensures.cached

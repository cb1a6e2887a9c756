use Rattle.std.proofs.Common.{◌≡◌, drop}
use Rattle.dns_script.specs.Rules.{answers_for, name_asked}
use Rattle.dns_script.proofs.script_service.answers_asked.Given as goal

abbrev pub invariant-loop-rule : goal.invariant-loop-rule
invariant-loop-rule l = answers_for (drop l.rule-index l.rules) (name_asked l.message) ≡ answers_for l.rules (name_asked l.message)

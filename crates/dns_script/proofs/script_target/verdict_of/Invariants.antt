use Rattle.std.proofs.Common.{◌≡◌, drop}
use Rattle.dns_script.specs.Targets.{zone_verdict}
use Rattle.dns_script.proofs.script_target.verdict_of.Given as goal

abbrev pub invariant-loop-rule : goal.invariant-loop-rule
invariant-loop-rule l = zone_verdict (drop l.rule-index l.rules) l.apex ≡ zone_verdict l.rules l.apex

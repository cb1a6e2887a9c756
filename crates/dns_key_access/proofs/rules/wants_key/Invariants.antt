use Rattle.std.proofs.Common.{◌≡◌, drop}
use Rattle.dns_key_access.specs.Rules.{wants_key}
use Rattle.dns_key_access.proofs.rules.wants_key.Given as goal

abbrev pub invariant-loop-rule : goal.invariant-loop-rule
invariant-loop-rule l = wants_key (drop l.rule-index l.rules) ≡ wants_key l.rules

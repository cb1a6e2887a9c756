use Rattle.std.proofs.Common.{◌≡◌, ◌++◌, drop, map}
use Rattle.std.specs.Prelude.{flat_map}
use Rattle.dns_trace.specs.Spelling.{line_of_words}
use Rattle.dns_script.specs.ScriptText.{words_of_rule}
use Rattle.dns_script.proofs.service_text.rule_lines.Given as goal

-- the lines that are left make the whole
abbrev pub invariant-loop-rule : goal.invariant-loop-rule
invariant-loop-rule l = l.text ++ flat_map line_of_words (map words_of_rule (drop l.rule-index l.rules)) ≡ l.fn.text ++ flat_map line_of_words (map words_of_rule l.rules)

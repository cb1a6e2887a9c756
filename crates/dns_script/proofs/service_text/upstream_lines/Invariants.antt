use Rattle.std.proofs.Common.{◌≡◌, ◌++◌, drop, map}
use Rattle.std.specs.Prelude.{flat_map}
use Rattle.dns_trace.specs.Spelling.{line_of_words}
use Rattle.dns_script.specs.ScriptText.{words_of_upstream}
use Rattle.dns_script.proofs.service_text.upstream_lines.Given as goal

-- the lines that are left make the whole
abbrev pub invariant-loop-upstream : goal.invariant-loop-upstream
invariant-loop-upstream l = l.text ++ flat_map line_of_words (map words_of_upstream (drop l.upstream-index l.upstreams)) ≡ l.fn.text ++ flat_map line_of_words (map words_of_upstream l.upstreams)

use Rattle.std.proofs.Common.{◌≡◌, ◌++◌, drop, map}
use Rattle.std.specs.Prelude.{flat_map}
use Rattle.dns_trace.specs.Spelling.{line_of_words}
use Rattle.dns_script.specs.ScriptText.{words_of_record}
use Rattle.dns_script.proofs.service_text.record_lines.Given as goal

-- the lines that are left make the whole
abbrev pub invariant-loop-record : goal.invariant-loop-record
invariant-loop-record l = l.text ++ flat_map line_of_words (map words_of_record (drop l.record-index l.records)) ≡ l.fn.text ++ flat_map line_of_words (map words_of_record l.records)

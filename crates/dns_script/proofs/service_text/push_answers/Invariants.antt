use Rattle.std.proofs.Common.{◌≡◌, ◌++◌, drop, map}
use Rattle.dns_trace.specs.Spelling.{spaced}
use Rattle.dns_script.specs.Spelled.{spelled_answer}
use Rattle.dns_script.proofs.service_text.push_answers.Given as goal

-- the words that are left make the whole
abbrev pub invariant-loop-answer : goal.invariant-loop-answer
invariant-loop-answer l = l.text ++ spaced (map spelled_answer (drop l.answer-index l.answers)) ≡ l.fn.text ++ spaced (map spelled_answer l.answers)

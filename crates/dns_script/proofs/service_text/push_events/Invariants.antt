use Rattle.std.proofs.Common.{◌≡◌, ◌++◌, drop, map}
use Rattle.dns_trace.specs.Spelling.{spaced}
use Rattle.dns_script.specs.Spelled.{spelled_event}
use Rattle.dns_script.proofs.service_text.push_events.Given as goal

-- the words that are left make the whole
abbrev pub invariant-loop-word : goal.invariant-loop-word
invariant-loop-word l = l.text ++ spaced (map spelled_event (drop l.word-index l.words)) ≡ l.fn.text ++ spaced (map spelled_event l.words)

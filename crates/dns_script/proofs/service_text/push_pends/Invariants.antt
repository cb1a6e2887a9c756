use Rattle.std.proofs.Common.{◌≡◌, ◌++◌, ◌-◌, replicate}
use Rattle.std.specs.Prelude.{codes}
use Rattle.dns_trace.specs.Spelling.{spaced}
use Rattle.dns_script.proofs.service_text.push_pends.Given as goal

-- the words that are left make the whole
abbrev pub invariant-loop-i : goal.invariant-loop-i
invariant-loop-i l = l.text ++ spaced (replicate (l.pends - l.i) (codes "pend")) ≡ l.fn.text ++ spaced (replicate l.pends (codes "pend"))

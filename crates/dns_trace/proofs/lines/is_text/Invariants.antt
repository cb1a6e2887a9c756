use Rattle.std.proofs.Common.{◌≡◌, drop}
use Rattle.std.specs.Int.{is_in_range}
use Rattle.std.specs.List.{list_all}
use Rattle.dns_trace.proofs.lines.is_text.Given as goal

abbrev pub invariant-loop-octet : goal.invariant-loop-octet
invariant-loop-octet l = list_all (is_in_range 32 126) (drop l.octet-index l.line) ≡ list_all (is_in_range 32 126) l.line

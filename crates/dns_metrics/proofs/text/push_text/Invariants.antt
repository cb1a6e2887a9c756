use Rattle.std.proofs.Common.{◌≡◌, ◌++◌, drop}
use Rattle.dns_metrics.specs.Exposition.{escaped_text}
use Rattle.dns_metrics.proofs.text.push_text.Given as goal

abbrev pub invariant-loop-octet : goal.invariant-loop-octet
invariant-loop-octet l = l.target.items ++ escaped_text l.is_value (drop l.octet-index l.text) ≡ l.fn.target.items ++ escaped_text l.is_value l.text

use Rattle.std.proofs.Common.{◌≡◌, ◌++◌, drop}
use Rattle.std.specs.List.{flat_map}
use Rattle.dns_metrics.specs.Exposition.{behind_comma}
use Rattle.dns_metrics.proofs.text.push_others.Given as goal

abbrev pub invariant-loop-label : goal.invariant-loop-label
invariant-loop-label l = l.target.items ++ flat_map behind_comma (drop l.label-index l.labels) ≡ l.fn.target.items ++ flat_map behind_comma l.labels

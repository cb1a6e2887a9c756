use Rattle.std.proofs.Common.{◌≡◌, ◌++◌, drop}
use Rattle.dns_metrics.specs.Exposition.{exposition_text}
use Rattle.dns_metrics.proofs.text.exposition.Given as goal

abbrev pub invariant-loop-family : goal.invariant-loop-family
invariant-loop-family l = l.text.items ++ exposition_text (drop l.family-index l.families) ≡ exposition_text l.families

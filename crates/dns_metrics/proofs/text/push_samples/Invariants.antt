use Rattle.std.proofs.Common.{◌≡◌, ◌++◌, drop}
use Rattle.std.specs.List.{flat_map}
use Rattle.dns_metrics.specs.Exposition.{sample_text}
use Rattle.dns_metrics.proofs.text.push_samples.Given as goal

abbrev pub invariant-loop-sample : goal.invariant-loop-sample
invariant-loop-sample l = l.target.items ++ flat_map (sample_text l.name) (drop l.sample-index l.samples) ≡ l.fn.target.items ++ flat_map (sample_text l.name) l.samples

use Rattle.std.proofs.Common.{◌≡◌, length}
use Rattle.dns_opt.specs.All.{all_takes}
use Rattle.dns_opt.specs.Items.{items_of}
use Rattle.dns_route.specs.KeptOptions.{refusal, checked}
use Rattle.dns_route.proofs.kept.check.Given as goal

abbrev pub invariant-each : goal.invariant-each
invariant-each l = refusal (items_of all_takes l.left) ≡ checked l.options

abbrev pub decreases-each : goal.decreases-each
decreases-each l = length (items_of all_takes l.left)

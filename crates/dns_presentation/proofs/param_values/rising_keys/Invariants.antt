use Rattle.std.proofs.Common.{◌≡◌, ◌<◌, [], length}
use Rattle.dns_presentation.specs.ServiceParams.{with_keys}
use Rattle.dns_presentation.proofs.param_values.rising_keys.Given as goal

abbrev pub invariant-keys : goal.invariant-keys
invariant-keys l = with_keys l.keys.items l.rest ≡ with_keys [] l.octets

abbrev pub decreases-keys : goal.decreases-keys
decreases-keys l = length l.rest

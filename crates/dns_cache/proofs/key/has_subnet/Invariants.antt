use Rattle.std.proofs.Common.{length}
use Rattle.dns_cache.proofs.SubnetLaws.{IsWalked}
use Rattle.dns_cache.proofs.key.has_subnet.Given as goal

abbrev pub invariant-options : goal.invariant-options
invariant-options l = IsWalked l.list l.left

abbrev pub decreases-options : goal.decreases-options
decreases-options l = length l.left

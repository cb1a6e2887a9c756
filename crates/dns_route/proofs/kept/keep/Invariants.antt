use Rattle.std.proofs.Common.{◌≡◌, length}
use Rattle.dns_opt.specs.OptRecords.{zero_head}
use Rattle.dns_route.proofs.KeptLaws.{IsWalked}
use Rattle.dns_route.proofs.kept.keep.Given as goal

abbrev pub invariant-walk : goal.invariant-walk
invariant-walk l = record {
  walked : IsWalked l.which l.options l.rest l.kept.options;
  head : l.kept.head ≡ zero_head;
}

abbrev pub decreases-walk : goal.decreases-walk
decreases-walk l = length l.rest

use Rattle.std.proofs.Common.{◌≡◌, ◌+◌, ◌≤◌, length}
use Rattle.dns_hashed_zone.proofs.DownLaws.{IsDown}
use Rattle.dns_hashed_zone.proofs.check.are_held.Given as goal

abbrev pub invariant-labels : goal.invariant-labels
invariant-labels l = record {
  few : l.left + length l.zone.apex ≤ length l.name;
  down : IsDown l.zone l.hashing l.nsecs l.firm l.name l.fn.met l.left l.above l.met;
  many : length l.met ≡ length l.nsecs;
}

abbrev pub decreases-labels : goal.decreases-labels
decreases-labels l = l.left

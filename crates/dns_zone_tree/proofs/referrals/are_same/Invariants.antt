use Rattle.std.proofs.Common.{◌≡◌, take}
use Rattle.dns_zone_tree.proofs.referrals.are_same.Given as goal

abbrev pub invariant-each : goal.invariant-each
invariant-each l = take l.index l.kinds ≡ take l.index l.others

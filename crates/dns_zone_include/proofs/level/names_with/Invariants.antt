use Rattle.std.proofs.Common.{◌≡◌, take}
use Rattle.dns_zone_include.proofs.level.names_with.Given as goal

abbrev pub invariant-loop-other : goal.invariant-loop-other
invariant-loop-other l = l.all.items ≡ take l.other-index l.names

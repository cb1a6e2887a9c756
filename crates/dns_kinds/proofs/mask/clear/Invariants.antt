use Rattle.std.proofs.Common.{◌≡◌, ◌++◌, take, drop}
use Rattle.dns_kinds.specs.Subnet.{masked}
use Rattle.dns_kinds.proofs.mask.clear.Given as goal

abbrev pub invariant-walk : goal.invariant-walk
invariant-walk l = take l.i l.a ++ masked l.left (drop l.i l.a) ≡ masked l.s l.fn.a

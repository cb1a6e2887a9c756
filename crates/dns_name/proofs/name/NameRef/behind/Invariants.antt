use Rattle.std.proofs.Common.{◌≡◌, drop}
use Rattle.dns_name.proofs.name.NameRef.behind.Given as goal

abbrev pub invariant-skip : goal.invariant-skip
invariant-skip l = l.name ≡ drop l._i l.fn.self

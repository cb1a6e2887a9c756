use Rattle.std.proofs.Common.{◌≡◌, ◌++◌, take}
use Rattle.dns_opt.proofs.written.NumbersComposeOptData.compose_option.Given as goal

abbrev pub invariant-each : goal.invariant-each
invariant-each g l = l.target.items ≡ l.fn.target.items ++ take l.i l.self.algorithms.now

use Rattle.std.proofs.Common.{arith}
use Rattle.dns_name.proofs.Parents.{one_behind, root_behind}
use Rattle.dns_name.proofs.name.NameRef.behind.Goals as goal

pub skip-preserved : goal.skip-preserved
skip-preserved c = one_behind c.skip.name c.in-Some.parent c.args.self.now c.skip._i c.in-Some.ensures c.skip.invariant

pub returns-in_default : goal.returns-in_default
returns-in_default c = root_behind c.skip.name c.args.self.now c.skip._i c.args.skipped c.in_default.ensures c.skip.invariant (omega arith)

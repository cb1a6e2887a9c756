use Rattle.std.proofs.Common.{rules, arith, []}
use Rattle.dns_base.proofs.BuildLaws.{sections, wire_size}
use Rattle.dns_base.proofs.builder.assembled.started.Goals as goal

pub returns : goal.returns
returns c = (search rules, omega (arith, wire_size (sections c.args.header [] [] [] [])))

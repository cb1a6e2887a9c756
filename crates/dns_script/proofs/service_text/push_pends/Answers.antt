use Rattle.std.proofs.Common.{arith}
use Rattle.std.specs.Prelude.{codes}
use Rattle.dns_script.proofs.Spaced.{one_more}
use Rattle.dns_script.proofs.service_text.push_pends.Goals as goal

pub loop-i-preserved : goal.loop-i-preserved
loop-i-preserved c = one_more _ _ _ (codes "pend") c.args.pends c.loop-i.i (omega arith) c.loop-i.invariant c.in_ok-word.ensures.ok

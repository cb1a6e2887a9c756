use Rattle.dns_session.proofs.Rows.{passes_more, passes_none}
use Rattle.dns_session.proofs.unfinished.Unfinished.pass_before.Goals as goal

pub loop-one-init : goal.loop-one-init
loop-one-init g c = passes_none c.args.self.now

pub loop-one-preserved : goal.loop-one-preserved
loop-one-preserved g c = passes_more c.args.self.now c.loop-one.self c.pass_first.new.self c.loop-one._one c.loop-one.invariant c.in_ok-pass_first.ensures

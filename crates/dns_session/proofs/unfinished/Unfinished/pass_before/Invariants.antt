use Rattle.dns_session.specs.Unfinished.{PassesBy}
use Rattle.dns_session.proofs.unfinished.Unfinished.pass_before.Given as goal

abbrev pub invariant-loop-one : goal.invariant-loop-one
invariant-loop-one g l = PassesBy l.fn.self l._one l.self

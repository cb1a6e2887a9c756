-- What an event of a query leads to is what it leads to at its place.
use Rattle.dns_proxy.proofs.Placed.{front-none, front-placed, none-there, placed-on, placed-out, test-is}
use Rattle.dns_proxy.proofs.proxy.step_place.Goals as goal

pub returns-in-None-clause-goes : goal.returns-in-None-clause-goes
returns-in-None-clause-goes g c = λ a s. none-there g.F.Rule.Rewrite.rewriting g.F.Front.given c.args.place.now a c.args.event.now c.in-None.is s

pub returns-in-None-clause-front : goal.returns-in-None-clause-front
returns-in-None-clause-front g c = λ a s. front-none g.F.Rule.Rewrite.rewriting g.F.Front.given g.F.Front.after_give c.args.place.now a c.args.event.now c.args.front.now c.in-None.is s

pub returns-then-ends-clause-goes : goal.returns-then-ends-clause-goes
returns-then-ends-clause-goes g c = λ a s.
    placed-out g.F.Rule.Rewrite.rewriting g.F.Front.given c.args.place.now c.in-Some.query c.step.new.self a c.args.event.now c.in_ok-outcome-in-Some.outcome c.in-Some.is c.in_ok-outcome-in-Some.ensures.goes (test-is c.ends.ensures c.if-ends.true) s

pub returns-then-ends-clause-front : goal.returns-then-ends-clause-front
returns-then-ends-clause-front g c = λ a s.
    front-placed g.F.Rule.Rewrite.rewriting g.F.Front.given g.F.Front.after_give c.args.place.now c.in-Some.query a c.args.event.now c.args.front.now c.step.new.front c.in-Some.is c.in_ok-outcome-in-Some.ensures.front s

pub returns-clause-goes : goal.returns-clause-goes
returns-clause-goes g c = λ a s.
    placed-on g.F.Rule.Rewrite.rewriting g.F.Front.given c.args.place.now c.in-Some.query c.step.new.self a c.args.event.now c.in_ok-outcome-in-Some.outcome c.in-Some.is c.in_ok-outcome-in-Some.ensures.goes (test-is c.ends.ensures c.if-ends.false) s

pub returns-clause-front : goal.returns-clause-front
returns-clause-front g c = λ a s.
    front-placed g.F.Rule.Rewrite.rewriting g.F.Front.given g.F.Front.after_give c.args.place.now c.in-Some.query a c.args.event.now c.args.front.now c.step.new.front c.in-Some.is c.in_ok-outcome-in-Some.ensures.front s

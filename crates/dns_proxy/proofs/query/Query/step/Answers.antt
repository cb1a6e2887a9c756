-- What the lookup is led to is what the query is led to.
use Rattle.std.proofs.Common.{ap}
use Rattle.std.proofs.lemmas.Result.{IfOk-weaker}
use Rattle.dns_lookup.specs.declared.lookup_event.LookupOutcome.{LookupOutcome}
use Rattle.dns_proxy.specs.Queries.{front_by}
use Rattle.dns_proxy.proofs.Events.{front-gave, front-same, goes-connect, goes-nothing, goes-reply, goes-send}
use Rattle.dns_proxy.proofs.query.Query.step.Goals as goal

pub returns-in-Nothing-clause-goes : goal.returns-in-Nothing-clause-goes
returns-in-Nothing-clause-goes g c = λ a s.
    goes-nothing g.R.Rewrite.rewriting c.args.self.now c.step.new.self c.in_ok-outcome.outcome c.args.event.now c.in_ok-outcome.ensures.ok a s g.F.Front.given c.in-Nothing.is

pub returns-in-Send-clause-goes : goal.returns-in-Send-clause-goes
returns-in-Send-clause-goes g c = λ a s.
    goes-send g.R.Rewrite.rewriting c.args.self.now c.step.new.self c.in_ok-outcome.outcome c.args.event.now c.in_ok-outcome.ensures.ok a s g.F.Front.given c.in-Send.octets c.in-Send.is

pub returns-in-Connect-clause-goes : goal.returns-in-Connect-clause-goes
returns-in-Connect-clause-goes g c = λ a s.
    goes-connect g.R.Rewrite.rewriting c.args.self.now c.step.new.self c.in_ok-outcome.outcome c.args.event.now c.in_ok-outcome.ensures.ok a s g.F.Front.given c.in-Connect.octets c.in-Connect.is

pub returns-in-Answer-clause-goes : goal.returns-in-Answer-clause-goes
returns-in-Answer-clause-goes g c =
    IfOk-weaker c.end.result _ _ (λ t is a s.
    goes-reply g.R.Rewrite.rewriting c.args.self.now c.step.new.self c.in_ok-outcome.outcome c.args.event.now c.in_ok-outcome.ensures.ok a s g.F.Front.given c.in-Answer.answer t _ c.in-Answer.is is) c.end.ensures.reply

pub returns-in-Nothing-clause-front : goal.returns-in-Nothing-clause-front
returns-in-Nothing-clause-front g c = λ a s.
    front-same g.R.Rewrite.rewriting c.args.self.now c.step.new.self c.in_ok-outcome.outcome c.args.event.now c.in_ok-outcome.ensures.ok a s g.F.Front.after_give c.args.front.now
    (ap (λ (w : LookupOutcome). front_by g.F.Front.after_give a.came c.args.front.now w) c.in-Nothing.is)

pub returns-in-Send-clause-front : goal.returns-in-Send-clause-front
returns-in-Send-clause-front g c = λ a s.
    front-same g.R.Rewrite.rewriting c.args.self.now c.step.new.self c.in_ok-outcome.outcome c.args.event.now c.in_ok-outcome.ensures.ok a s g.F.Front.after_give c.args.front.now
    (ap (λ (w : LookupOutcome). front_by g.F.Front.after_give a.came c.args.front.now w) c.in-Send.is)

pub returns-in-Connect-clause-front : goal.returns-in-Connect-clause-front
returns-in-Connect-clause-front g c = λ a s.
    front-same g.R.Rewrite.rewriting c.args.self.now c.step.new.self c.in_ok-outcome.outcome c.args.event.now c.in_ok-outcome.ensures.ok a s g.F.Front.after_give c.args.front.now
    (ap (λ (w : LookupOutcome). front_by g.F.Front.after_give a.came c.args.front.now w) c.in-Connect.is)

pub returns-in-Answer-clause-front : goal.returns-in-Answer-clause-front
returns-in-Answer-clause-front g c =
    IfOk-weaker c.end.result _ _ (λ _ gave a s.
    front-gave g.R.Rewrite.rewriting c.args.self.now c.step.new.self c.in_ok-outcome.outcome c.args.event.now c.in_ok-outcome.ensures.ok a s g.F.Front.after_give c.args.front.now c.end.new.front c.in-Answer.answer c.in-Answer.is gave) c.end.ensures.front

-- A message begins as it is taken, and an upstream is asked for it if it is passed on.
use Rattle.std.proofs.Common.{subst}
use Rattle.std.proofs.lemmas.Result.{IfOk-weaker}
use Rattle.dns_proxy.specs.Fronts.{fronting}
use Rattle.dns_proxy.specs.Queries.{Takes}
use Rattle.dns_proxy.proofs.ClientMessages.{on_ok}
use Rattle.dns_proxy.proofs.beginning.begin_query.Goals as goal

pub returns-in-Sent-clause-begun : goal.returns-in-Sent-clause-begun
returns-in-Sent-clause-begun g c =
    let v = c.args.front.now in
    let f = fronting (g.F.Front.over v) (g.F.Front.hint v) (g.F.Front.asks v) in
    let takes = subst (λ t. Takes g.F.Rule.Rewrite.rewriting f c.args.config.now c.args.came.now t) c.in-Sent.is c.in_ok-taken.ensures.taken in
    takes c.args.upstream c.args.id

pub returns-in-Short-clause-begun : goal.returns-in-Short-clause-begun
returns-in-Short-clause-begun g c =
    let v = c.args.front.now in
    let f = fronting (g.F.Front.over v) (g.F.Front.hint v) (g.F.Front.asks v) in
    let takes = subst (λ t. Takes g.F.Rule.Rewrite.rewriting f c.args.config.now c.args.came.now t) c.in-Short.is c.in_ok-taken.ensures.taken in
    takes c.args.upstream c.args.id

pub returns-in-Passed-clause-begun : goal.returns-in-Passed-clause-begun
returns-in-Passed-clause-begun g c =
    let v = c.args.front.now in
    let f = fronting (g.F.Front.over v) (g.F.Front.hint v) (g.F.Front.asks v) in
    let takes = subst (λ t. Takes g.F.Rule.Rewrite.rewriting f c.args.config.now c.args.came.now t) c.in-Passed.is c.in_ok-taken.ensures.taken in
    IfOk-weaker c.ask.result _ _ (λ b is. takes c.args.upstream c.args.id b is) c.ask.ensures

pub returns-in-Passed-clause-front : goal.returns-in-Passed-clause-front
returns-in-Passed-clause-front g c = on_ok c.ask.result c.in_ok-taken.ensures.front

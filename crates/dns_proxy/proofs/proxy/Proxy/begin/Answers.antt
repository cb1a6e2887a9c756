-- A message starts as its query begins.
use Rattle.std.proofs.Common.{subst}
use Rattle.std.proofs.lemmas.Result.{IfOk-weaker}
use Rattle.dns_proxy.specs.Fronts.{fronting}
use Rattle.dns_proxy.specs.Queries.{Begins}
use Rattle.dns_proxy.proofs.Placed.{starts_sent, starts_short, starts_asks}
use Rattle.dns_proxy.proofs.proxy.Proxy.begin.Goals as goal

pub returns-in-Ok-Sent-clause-starts : goal.returns-in-Ok-Sent-clause-starts
returns-in-Ok-Sent-clause-starts g c =
    let p = c.args.self.now in
    let v = p.front in
    let f = fronting (g.F.Front.over v) (g.F.Front.hint v) (g.F.Front.asks v) in
    let says = subst (λ b. Begins g.F.Rule.Rewrite.rewriting f p.config c.args.came.now c.args.upstream c.args.id b) c.in-Ok-Sent.field-0-is c.in-Ok-Sent.ensures.begun in
    starts_sent g.F.Rule.Rewrite.rewriting g.F.Front.given g.F.Front.after_give g.F.Front.after_take p.bound c.args.when_full f p.config c.args.came.now c.args.upstream c.args.id v p.places.items c.in-Ok-Sent.octets _ says c.in-Ok-Sent.ensures.front

pub returns-in-Ok-Short-clause-starts : goal.returns-in-Ok-Short-clause-starts
returns-in-Ok-Short-clause-starts g c =
    let p = c.args.self.now in
    let v = p.front in
    let f = fronting (g.F.Front.over v) (g.F.Front.hint v) (g.F.Front.asks v) in
    let says = subst (λ b. Begins g.F.Rule.Rewrite.rewriting f p.config c.args.came.now c.args.upstream c.args.id b) c.in-Ok-Short.field-0-is c.in-Ok-Short.ensures.begun in
    starts_short g.F.Rule.Rewrite.rewriting g.F.Front.given g.F.Front.after_give g.F.Front.after_take p.bound c.args.when_full f p.config c.args.came.now c.args.upstream c.args.id v p.places.items _ says c.in-Ok-Short.ensures.front

pub returns-in-Ok-Asks-clause-starts : goal.returns-in-Ok-Asks-clause-starts
returns-in-Ok-Asks-clause-starts g c =
    let p = c.args.self.now in
    let v = p.front in
    let f = fronting (g.F.Front.over v) (g.F.Front.hint v) (g.F.Front.asks v) in
    let says = subst (λ b. Begins g.F.Rule.Rewrite.rewriting f p.config c.args.came.now c.args.upstream c.args.id b) c.in-Ok-Asks.field-0-is c.in-Ok-Asks.ensures.begun in
    IfOk-weaker c.enter.result _ _ (λ s h.
    starts_asks g.F.Rule.Rewrite.rewriting g.F.Front.given g.F.Front.after_give g.F.Front.after_take p.bound c.args.when_full f p.config c.args.came.now c.args.upstream c.args.id v p.places.items c.in-Ok-Asks.query c.in-Ok-Asks.octets _ _ s _ says c.in-Ok-Asks.ensures.front h) c.enter.ensures.entered

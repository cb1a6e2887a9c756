-- What is asked takes a free place.
use Rattle.std.proofs.lemmas.Result.{IfOk-weaker}
use Rattle.dns_proxy.specs.declared.beginning.BegunQuery.TheVariants.{Asks}
use Rattle.dns_proxy.proofs.Placed.{asks_start}
use Rattle.dns_proxy.proofs.proxy.Proxy.ask.Goals as goal

pub returns-in-Ok-clause-asked : goal.returns-in-Ok-clause-asked
returns-in-Ok-clause-asked g c =
    let p = c.args.self.now in
    let q = c.in-Ok.query in
    let octets = c.in-Ok.octets in
    IfOk-weaker c.enter.result _ _ (λ s h f came takes.
    asks_start g.F.Rule.Rewrite.rewriting g.F.Front.given g.F.Front.after_give g.F.Front.after_take p.bound c.args.when_full f p.config came c.args.upstream c.args.id p.front p.places.items q octets _ s _
    (takes c.args.upstream c.args.id (Asks q octets) c.in-Ok.ensures) h) c.enter.ensures.entered

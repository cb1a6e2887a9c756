-- The upstream's answer is given, and its reply is kept.
use Rattle.std.proofs.Common.{◌∙◌, ap}
use Rattle.std.proofs.lemmas.Result.{IfOk-weaker}
use Rattle.dns_cache.specs.AskedCache.{Cached}
use Rattle.dns_fronts.specs.Layered.{given_turn}
use Rattle.dns_fronts.specs.declared.cached.CachedFront.{CachedFront}
use Rattle.dns_fronts.proofs.LayersOverCache.{answered-so, on-ok}
use Rattle.dns_fronts.proofs.cached.CachedFrontFront.give.Goals as goal

pub returns-clause-item : goal.returns-clause-item
returns-clause-item c =
    IfOk-weaker c.given_turn.result _ _ (λ i is. is ∙ ap given_turn (answered-so c.args.self.now.cache c.args.request.now _ _ c.in_ok-turned.ensures.answer)) c.given_turn.ensures

pub returns-clause-after : goal.returns-clause-after
returns-clause-after c = on-ok c.given_turn.result (ap (λ (x : Cached). let f : CachedFront = record c.args.self.now { cache = x } in f) c.in_ok-turned.ensures.cache)

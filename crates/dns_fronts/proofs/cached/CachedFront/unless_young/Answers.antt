-- What is young is given, rewritten.
use Rattle.std.proofs.Common.{◌∙◌}
use Rattle.std.proofs.lemmas.Result.{IfOk-weaker}
use Rattle.dns_fronts.specs.Caching.{looked_up}
use Rattle.dns_fronts.proofs.LayersOverCache.{young-taken}
use Rattle.dns_fronts.proofs.cached.CachedFront.unless_young.Goals as goal

pub returns-in-Some-clause-taken : goal.returns-in-Some-clause-taken
returns-in-Some-clause-taken c =
    IfOk-weaker c.own_by.result _ _ (λ t is.
    is ∙ young-taken c.args.rule c.args.message (looked_up c.args.self.now.cache c.args.request.now).cached _ c.in-Some.item c.in_ok-young.ensures.item c.in-Some.is) c.own_by.ensures

-- The item out of the cache is what the cache has.
use Rattle.std.proofs.Common.{Option, ap}
use Rattle.std.specs.Prelude.{is_some}
use Rattle.dns_base.specs.Built.{Built}
use Rattle.dns_fronts.proofs.LayersOverCache.{young-none, young-some}
use Rattle.dns_fronts.specs.Caching.{looked_up}
use Rattle.dns_fronts.proofs.cached.CachedFront.young.Goals as goal

pub returns-in-None-clause-item : goal.returns-in-None-clause-item
returns-in-None-clause-item c = young-none (looked_up c.args.self.now.cache c.args.request.now).cached _ c.in_ok-found.ensures.message c.in-None.is

pub returns-in-Some-clause-item : goal.returns-in-Some-clause-item
returns-in-Some-clause-item c = young-some (looked_up c.args.self.now.cache c.args.request.now).cached _ c.in-Some.built c.new.result c.in_ok-found.ensures.message c.in-Some.is c.new.ensures

pub returns-in-Some-clause-asked : goal.returns-in-Some-clause-asked
returns-in-Some-clause-asked c = λ _. c.in_ok-found.ensures.asked (ap (λ (b : Option Built). is_some b) c.in-Some.is)

use Rattle.dns_cache.proofs.CallLaws.{earlier}
use Rattle.dns_cache.proofs.laws.cached_replies_are_earlier_ones.Goals as goal

pub returns : goal.returns
returns c = earlier

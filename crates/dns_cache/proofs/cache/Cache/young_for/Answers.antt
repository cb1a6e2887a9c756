use Rattle.std.proofs.Common.{subst}
use Rattle.dns_name.specs.Labels.{IsName}
use Rattle.dns_cache.proofs.cache.Cache.young_for.Goals as goal

pub returns-in-None-clause-asked : goal.returns-in-None-clause-asked
returns-in-None-clause-asked c = (c.args.question.now, c.requires, subst IsName c.qname.ensures c.labels-labels.ensures.named)

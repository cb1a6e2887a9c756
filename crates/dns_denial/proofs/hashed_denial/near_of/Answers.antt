use Rattle.std.proofs.Common.{◌∙◌}
use Rattle.dns_denial.proofs.HashedChoice.{matched_by}
use Rattle.dns_denial.proofs.hashed_denial.near_of.Goals as goal

pub returns-clause-matched : goal.returns-clause-matched
returns-clause-matched c = c.is_of-matched.ensures ∙ matched_by c.args.hashing.now c.args.nsecs.now c.args.name.now c.nearest-nsec.result.now c.in_ok-hash.hash c.in_ok-hash.ensures c.nearest-nsec.ensures

use Rattle.std.proofs.Common.{rules}
use Rattle.std.proofs.lemmas.List.Sorted.{IsPartitionPoint-from_clause}
use Rattle.dns_denial.specs.Hashes.{is_up_to3}
use Rattle.dns_denial.proofs.HashSearch.{partitioned}
use Rattle.dns_denial.proofs.nsec3.count_up_to.Goals as goal

pub returns-clause-point : goal.returns-clause-point
returns-clause-point c = IsPartitionPoint-from_clause (is_up_to3 c.args.hash.now) _ _ c.partition_point.ensures.partitioned (partitioned c.args.nsecs.now c.args.hash.now c.requires) (λ a r q k. search rules)

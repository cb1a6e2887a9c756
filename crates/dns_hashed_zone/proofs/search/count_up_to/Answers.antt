use Rattle.std.proofs.Common.{rules}
use Rattle.std.proofs.lemmas.List.Sorted.{IsPartitionPoint-from_clause}
use Rattle.dns_denial.specs.Hashes.{is_up_to3}
use Rattle.dns_denial.proofs.HashSearch.{partitioned}
use Rattle.dns_hashed_zone.proofs.PlaceLaws.{count_is}
use Rattle.dns_hashed_zone.proofs.search.count_up_to.Goals as goal

pub returns-clause-count : goal.returns-clause-count
returns-clause-count c =
    count_is c.args.nsecs.now c.args.hash.now c.partition_point.result c.partition_point.ensures.bound
    (IsPartitionPoint-from_clause (is_up_to3 c.args.hash.now) _ _ c.partition_point.ensures.partitioned (partitioned c.args.nsecs.now c.args.hash.now c.requires) (λ a r q k. search rules))

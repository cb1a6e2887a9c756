use Rattle.std.proofs.Common.{rules}
use Rattle.std.proofs.lemmas.List.Sorted.{IsPartitionPoint-from_clause}
use Rattle.dns_denial.specs.Nsecs.{is_up_to}
use Rattle.dns_denial.proofs.SearchLaws.{partitioned}
use Rattle.dns_denial.proofs.search.count_up_to.Goals as goal

pub returns-clause-point : goal.returns-clause-point
returns-clause-point c = λ name e.
    IsPartitionPoint-from_clause (is_up_to name) _ _ c.partition_point.ensures.partitioned (partitioned c.args.nsecs.now name c.requires) (λ a r q k. search (rules, e))

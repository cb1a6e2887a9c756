use Rattle.std.proofs.Common.{rules}
use Rattle.std.proofs.lemmas.List.Sorted.{IsPartitionPoint-from_clause}
use Rattle.dns_zone_tree.specs.Nodes.{is_before}
use Rattle.dns_zone_tree.proofs.SearchLaws.{partitioned}
use Rattle.dns_zone_tree.proofs.names.count_before.Goals as goal

pub returns : goal.returns
returns c =
    IsPartitionPoint-from_clause (is_before c.args.octets.now c.args.key.now) _ _ c.partition_point.ensures.partitioned (partitioned c.args.octets.now c.args.key.now c.args.nodes.now c.requires) (λ a r q k. search rules)

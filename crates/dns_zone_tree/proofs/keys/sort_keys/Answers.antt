use Rattle.std.proofs.Common.{◌≡◌, rules}
use Rattle.std.specs.Cmp.Lexicographic.{nat_list_cmp_total}
use Rattle.std.specs.Ordering.{is_lt}
use Rattle.std.proofs.lemmas.Fn.{always_returns_same}
use Rattle.std.proofs.lemmas.List.Sorted.{ranks_by}
use Rattle.dns_zone_tree.specs.Nodes.{is_lower, key_of}
use Rattle.dns_zone_tree.specs.declared.names.Keyed.{Keyed}
use Rattle.dns_zone_tree.proofs.keys.sort_keys.Goals as goal

pub returns-clause-sorted : goal.returns-clause-sorted
returns-clause-sorted c =
    c.in_ok-sort_by.ensures.sorted (is_lower c.args.octets.now) (ranks_by nat_list_cmp_total (λ (k : Keyed). key_of c.args.octets.now k.span))
    (always_returns_same _ (λ a r. is_lt r ≡ is_lower c.args.octets.now a.0.now a.1.0.now) _ (λ a r q k. search rules))

pub returns-clause-stable : goal.returns-clause-stable
returns-clause-stable c =
    c.in_ok-sort_by.ensures.stable (is_lower c.args.octets.now) (ranks_by nat_list_cmp_total (λ (k : Keyed). key_of c.args.octets.now k.span))
    (always_returns_same _ (λ a r. is_lt r ≡ is_lower c.args.octets.now a.0.now a.1.0.now) _ (λ a r q k. search rules))

use Rattle.std.specs.BTreeSet.{contains}
use Rattle.std.specs.Ordering.{nat_cmp}
use Rattle.dns_zone_tree.proofs.HostLaws.{servers_added}
use Rattle.dns_zone_tree.proofs.zone_tree.ZoneTree.addresses.Goals as goal

pub each-preserved : goal.each-preserved
each-preserved c = λ i.
    servers_added c.args.self.now.records c.args.kinds.now c.each.kind-index i _ (contains nat_cmp c.add_server.new.addresses i) (contains nat_cmp c.each.addresses i) c.each-test.true (c.in_ok-add_server.ensures i) (c.each.invariant i)

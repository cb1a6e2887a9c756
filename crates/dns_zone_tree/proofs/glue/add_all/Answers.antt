use Rattle.std.specs.BTreeSet.{contains}
use Rattle.std.specs.Ordering.{nat_cmp}
use Rattle.dns_zone_tree.proofs.HostLaws.{kinds_added}
use Rattle.dns_zone_tree.proofs.glue.add_all.Goals as goal

pub each-preserved : goal.each-preserved
each-preserved c = λ i.
    kinds_added c.args.rtype c.args.kinds.now c.each.kind-index i _ (contains nat_cmp c.add_kind.new.set i) (contains nat_cmp c.each.set i) (contains nat_cmp c.args.set.now i) c.each-test.true (c.in_ok-add_kind.ensures i) (c.each.invariant i)

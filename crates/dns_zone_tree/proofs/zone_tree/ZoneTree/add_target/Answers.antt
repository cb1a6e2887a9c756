use Rattle.std.specs.BTreeSet.{contains}
use Rattle.std.specs.Ordering.{nat_cmp}
use Rattle.std.proofs.Common.{sym}
use Rattle.dns_zone.specs.Owned.{target}
use Rattle.dns_zone_tree.proofs.HostLaws.{no_host}
use Rattle.dns_zone_tree.proofs.zone_tree.ZoneTree.add_target.Goals as goal

pub returns-in-None : goal.returns-in-None
returns-in-None c = λ i. no_host (target c.args.server.now.rdata) (contains nat_cmp c.args.addresses.now i) _ (sym c.in-None.ensures)

use Rattle.std.proofs.Common.{ap, ◌∙◌}
use Rattle.std.specs.BTreeSet.{contains}
use Rattle.std.specs.Option.{option_copied}
use Rattle.std.specs.Ordering.{nat_cmp}
use Rattle.dns_zone_tree.proofs.HostLaws.{host_added, host_none}
use Rattle.dns_zone_tree.proofs.KeptLaws.{on_ok}
use Rattle.dns_zone_tree.proofs.zone_tree.ZoneTree.add_host.Goals as goal

pub returns-in-Some : goal.returns-in-Some
returns-in-Some c =
    on_ok c.add_addresses.result c.add_addresses.ensures
    (λ f i. f i ∙ host_added c.args.self.now c.for_ref.result c.args.host.now c.in-Some.kinds.now (option_copied c.in_ok-found.found) i (contains nat_cmp c.args.addresses.now i) c.in_ok-found.ensures (ap option_copied c.in-Some.is) c.for_ref.ensures.value)

pub returns-in-None : goal.returns-in-None
returns-in-None c = λ i.
    host_none c.args.self.now c.for_ref.result c.args.host.now (option_copied c.in_ok-found.found) i (contains nat_cmp c.args.addresses.now i) c.in_ok-found.ensures (ap option_copied c.in-None.is) c.for_ref.ensures.value

use Rattle.std.proofs.Common.{ℕ, List, subst}
use Rattle.std.specs.List.{AllByRecursion}
use Rattle.dns_message.specs.declared.record.Record.{Record}
use Rattle.dns_zone_tree.specs.Names.{IsHeaded}
use Rattle.dns_zone_tree.specs.declared.names.Node.{Node}
use Rattle.dns_zone_tree.proofs.zone_tree.ZoneTree.head.Goals as goal

pub invariant_of-self : goal.invariant_of-self
invariant_of-self c =
    let i = c.self.invariant in
    record {
      lawful = i.lawful;
      within = i.within;
      short = i.short;
      known = i.known;
      top_ = i.top_;
      soa = i.soa;
      denied = i.denied;
      referred = i.referred;
      heads = λ e.
          subst (λ (ns : List Node). AllByRecursion (IsHeaded c.self.inside.names.octets c.self.inside.records.items) ns) c.nodes-nodes.ensures
          (subst (λ (rs : List Record). AllByRecursion (IsHeaded c.self.inside.names.octets rs) c.nodes-nodes.result.now) c.as_slice-records.ensures.value
          (subst (λ (o : List ℕ). AllByRecursion (IsHeaded o c.as_slice-records.result.now) c.nodes-nodes.result.now) c.octets.ensures (c.in_ok-headed.ensures e)));
    }

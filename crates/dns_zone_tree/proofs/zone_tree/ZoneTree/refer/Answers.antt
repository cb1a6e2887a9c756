use Rattle.std.proofs.Common.{subst, sym}
use Rattle.dns_zone.specs.Owned.{ZoneState}
use Rattle.dns_zone_tree.specs.Referrals.{AreReferrals}
use Rattle.dns_zone_tree.proofs.zone_tree.ZoneTree.refer.Goals as goal

pub invariant_of-self : goal.invariant_of-self
invariant_of-self c =
    let i = c.self.invariant in
    record {
      lawful = i.lawful;
      within = i.within;
      short = i.short;
      known = i.known;
      top_ = i.top_;
      soa = i.soa;
      denied = i.denied;
      referred = subst (λ (z : ZoneState). AreReferrals z c.in_ok-list.list.items) (sym c.self.view_is) c.in_ok-list.ensures;
      heads = i.heads;
    }

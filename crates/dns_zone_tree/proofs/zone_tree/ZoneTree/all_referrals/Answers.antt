use Rattle.dns_zone_tree.proofs.zone_tree.ZoneTree.all_referrals.Goals as goal

pub each-preserved : goal.each-preserved
each-preserved c = c.in_ok-add_referral.ensures c.each.invariant

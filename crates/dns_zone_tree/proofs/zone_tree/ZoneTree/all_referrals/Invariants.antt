use Rattle.dns_zone_tree.specs.Referrals.{AreReferrals}
use Rattle.dns_zone_tree.proofs.zone_tree.ZoneTree.all_referrals.Given as goal

abbrev pub invariant-each : goal.invariant-each
invariant-each l = AreReferrals l.self l.list.items

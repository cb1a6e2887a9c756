use Rattle.std.proofs.Common.{subst, sym}
use Rattle.dns_zone_tree.specs.Referrals.{AreReferrals}
use Rattle.dns_zone_tree.proofs.ReferralLaws.{referred_more}
use Rattle.dns_zone_tree.proofs.zone_tree.ZoneTree.add_referral.Goals as goal

pub returns-then-has : goal.returns-then-has
returns-then-has c = λ h.
    subst (AreReferrals c.args.self.now) (sym c.in_ok-push.ensures.items) (referred_more c.args.self.now c.args.list.now.items c.in_ok-referral.referral c.args.kinds.now h c.in_ok-referral.ensures.referral c.in_ok-referral.ensures.cut)

use Rattle.std.proofs.Common.{◌≡◌, true, arith}
use Rattle.std.proofs.lemmas.Grind.{common_steps}
use Rattle.dns_zone_tree.proofs.ReferralLaws.{same_all, same_more}
use Rattle.dns_zone_tree.proofs.referrals.are_same.Goals as goal

pub each-preserved : goal.each-preserved
each-preserved c =
    let b : c.is_same.result ≡ true = grind (arith, common_steps) in
    same_more c.args.kinds.now c.args.others.now c.each.index _ _ (omega arith) (omega arith) c.each.invariant (c.is_same.ensures b)

pub returns : goal.returns
returns c = λ _. same_all c.args.kinds.now c.args.others.now c.each.index (omega arith) (omega arith) c.each.invariant

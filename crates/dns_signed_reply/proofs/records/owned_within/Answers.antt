use Rattle.std.proofs.Common.{◌≡◌, subst, ◌∙◌}
use Rattle.dns_zone.specs.Owned.{asked_records}
use Rattle.dns_zone.specs.Places.{at_places}
use Rattle.dns_zone_tree.proofs.KeptLaws.{if_ok}
use Rattle.dns_zone_tree.specs.Kinds.{kind_places}
use Rattle.dns_zone_tree.specs.Regions.{asked_region}
use Rattle.dns_zone_tree.specs.Walks.{EndsAt}
use Rattle.dns_signed_reply.specs.SignedReplies.{if_within}
use Rattle.dns_signed_reply.proofs.NodeLaws.{cut_none, dname_none, missing_asked, node_asked_within}
use Rattle.dns_signed_reply.proofs.records.owned_within.Goals as goal

pub returns-in-Node : goal.returns-in-Node
returns-in-Node c =
    let z = c.args.zone.now in
    let n = c.args.name.now in
    let t = c.args.rtype in
    let m = c.in-Node.kinds.now in
    let r = subst (EndsAt z 43 n) c.in-Node.is c.in_ok-found.ensures in
    if_ok (λ v. v.items ≡ at_places z.records (kind_places t m)) (λ v. v.items ≡ if_within (asked_region z 43 n) (asked_records z n t)) c.of_node.result c.of_node.ensures (λ v e. e ∙ node_asked_within z n 43 m r t)

pub returns-in-Missing : goal.returns-in-Missing
returns-in-Missing c = c.new.ensures.items ∙ missing_asked c.args.zone.now c.args.name.now 43 _ (subst (EndsAt c.args.zone.now 43 c.args.name.now) c.in-Missing.is c.in_ok-found.ensures) c.args.rtype

pub returns-in-Cut : goal.returns-in-Cut
returns-in-Cut c = c.new-in-Cut.ensures.items ∙ cut_none c.args.zone.now c.args.name.now 43 _ _ (subst (EndsAt c.args.zone.now 43 c.args.name.now) c.in-Cut.is c.in_ok-found.ensures)

pub returns-in-Dname : goal.returns-in-Dname
returns-in-Dname c = let r = subst (EndsAt c.args.zone.now 43 c.args.name.now) c.in-Dname.is c.in_ok-found.ensures in c.new-in-Dname.ensures.items ∙ dname_none c.args.zone.now c.args.name.now 43 _ _ r.0

use Rattle.std.proofs.Common.{◌≡◌, ℕ, List, ap, sym, subst, ◌∙◌}
use Rattle.dns_zone.specs.Places.{at_places}
use Rattle.dns_zone.specs.ZoneReply.{ZoneReply, referral}
use Rattle.dns_zone_tree.proofs.KeptLaws.{if_ok}
use Rattle.dns_zone_tree.specs.Kinds.{kind_places}
use Rattle.dns_zone_tree.specs.Regions.{Region, asked_region}
use Rattle.dns_zone_tree.specs.Walks.{EndsAt}
use Rattle.dns_name_server.specs.NameServerReplies.{by_dname, by_region}
use Rattle.dns_signed_reply.specs.PlainReplies.{StepsTo, behind, step_reply}
use Rattle.dns_signed_reply.specs.declared.step.Step.{Step}
use Rattle.dns_signed_reply.proofs.step.step_of.Goals as goal

pub returns-in-Cut : goal.returns-in-Cut
returns-in-Cut c =
    let z = c.args.zone.now in
    let t = c.args.rtype in
    let n = c.args.name.now in
    let old = c.args.given.now.items in
    let e = subst (EndsAt z t n) c.in-Cut.is c.in_ok-found.ensures in
    if_ok (λ (s : Step). (go : List (List ℕ) → ZoneReply) → step_reply go s ≡ referral z (at_places z.records (kind_places 2 c.in-Cut.kinds.now))) (λ (s : Step). StepsTo old old s (λ go. by_region z go t n (asked_region z t n))) c.at_cut.result c.at_cut.ensures
    (λ s g go. ap (behind old) (g go ∙ ap (by_region z go t n) (sym e)))

pub returns-in-Dname : goal.returns-in-Dname
returns-in-Dname c =
    let z = c.args.zone.now in
    let t = c.args.rtype in
    let n = c.args.name.now in
    let old = c.args.given.now.items in
    let new = c.at_dname.new.given.items in
    let e = subst (EndsAt z t n) c.in-Dname.is c.in_ok-found.ensures in
    if_ok (λ (s : Step). StepsTo old new s (λ go. by_dname go t n (at_places z.records (kind_places 39 c.in-Dname.kinds.now)))) (λ (s : Step). StepsTo old new s (λ go. by_region z go t n (asked_region z t n))) c.at_dname.result c.at_dname.ensures
    (λ s g go. g go ∙ ap (λ (r : Region). behind old (by_region z go t n r)) (sym e.0))

pub returns-in-Node : goal.returns-in-Node
returns-in-Node c = c.at_node.ensures c.args.name.now (subst (EndsAt c.args.zone.now c.args.rtype c.args.name.now) c.in-Node.is c.in_ok-found.ensures)

pub at_missing-requires : goal.at_missing-requires
at_missing-requires c = subst (EndsAt c.args.zone.now c.args.rtype c.args.name.now) c.in-Missing.is c.in_ok-found.ensures

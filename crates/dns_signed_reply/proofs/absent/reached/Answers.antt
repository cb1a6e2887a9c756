use Rattle.std.proofs.Common.{sym, subst, ◌∙◌}
use Rattle.dns_zone.specs.Owned.{asked_records}
use Rattle.dns_zone_tree.specs.Walks.{EndsAt}
use Rattle.dns_signed_reply.proofs.NodeLaws.{cut_none, dname_none, inside_is, missing_asked}
use Rattle.dns_signed_reply.proofs.absent.reached.Goals as goal

pub returns-in-Node : goal.returns-in-Node
returns-in-Node c = (c.requires, subst (EndsAt c.args.zone.now 43 c.args.name.now) c.in-Node.is c.in_ok-found.ensures)

pub returns-in-Missing : goal.returns-in-Missing
returns-in-Missing c = λ t.
    let z = c.args.zone.now in
    let n = c.args.name.now in
    let w = subst (EndsAt z 43 n) c.in-Missing.is c.in_ok-found.ensures in
    sym (missing_asked z n 43 _ w t ∙ inside_is z n (asked_records z n t) c.requires)

pub returns-in-Cut : goal.returns-in-Cut
returns-in-Cut c = λ t.
    let z = c.args.zone.now in
    let n = c.args.name.now in
    let w = subst (EndsAt z 43 n) c.in-Cut.is c.in_ok-found.ensures in
    sym (cut_none z n 43 _ (asked_records z n t) w ∙ inside_is z n (asked_records z n t) c.requires)

pub returns-in-Dname : goal.returns-in-Dname
returns-in-Dname c = λ t.
    let z = c.args.zone.now in
    let n = c.args.name.now in
    let w = subst (EndsAt z 43 n) c.in-Dname.is c.in_ok-found.ensures in
    sym (dname_none z n 43 _ (asked_records z n t) w.0 ∙ inside_is z n (asked_records z n t) c.requires)

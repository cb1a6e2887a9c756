use Rattle.std.proofs.Common.{subst}
use Rattle.dns_zone_tree.specs.Walks.{EndsAt}
use Rattle.std.proofs.lemmas.Bool.{true≢false}
use Rattle.std.proofs.Common.{sym, ◌∙◌}
use Rattle.dns_denial.proofs.StandLaws.{at_node}
use Rattle.dns_hashed_zone.proofs.ReachLaws.{not_cut, not_under}
use Rattle.dns_hashed_zone.proofs.check.is_right.Goals as goal

pub lists_types-requires : goal.lists_types-requires
lists_types-requires c =
    let z = c.args.zone.now in
    let name = c.args.name.now in
    at_node z name c.in-Node.kinds.now c.requires.zone (subst (EndsAt z 43 name) c.in-Node.is c.in_ok-found.ensures)

pub unreachable-requires : goal.unreachable-requires
unreachable-requires c =
    let e = subst (EndsAt c.args.zone.now 43 c.args.name.now) c.in-Missing.is c.in_ok-found.ensures in
    true≢false (sym c.requires.stands.there ∙ e.missing)

pub unreachable-requires-in-Cut : goal.unreachable-requires-in-Cut
unreachable-requires-in-Cut c =
    not_cut c.args.zone.now c.requires.zone c.args.name.now c.requires.stands _ (subst (EndsAt c.args.zone.now 43 c.args.name.now) c.in-Cut.is c.in_ok-found.ensures)

pub unreachable-requires-in-Dname : goal.unreachable-requires-in-Dname
unreachable-requires-in-Dname c =
    let e = subst (EndsAt c.args.zone.now 43 c.args.name.now) c.in-Dname.is c.in_ok-found.ensures in
    not_under c.args.zone.now c.requires.zone c.args.name.now c.requires.stands _ e.0

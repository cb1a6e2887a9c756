use Rattle.std.proofs.Common.{ℕ, List, subst}
use Rattle.dns_zone_tree.specs.Walks.{EndsAt}
use Rattle.dns_denial.proofs.StandLaws.{at_cut, at_node}
use Rattle.dns_denial.proofs.standing.standing_of.Goals as goal

pub returns-in-Node : goal.returns-in-Node
returns-in-Node c =
    let z = c.args.zone.now in
    let name = c.args.name.now in
    let e = subst (λ (n : List (List ℕ)). EndsAt z 43 n c.in_ok-found.found) c.for_ref.ensures.value c.in_ok-found.ensures in
    at_node z name c.in-Node.kinds.now c.requires (subst (EndsAt z 43 name) c.in-Node.is e)

pub returns-in-Cut : goal.returns-in-Cut
returns-in-Cut c =
    let z = c.args.zone.now in
    let name = c.args.name.now in
    let e = subst (λ (n : List (List ℕ)). EndsAt z 43 n c.in_ok-found.found) c.for_ref.ensures.value c.in_ok-found.ensures in
    at_cut z name _ c.requires (subst (EndsAt z 43 name) c.in-Cut.is e)

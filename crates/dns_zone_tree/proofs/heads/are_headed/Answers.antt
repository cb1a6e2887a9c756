use Rattle.std.proofs.Common.{◌≡◌, ◌+◌, ◌∷◌, true, drop, ap, sym, subst, ◌∙◌, arith}
use Rattle.std.specs.List.{AllByRecursion}
use Rattle.std.proofs.lemmas.Grind.{common_steps}
use Rattle.std.proofs.lemmas.List.{drop_all, drop_more}
use Rattle.dns_zone_tree.specs.Names.{IsHeaded}
use Rattle.dns_zone_tree.specs.declared.names.Node.{Node}
use Rattle.dns_zone_tree.proofs.heads.are_headed.Goals as goal

pub each-init : goal.each-init
each-init c = λ w. w

pub each-preserved : goal.each-preserved
each-preserved c = λ w.
    let o = c.args.octets.now in
    let rs = c.args.records.now in
    let ns = c.args.nodes.now in
    let i = c.each.node-index in
    let x = c.node-item.result in
    let b : c.in_ok-headed.headed ≡ true = grind (arith, common_steps) in
    let e = drop_more ns i x c.each-test.true ∙ ap (λ (y : Node). y ∷ drop (i + 1) ns) (sym c.node-item.is) in
    c.each.invariant (subst (AllByRecursion (IsHeaded o rs)) (sym e) (c.in_ok-headed.ensures b, w))

pub returns : goal.returns
returns c = λ t.
    c.each.invariant (subst (AllByRecursion (IsHeaded c.args.octets.now c.args.records.now)) (sym (drop_all c.each.node-index c.args.nodes.now (omega arith))) tt)

use Rattle.std.proofs.Common.{◌≡◌, ℕ, List, ap, sym, subst, ◌∙◌}
use Rattle.dns_zone_tree.specs.Nodes.{AreOrdered, Names, key_of, kinds_among, kinds_by}
use Rattle.dns_zone_tree.specs.declared.kinds.Kinds.{Kinds}
use Rattle.dns_zone_tree.specs.declared.names.Node.{Node}
use Rattle.dns_zone_tree.proofs.SearchLaws.{found_at, kept_by}
use Rattle.dns_zone_tree.proofs.names.Names.kinds_at.Goals as goal

pub count_before-requires : goal.count_before-requires
count_before-requires c =
    subst (λ (l : List ℕ). AreOrdered l c.as_slice-nodes.result.now) (sym c.as_slice-octets.ensures.value)
    (subst (λ (l : List Node). AreOrdered c.self.inside.octets.items l) (sym c.as_slice-nodes.ensures.value) c.self.invariant.ordered)

pub returns-in-Some : goal.returns-in-Some
returns-in-Some c =
    let z = c.args.self.now in
    let p = c.args.key.now in
    let a = c.as_slice-octets.result.now in
    let b = c.as_slice-nodes.result.now in
    let ea : a ≡ z.octets = c.as_slice-octets.ensures.value ∙ ap (λ (n : Names). n.octets) c.self.view_is in
    let eb : b ≡ z.nodes = c.as_slice-nodes.ensures.value ∙ ap (λ (n : Names). n.nodes) c.self.view_is in
    let w = subst (λ (n : Names). AreOrdered n.octets n.nodes) c.self.view_is c.self.invariant.ordered in
    let v = subst (λ (l : List ℕ). AreOrdered l b) (sym ea) (subst (λ (l : List Node). AreOrdered z.octets l) (sym eb) w) in
    let found = found_at a z.none p b c.count_before.result v c.count_before.ensures in
    let n = c.in-Some.node.now in
    let none : c.self.inside.none ≡ z.none = ap (λ (x : Names). x.none) c.self.view_is in
    c.kinds_by.ensures
    ∙ (ap (λ (l : List ℕ). kinds_by l p n.kinds c.self.inside.none) c.key_of.ensures
    ∙ (ap (λ (k : Kinds). kinds_by (key_of a n.span) p n.kinds k) none
    ∙ (ap (kept_by a z.none p) c.in-Some.ensures ∙ (sym found ∙ (λ i. kinds_among (ea i) z.none p (eb i))))))

pub returns-in-None : goal.returns-in-None
returns-in-None c =
    let z = c.args.self.now in
    let p = c.args.key.now in
    let a = c.as_slice-octets.result.now in
    let b = c.as_slice-nodes.result.now in
    let ea : a ≡ z.octets = c.as_slice-octets.ensures.value ∙ ap (λ (n : Names). n.octets) c.self.view_is in
    let eb : b ≡ z.nodes = c.as_slice-nodes.ensures.value ∙ ap (λ (n : Names). n.nodes) c.self.view_is in
    let w = subst (λ (n : Names). AreOrdered n.octets n.nodes) c.self.view_is c.self.invariant.ordered in
    let v = subst (λ (l : List ℕ). AreOrdered l b) (sym ea) (subst (λ (l : List Node). AreOrdered z.octets l) (sym eb) w) in
    let found = found_at a z.none p b c.count_before.result v c.count_before.ensures in
    ap (kept_by a z.none p) c.in-None.ensures ∙ (sym found ∙ (λ i. kinds_among (ea i) z.none p (eb i)))

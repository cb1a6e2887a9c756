use Rattle.std.proofs.Common.{◌≡◌, ◌<◌, ◌-◌, false, nat_eq, ℕ, List, [], ◌∷◌, length, map, ap, subst, ◌∙◌, arith}
use Rattle.std.specs.List.{AllByRecursion, filter}
use Rattle.std.specs.Option.{option_copied}
use Rattle.std.proofs.lemmas.Bool.Decides.{nat_tests}
use Rattle.dns_zone.specs.ZoneIndex.{IsInZone}
use Rattle.dns_zone.specs.Owned.{ZoneState, is_asked, is_of}
use Rattle.dns_zone.specs.Places.{places}
use Rattle.dns_zone.specs.ZoneReply.{negative_soa}
use Rattle.dns_zone_tree.specs.Kinds.{kind_places}
use Rattle.dns_zone_tree.specs.Walks.{IsNode}
use Rattle.dns_zone_tree.proofs.KindLaws.{at_false, at_true}
use Rattle.dns_zone_tree.proofs.WayLaws.{onward, way_apex, way_cut, way_dname, way_first, way_missing, way_next, way_node}
use Rattle.dns_zone_tree.proofs.zone_tree.ZoneTree.walk.Goals as goal

pub down-init : goal.down-init
down-init c =
    let z = c.args.self.now in
    let w = subst (λ (x : ZoneState). AllByRecursion (IsInZone x.apex) x.records) c.self.view_is c.self.invariant.within in
    let s = subst (λ (x : ZoneState). map negative_soa (filter (is_of 6) x.records) ≡ c.self.inside.negative ∷ []) c.self.view_is c.self.invariant.soa in
    let d : (t : ℕ) → kind_places t c.self.inside.top ≡ places (is_asked z.apex t) z.records = λ t. c.self.invariant.top_ t ∙ ap (λ (x : ZoneState). places (is_asked x.apex t) x.records) c.self.view_is in
    way_first z c.args.name.now c.levels-left.result c.self.inside.top c.self.inside.negative w s c.requires c.levels-left.ensures d

pub returns-then-has : goal.returns-then-has
returns-then-has c =
    let z = c.args.self.now in
    let w = subst (λ (x : ZoneState). AllByRecursion (IsInZone x.apex) x.records) c.self.view_is c.self.invariant.within in
    let some : 0 < length (kind_places c.to_int.result c.down.last.now) = at_true _ _ c.has.result c.has.ensures c.if-has.true in
    let l : 0 < length (kind_places 39 c.down.last.now) = subst (λ (t : ℕ). 0 < length (kind_places t c.down.last.now)) c.to_int.ensures.value some in
    way_dname z w c.args.name.now (c.down.left - 1) c.down.last.now (onward z c.args.name.now c.down.left c.down.last.now c.down-test.true c.down.invariant) c.args.rtype l

pub returns-in-None : goal.returns-in-None
returns-in-None c =
    let z = c.args.self.now in
    let w = subst (λ (x : ZoneState). AllByRecursion (IsInZone x.apex) x.records) c.self.view_is c.self.invariant.within in
    let none : kind_places c.to_int.result c.down.last.now ≡ [] = at_false _ _ c.has.result c.has.ensures c.if-has.false in
    let l : kind_places 39 c.down.last.now ≡ [] = subst (λ (t : ℕ). kind_places t c.down.last.now ≡ []) c.to_int.ensures.value none in
    let n = subst (λ (x : List (List ℕ)). IsNode z x (option_copied c.in_ok-found.found)) c.behind.ensures c.in_ok-found.ensures in
    let on = onward z c.args.name.now c.down.left c.down.last.now c.down-test.true c.down.invariant in
    way_missing z w c.args.name.now (c.down.left - 1) c.down.last.now on l c.args.rtype (option_copied c.in_ok-found.found) n (ap option_copied c.in-None.is)

pub returns-then-is_cut : goal.returns-then-is_cut
returns-then-is_cut c =
    let z = c.args.self.now in
    let w = subst (λ (x : ZoneState). AllByRecursion (IsInZone x.apex) x.records) c.self.view_is c.self.invariant.within in
    let none : kind_places c.to_int.result c.down.last.now ≡ [] = at_false _ _ c.has.result c.has.ensures c.if-has.false in
    let l : kind_places 39 c.down.last.now ≡ [] = subst (λ (t : ℕ). kind_places t c.down.last.now ≡ []) c.to_int.ensures.value none in
    let n = subst (λ (x : List (List ℕ)). IsNode z x (option_copied c.in_ok-found.found)) c.behind.ensures c.in_ok-found.ensures in
    let on = onward z c.args.name.now c.down.left c.down.last.now c.down-test.true c.down.invariant in
    way_cut z w c.args.name.now (c.down.left - 1) c.down.last.now on l c.in-Some.kinds.now (option_copied c.in_ok-found.found) n (ap option_copied c.in-Some.is) c.args.rtype (at_true _ _ c.is_cut.result c.is_cut.ensures c.if-is_cut.true)

pub returns-then-left-eq0 : goal.returns-then-left-eq0
returns-then-left-eq0 c =
    let z = c.args.self.now in
    let w = subst (λ (x : ZoneState). AllByRecursion (IsInZone x.apex) x.records) c.self.view_is c.self.invariant.within in
    let none : kind_places c.to_int.result c.down.last.now ≡ [] = at_false _ _ c.has.result c.has.ensures c.if-has.false in
    let l : kind_places 39 c.down.last.now ≡ [] = subst (λ (t : ℕ). kind_places t c.down.last.now ≡ []) c.to_int.ensures.value none in
    let n = subst (λ (x : List (List ℕ)). IsNode z x (option_copied c.in_ok-found.found)) c.behind.ensures c.in_ok-found.ensures in
    let on = onward z c.args.name.now c.down.left c.down.last.now c.down-test.true c.down.invariant in
    way_node z w c.args.name.now (c.down.left - 1) c.down.last.now on l c.in-Some.kinds.now (option_copied c.in_ok-found.found) n (ap option_copied c.in-Some.is) c.args.rtype (at_false _ _ c.is_cut.result c.is_cut.ensures c.if-is_cut.false) c.if-left-eq0.true

pub down-preserved : goal.down-preserved
down-preserved c =
    let z = c.args.self.now in
    let w = subst (λ (x : ZoneState). AllByRecursion (IsInZone x.apex) x.records) c.self.view_is c.self.invariant.within in
    let none : kind_places c.to_int.result c.down.last.now ≡ [] = at_false _ _ c.has.result c.has.ensures c.if-has.false in
    let l : kind_places 39 c.down.last.now ≡ [] = subst (λ (t : ℕ). kind_places t c.down.last.now ≡ []) c.to_int.ensures.value none in
    let n = subst (λ (x : List (List ℕ)). IsNode z x (option_copied c.in_ok-found.found)) c.behind.ensures c.in_ok-found.ensures in
    let on = onward z c.args.name.now c.down.left c.down.last.now c.down-test.true c.down.invariant in
    let e : nat_eq (c.down.left - 1) 0 ≡ false = grind (arith, nat_tests) in
    way_next z w c.args.name.now (c.down.left - 1) c.down.last.now on l c.in-Some.kinds.now (option_copied c.in_ok-found.found) n (ap option_copied c.in-Some.is) c.args.rtype (at_false _ _ c.is_cut.result c.is_cut.ensures c.if-is_cut.false) e

pub returns : goal.returns
returns c = way_apex c.args.self.now c.args.rtype c.args.name.now c.down.left c.down.last.now (omega arith) c.down.invariant

use Rattle.std.proofs.Common.{◌≡◌, ◌+◌, ◌++◌, ℕ, ap, sym, subst, ◌∙◌, arith}
use Rattle.std.specs.List.{slice_get}
use Rattle.std.specs.declared.vec.Vec.{Vec}
use Rattle.std.specs.declared.alloc.Global.{Global}
use Rattle.dns_zone.specs.declared.aliases.Lead.{Lead}
use Rattle.dns_zone.specs.Aliases.{followed}
use Rattle.dns_zone.specs.Found.{TargetLeadsTo, target_of}
use Rattle.dns_zone.specs.Places.{at_places}
use Rattle.dns_zone.proofs.AliasLaws.{OnTrail, first_of_places, no_first, some_first, trail_alias, trail_found, trail_last, trail_nowhere}
use Rattle.dns_zone.proofs.KeepLaws.{if_ok}
use Rattle.dns_zone.proofs.zone.Zone.trail.Goals as goal
use Rattle.dns_zone.proofs.zone.Zone.trail.Goals.{else-aliases-test, then-aliases-test+in_default}

pub returns-in-Found : goal.returns-in-Found
returns-in-Found c = λ name a.
    let z = c.args.self.now in
    let f = first_of_places c.aliases.next.now c.in-Some.place.now c.in-Some.ensures.value in
    let l = subst (λ (x : Lead). TargetLeadsTo z c.args.rtype (target_of (slice_get z.records c.in-Some.place.now)) x) c.in-Found.is c.in_ok-more.ensures.1 in
    let g = trail_found z c.args.rtype name c.aliases._given c.aliases.trail.items c.aliases.next.now f.0 c.in-Some.place.now f.1 (c.aliases.invariant name a) c.aliases-test.true c.in-Found.found.now l in
    if_ok (λ (v : Vec ℕ Global). v.items ≡ c.given.new.trail.items ++ c.in-Found.found.now) (λ (v : Vec ℕ Global). at_places z.records v.items ≡ followed z c.args.rtype 8 name) c.extended.result c.extended.ensures
    (λ v h. ap (at_places z.records) (h ∙ ap (λ is. is ++ c.in-Found.found.now) c.in_ok-more.ensures.0) ∙ g)

pub returns-in-Nowhere : goal.returns-in-Nowhere
returns-in-Nowhere c = λ name a.
    let z = c.args.self.now in
    let f = first_of_places c.aliases.next.now c.in-Some.place.now c.in-Some.ensures.value in
    let l = subst (λ (x : Lead). TargetLeadsTo z c.args.rtype (target_of (slice_get z.records c.in-Some.place.now)) x) c.in-Nowhere.is c.in_ok-more.ensures.1 in
    ap (at_places z.records) c.in_ok-more.ensures.0
    ∙ trail_nowhere z c.args.rtype name c.aliases._given c.aliases.trail.items c.aliases.next.now f.0 c.in-Some.place.now f.1 (c.aliases.invariant name a) c.aliases-test.true l

pub aliases-preserved : goal.aliases-preserved
aliases-preserved c = λ name a.
    let z = c.args.self.now in
    let f = first_of_places c.aliases.next.now c.in-Some.place.now c.in-Some.ensures.value in
    let l = subst (λ (x : Lead). TargetLeadsTo z c.args.rtype (target_of (slice_get z.records c.in-Some.place.now)) x) c.in-Alias.is c.in_ok-more.ensures.1 in
    subst (λ is. OnTrail z c.args.rtype name (c.aliases._given + 1) is c.in-Alias.more.now) (sym c.in_ok-more.ensures.0)
    (trail_alias z c.args.rtype name c.aliases._given c.aliases.trail.items c.aliases.next.now f.0 c.in-Some.place.now f.1 (c.aliases.invariant name a) c.aliases-test.true l.0 c.in-Alias.more.now l.1 l.2)

pub returns : goal.returns
returns c = λ name a.
    let z = c.args.self.now in
    let o = c.aliases.invariant name a in
    elim c.aliases-test.branch [
      | else-aliases-test w ↦
          let n : c.aliases._given ≡ 8 = omega arith in
          let s = some_first c.aliases.next.now o.are.some in
          let f = first_of_places c.aliases.next.now s.0 s.1 in
          trail_last z c.args.rtype name c.aliases.trail.items c.aliases.next.now f.0 s.0 f.1 (subst (λ k. OnTrail z c.args.rtype name k c.aliases.trail.items c.aliases.next.now) n o)
      | then-aliases-test+in_default w ↦ absurd (no_first c.aliases.next.now w.in_default.ensures.value o.are.some)
    ]

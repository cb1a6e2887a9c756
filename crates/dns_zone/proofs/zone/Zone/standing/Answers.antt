use Rattle.std.proofs.Common.{◌≡◌, ◌+◌, ◌-◌, ◌≤◌, length, take, get_or, ap, sym, subst, ◌∙◌, arith}
use Rattle.std.specs.List.{AllByRecursion}
use Rattle.std.specs.Option.{option_copied}
use Rattle.std.proofs.lemmas.List.{length-take, take_all}
use Rattle.dns_name.specs.Labels.{spell}
use Rattle.dns_zone.specs.ZoneIndex.{IsInZone, KnowsPlaces, places_in, places_under}
use Rattle.dns_zone.specs.Owned.{ZoneState}
use Rattle.dns_zone.proofs.CutLaws.{along_first, cut_found, cut_none, cut_passed, ends_like, part_within, path_length}
use Rattle.dns_zone.proofs.KeepLaws.{places_asked}
use Rattle.dns_zone.proofs.StandingLaws.{stands_within}
use Rattle.dns_zone.proofs.zone.Zone.standing.Goals as goal

pub overflow_sub-end : goal.overflow_sub-end
overflow_sub-end c = omega (arith, ap length c.as_slice.ensures.value, path_length c.self.inside.apex)

pub labels-init : goal.labels-init
labels-init c = λ name e h.
    along_first c.args.self.now name c.args.path.now (length c.as_slice.result.now - 1) h
    (omega (arith, ap length c.as_slice.ensures.value, ap (λ (z : ZoneState). length (spell z.apex)) c.self.view_is, path_length c.self.inside.apex))

pub slice_bounds-kinds_at-end : goal.slice_bounds-kinds_at-end
slice_bounds-kinds_at-end c =
    let k = c.labels.end + (get_or c.args.path.now c.labels.end 0 + 1) in
    let known = subst (λ (z : ZoneState). KnowsPlaces c.self.inside.names z.records) c.self.view_is c.self.invariant.known in
    let within = subst (λ (z : ZoneState). AllByRecursion (IsInZone z.apex) z.records) c.self.view_is c.self.invariant.within in
    let w = part_within c.args.self.now c.self.inside.names known within c.requires.name c.args.path.now c.labels.end c.requires.is (c.labels.invariant c.requires.name c.requires.is c.requires.within) c.labels-test.true in
    omega (arith, length-take k c.args.path.now, w)

pub returns-in-Some : goal.returns-in-Some
returns-in-Some c = λ name e.
    let known = subst (λ (z : ZoneState). KnowsPlaces c.self.inside.names z.records) c.self.view_is c.self.invariant.known in
    let within = subst (λ (z : ZoneState). AllByRecursion (IsInZone z.apex) z.records) c.self.view_is c.self.invariant.within in
    let h = ends_like c.requires.name name c.args.self.now.apex (sym c.requires.is ∙ e) c.requires.within in
    let two : c.to_int.result ≡ 2 = c.to_int.ensures.value in
    cut_found c.args.self.now c.self.inside.names known within name c.args.path.now c.labels.end e (c.labels.invariant name e h) c.labels-test.true c.in-Some.servers.now
    (c.in-Some.ensures.0 ∙ (ap (λ t. places_in t (option_copied c.kinds_at-kinds.result)) two ∙ ap (places_in 2) c.kinds_at-kinds.ensures)) c.in-Some.ensures.1

pub labels-preserved : goal.labels-preserved
labels-preserved c = λ name e h.
    let known = subst (λ (z : ZoneState). KnowsPlaces c.self.inside.names z.records) c.self.view_is c.self.invariant.known in
    let within = subst (λ (z : ZoneState). AllByRecursion (IsInZone z.apex) z.records) c.self.view_is c.self.invariant.within in
    let two : c.to_int.result ≡ 2 = c.to_int.ensures.value in
    cut_passed c.args.self.now c.self.inside.names known within name c.args.path.now c.labels.end e (c.labels.invariant name e h) c.labels-test.true
    (sym (ap (λ t. places_in t (option_copied c.kinds_at-kinds.result)) two ∙ ap (places_in 2) c.kinds_at-kinds.ensures) ∙ c.in_default.ensures)

pub returns-then-end-path : goal.returns-then-end-path
returns-then-end-path c = λ name e.
    let k = c.labels.end + (get_or c.args.path.now c.labels.end 0 + 1) in
    let known = subst (λ (z : ZoneState). KnowsPlaces c.self.inside.names z.records) c.self.view_is c.self.invariant.known in
    let within = subst (λ (z : ZoneState). AllByRecursion (IsInZone z.apex) z.records) c.self.view_is c.self.invariant.within in
    let h = ends_like c.requires.name name c.args.self.now.apex (sym c.requires.is ∙ e) c.requires.within in
    let two : c.to_int.result ≡ 2 = c.to_int.ensures.value in
    let along = cut_passed c.args.self.now c.self.inside.names known within name c.args.path.now c.labels.end e (c.labels.invariant name e h) c.labels-test.true
    (sym (ap (λ t. places_in t (option_copied c.kinds_at-kinds.result)) two ∙ ap (places_in 2) c.kinds_at-kinds.ensures) ∙ c.in_default.ensures) in
    let whole : length c.args.path.now ≤ k = omega (arith, c.if-end-path.true) in
    stands_within c.args.self.now name (option_copied c.kinds_at-kinds.result) c.within.result c.within.ensures
    (cut_none c.args.self.now c.self.inside.names known within name c.args.path.now k e along whole)
    (λ t. ap (places_in t) c.kinds_at-kinds.ensures ∙ (ap (λ p. places_under c.self.inside.names p t) (take_all k c.args.path.now whole) ∙ places_asked c.self.inside.names c.args.self.now.records c.args.path.now name t known e))

pub returns : goal.returns
returns c = λ name e.
    let known = subst (λ (z : ZoneState). KnowsPlaces c.self.inside.names z.records) c.self.view_is c.self.invariant.known in
    let within = subst (λ (z : ZoneState). AllByRecursion (IsInZone z.apex) z.records) c.self.view_is c.self.invariant.within in
    let h = ends_like c.requires.name name c.args.self.now.apex (sym c.requires.is ∙ e) c.requires.within in
    stands_within c.args.self.now name (option_copied c.kinds_of.result) c.within-2.result c.within-2.ensures
    (cut_none c.args.self.now c.self.inside.names known within name c.args.path.now c.labels.end e (c.labels.invariant name e h) c.labels-test.false) (c.kinds_of.ensures name e)

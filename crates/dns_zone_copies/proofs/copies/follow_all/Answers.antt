use Rattle.std.proofs.Common.{◌≡◌, ◌∙◌, ◌<◌, ◌∷◌, List, ap, arith, get_or, length, subst}
use Rattle.std.proofs.lemmas.List.{nil_from_length}
use Rattle.dns_config.specs.declared.config.ZoneEntry.{ZoneEntry}
use Rattle.dns_zone_copies.specs.Following.{HasSecondary}
use Rattle.dns_zone_copies.specs.Secondaries.{SecondaryState}
use Rattle.dns_zone_copies.proofs.Follows.{makes_all, makes_more, makes_short}
use Rattle.dns_zone_copies.proofs.copies.follow_all.Goals as goal

pub returns-in-None : goal.returns-in-None
returns-in-None g c =
    makes_short c.args.zones.now c.args.keys.now c.args.config.now.zone.items c.args.summaries.now c.args.now _ c.each.left.now c.each.secondaries.items (nil_from_length c.each.left.now c.in-None.ensures.cases) c.each.invariant.makes

pub each-preserved : goal.each-preserved
each-preserved g c =
    let zones = c.args.zones.now in
    let es = c.args.config.now.zone.items in
    let i = c.each.entry-index in
    let e = c.entry-item.result in
    let s = c.in-Some.both.0.now in
    let later = c.in-Some.both.1.now in
    let first = c.in_ok-secondary.secondary in
    let same : c.deref-entry-items.result.now ≡ es = c.deref-entry-items.ensures.value in
    let many : length c.deref-entry-items.result.now ≡ length es = ap length same in
    let lt : i < length es = omega arith in
    let is : e ≡ get_or es i e = subst (λ (xs : List ZoneEntry). e ≡ get_or xs i e) same c.entry-item.is in
    let left_is : c.each.left.now ≡ s ∷ later = c.in-Some.ensures.cases.0 in
    let has : HasSecondary zones c.args.keys.now e e.primary s.timers c.args.now first =
    subst (λ (zs : List SecondaryState). HasSecondary zs c.args.keys.now e e.primary s.timers c.args.now first) c.each.invariant.zones c.in_ok-secondary.ensures.secondary in
    record {
      zones = c.in_ok-secondary.ensures.before ∙ c.each.invariant.zones;
      makes = makes_more zones c.args.keys.now es c.args.summaries.now c.args.now i e s c.each.left.now later first c.each.secondaries.items c.put.new.secondaries.items lt is left_is has c.in_ok-put.ensures c.each.invariant.makes;
    }

pub returns : goal.returns
returns g c =
    makes_all c.args.zones.now c.args.keys.now c.args.config.now.zone.items c.args.summaries.now c.args.now c.each.entry-index c.each.left.now c.each.secondaries.items (omega arith) c.each.invariant.makes

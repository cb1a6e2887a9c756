use Rattle.std.proofs.Common.{◌≡◌, ◌<◌, ◌∷◌, List, ap, arith, drop, get_or, length, subst}
use Rattle.std.proofs.lemmas.List.{nil_from_length}
use Rattle.dns_config.specs.declared.config.ZoneEntry.{ZoneEntry}
use Rattle.zoned.proofs.Loaded.{makes_all, makes_more, makes_short}
use Rattle.zoned.proofs.load.summaries_without.Goals as goal

pub returns-in-None : goal.returns-in-None
returns-in-None c =
    let es = c.args.config.now.zone.items in
    makes_short c.args.secondaries.now es c.args.summaries.now (drop c.each.entry-index es) c.each.left.now c.each.others.items
    (nil_from_length c.each.left.now c.in-None.ensures.cases) c.each.invariant

pub each-preserved : goal.each-preserved
each-preserved c =
    let ss = c.args.secondaries.now in
    let es = c.args.config.now.zone.items in
    let i = c.each.entry-index in
    let e = c.entry-item.result in
    let z = c.in-Some.both.0.now in
    let later = c.in-Some.both.1.now in
    let same : c.deref-entry-items.result.now ≡ es = c.deref-entry-items.ensures.value in
    let many : length c.deref-entry-items.result.now ≡ length es = ap length same in
    let lt : i < length es = omega arith in
    let is : e ≡ get_or es i e = subst (λ (xs : List ZoneEntry). e ≡ get_or xs i e) same c.entry-item.is in
    let left_is : c.each.left.now ≡ z ∷ later = c.in-Some.ensures.cases.0 in
    makes_more ss es c.args.summaries.now i e z c.each.left.now later c.near-its.result.now c.summary_without.result c.each.others.items
    c.push.new.self.items lt is left_is c.near-its.ensures c.summary_without.ensures c.in_ok-push.ensures.items c.each.invariant

pub returns : goal.returns
returns c =
    let es = c.args.config.now.zone.items in
    let many : length c.deref-entry-items.result.now ≡ length es = ap length c.deref-entry-items.ensures.value in
    makes_all c.args.secondaries.now es c.args.summaries.now c.each.entry-index c.each.left.now c.each.others.items (omega arith) c.each.invariant

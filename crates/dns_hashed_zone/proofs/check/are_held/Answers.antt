use Rattle.std.proofs.Common.{◌≡◌, ℕ, ◌+◌, ◌-◌, ◌≤◌, Bool, true, false, List, length, drop, ap, subst, sym, ◌∙◌, arith, length-drop}
use Rattle.std.specs.Prelude.{◌&&◌}
use Rattle.std.specs.List.{list_all}
use Rattle.std.proofs.lemmas.Bool.{true≢false}
use Rattle.dns_denial.proofs.NameLaws.{ends_short}
use Rattle.dns_hashed_zone.specs.HashedChecks.{is_held, zone_names}
use Rattle.dns_hashed_zone.proofs.DownLaws.{IsDown, all_down, level_down, level_inside, level_lost, level_stands, level_top}
use Rattle.dns_hashed_zone.proofs.HeldLaws.{above_here, some_matched, top_matched}
use Rattle.dns_hashed_zone.proofs.MarkLaws.{marked_length}
use Rattle.dns_hashed_zone.proofs.check.are_held.Goals as goal

pub overflow_sub-left : goal.overflow_sub-left
overflow_sub-left c = omega (arith, ends_short c.args.name.now c.args.zone.now.apex c.requires.inside, c.label_count.ensures, c.label_count-2.ensures, ap length c.apex.ensures)

-- the apex but for case

pub held_at-requires-clause-some : goal.held_at-requires-clause-some
held_at-requires-clause-some c = some_matched c.args.hashing.now c.args.nsecs.now c.args.zone.now.apex (sym c.requires.rooted ∙ c.if-not-rooted.false)

pub held_at-requires-clause-inside : goal.held_at-requires-clause-inside
held_at-requires-clause-inside c =
    let z = c.args.zone.now in
    let name = c.args.name.now in
    level_inside z name c.behind-top.result (c.label_count.result - c.label_count-2.result) c.requires.inside c.behind-top.ensures
    (omega (arith, ends_short name z.apex c.requires.inside, c.label_count.ensures, c.label_count-2.ensures, ap length c.apex.ensures))

pub held_at-requires-clause-stands : goal.held_at-requires-clause-stands
held_at-requires-clause-stands c =
    let z = c.args.zone.now in
    let name = c.args.name.now in
    level_stands z name c.behind-top.result (c.label_count.result - c.label_count-2.result) c.requires.inside c.behind-top.ensures
    (omega (arith, ends_short name z.apex c.requires.inside, c.label_count.ensures, c.label_count-2.ensures, ap length c.apex.ensures)) c.requires.stands

pub held_at-requires-clause-above : goal.held_at-requires-clause-above
held_at-requires-clause-above c =
    let z = c.args.zone.now in
    let name = c.args.name.now in
    let h = c.args.hashing.now in
    let ns = c.args.nsecs.now in
    let k = c.label_count.result - c.label_count-2.result in
    let s : k + length z.apex ≡ length name = omega (arith, ends_short name z.apex c.requires.inside, c.label_count.ensures, c.label_count-2.ensures, ap length c.apex.ensures) in
    let l : length c.behind-top.result ≡ length z.apex = ap length c.behind-top.ensures ∙ omega (arith, s, length-drop k name) in
    λ f. absurd (true≢false (sym (top_matched h ns z.apex c.behind-top.result (sym c.requires.rooted ∙ c.if-not-rooted.false) (level_inside z name c.behind-top.result k c.requires.inside c.behind-top.ensures (omega (arith, s))) l) ∙ f))

pub labels-init : goal.labels-init
labels-init c =
    let z = c.args.zone.now in
    let name = c.args.name.now in
    let h = c.args.hashing.now in
    let ns = c.args.nsecs.now in
    let k = c.label_count.result - c.label_count-2.result in
    let s : k + length z.apex ≡ length name = omega (arith, ends_short name z.apex c.requires.inside, c.label_count.ensures, c.label_count-2.ensures, ap length c.apex.ensures) in
    let p = rw c.in-Some.is at c.in_ok-above.ensures.held in
    let m = rw c.in-Some.is at c.in_ok-above.ensures.met in
    record {
      few = omega (arith, s);
      down = level_top z name c.behind-top.result k c.requires.inside c.behind-top.ensures (omega (arith, s)) h ns c.args.firm c.args.met.now c.in-Some.above c.held_at.new.met s p.0 p.1 m;
      many = ap length m ∙ marked_length h c.behind-top.result ns c.args.met.now c.requires.many;
    }

pub returns-in_default-clause-held : goal.returns-in_default-clause-held
returns-in_default-clause-held c =
    let z = c.args.zone.now in
    let name = c.args.name.now in
    let k = c.label_count.result - c.label_count-2.result in
    let s : k + length z.apex ≡ length name = omega (arith, ends_short name z.apex c.requires.inside, c.label_count.ensures, c.label_count-2.ensures, ap length c.apex.ensures) in
    sym (level_lost z name c.behind-top.result k c.requires.inside c.behind-top.ensures (omega (arith, s)) c.args.hashing.now c.args.nsecs.now c.args.firm c.args.met.now (rw c.in_default.is at c.in_ok-above.ensures.held))

-- the names below it

pub held_at-requires-in-labels-clause-some : goal.held_at-requires-in-labels-clause-some
held_at-requires-in-labels-clause-some c = some_matched c.args.hashing.now c.args.nsecs.now c.args.zone.now.apex (sym c.requires.rooted ∙ c.if-not-rooted.false)

pub held_at-requires-in-labels-clause-inside : goal.held_at-requires-in-labels-clause-inside
held_at-requires-in-labels-clause-inside c =
    level_inside c.args.zone.now c.args.name.now c.behind-one.result (c.labels.left - 1) c.requires.inside c.behind-one.ensures (omega (arith, c.labels.invariant.few))

pub held_at-requires-in-labels-clause-stands : goal.held_at-requires-in-labels-clause-stands
held_at-requires-in-labels-clause-stands c =
    level_stands c.args.zone.now c.args.name.now c.behind-one.result (c.labels.left - 1) c.requires.inside c.behind-one.ensures (omega (arith, c.labels.invariant.few)) c.requires.stands

pub held_at-requires-in-labels-clause-above : goal.held_at-requires-in-labels-clause-above
held_at-requires-in-labels-clause-above c =
    let q : c.labels.left ≡ (c.labels.left - 1) + 1 = omega (arith, c.labels-test.true) in
    λ f. above_here c.args.hashing.now c.args.nsecs.now (c.labels.left - 1) c.labels.left c.args.name.now c.behind-one.result c.labels.above q c.behind-one.ensures c.labels.invariant.down.above_

pub held_at-requires-in-labels-clause-many : goal.held_at-requires-in-labels-clause-many
held_at-requires-in-labels-clause-many c = c.labels.invariant.many

pub labels-preserved : goal.labels-preserved
labels-preserved c =
    let z = c.args.zone.now in
    let name = c.args.name.now in
    let h = c.args.hashing.now in
    let ns = c.args.nsecs.now in
    let i = c.labels.invariant in
    let k = c.labels.left - 1 in
    let q : c.labels.left ≡ k + 1 = omega (arith, c.labels-test.true) in
    let p = rw c.in-Some-2.is at c.in_ok-matched.ensures.held in
    let m = rw c.in-Some-2.is at c.in_ok-matched.ensures.met in
    record {
      few = omega (arith, i.few);
      down =
          level_down z name c.behind-one.result k c.requires.inside c.behind-one.ensures (omega (arith, i.few)) h ns c.args.firm c.args.met.now c.labels.left c.labels.above c.in-Some-2.matched c.labels.met
          c.held_at-in-labels.new.met q i.few p.0 p.1 m i.down;
      many = ap length m ∙ marked_length h c.behind-one.result ns c.labels.met i.many;
    }

pub returns-in-None-clause-held : goal.returns-in-None-clause-held
returns-in-None-clause-held c =
    sym (level_lost c.args.zone.now c.args.name.now c.behind-one.result (c.labels.left - 1) c.requires.inside c.behind-one.ensures (omega (arith, c.labels.invariant.few)) c.args.hashing.now c.args.nsecs.now c.args.firm c.args.met.now
    (rw c.in-None.is at c.in_ok-matched.ensures.held))

pub returns-in-None-clause-many : goal.returns-in-None-clause-many
returns-in-None-clause-many c = (rw c.in-None.is at c.in_ok-matched.ensures.met) ∙ (c.labels.invariant.many ∙ sym c.requires.many)

-- at the end

pub returns-clause-held : goal.returns-clause-held
returns-clause-held c =
    let z = c.args.zone.now in
    let h = c.args.hashing.now in
    let ns = c.args.nsecs.now in
    let e : c.labels.left ≡ 0 = omega (arith, c.labels-test.false) in
    let d = subst (λ (k : ℕ). IsDown z h ns c.args.firm c.args.name.now c.args.met.now k c.labels.above c.labels.met) e c.labels.invariant.down in
    sym (all_down z h ns c.args.firm c.args.name.now c.args.met.now c.labels.above c.labels.met (sym c.requires.rooted ∙ c.if-not-rooted.false) d)

pub returns-clause-met : goal.returns-clause-met
returns-clause-met c =
    let e : c.labels.left ≡ 0 = omega (arith, c.labels-test.false) in
    let d = subst (λ (k : ℕ). IsDown c.args.zone.now c.args.hashing.now c.args.nsecs.now c.args.firm c.args.name.now c.args.met.now k c.labels.above c.labels.met) e c.labels.invariant.down in
    λ t. d.met_

pub returns-clause-many : goal.returns-clause-many
returns-clause-many c = c.labels.invariant.many ∙ sym c.requires.many

pub returns-then-not-rooted-clause-held : goal.returns-then-not-rooted-clause-held
returns-then-not-rooted-clause-held c =
    let z = c.args.zone.now in
    let h = c.args.hashing.now in
    let ns = c.args.nsecs.now in
    sym (ap (λ (b : Bool). b && list_all (is_held z h ns c.args.firm) (zone_names z c.args.name.now)) (sym c.requires.rooted ∙ c.if-not-rooted.true))

pub returns-then-not-rooted-clause-met : goal.returns-then-not-rooted-clause-met
returns-then-not-rooted-clause-met c = λ t. absurd (true≢false (sym t))

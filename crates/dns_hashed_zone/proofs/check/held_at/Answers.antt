use Rattle.std.proofs.Common.{◌≡◌, true, false, subst, sym, ◌∙◌}
use Rattle.dns_hashed_zone.proofs.HeldLaws.{above_false, above_true, held_by, marked_here, spared_here}
use Rattle.dns_hashed_zone.proofs.MarkLaws.{marked_none}
use Rattle.dns_hashed_zone.proofs.check.held_at.Goals as goal

pub returns-then-not-branch-clause-held : goal.returns-then-not-branch-clause-held
returns-then-not-branch-clause-held c =
    held_by c.args.zone.now c.args.hashing.now c.args.nsecs.now c.requires.sorted c.args.firm c.args.name.now c.in_ok-near.near.place c.in_ok-near.ensures.place c.index-nsecs-near.result c.in_ok-near.ensures.within c.index-nsecs-near.is
    false (sym c.in_ok-near.ensures.matched ∙ c.if-near.true) (sym c.in_ok-is_right.ensures ∙ c.if-not-branch.true)

pub returns-then-near-clause-held : goal.returns-then-near-clause-held
returns-then-near-clause-held c =
    let m = sym c.in_ok-near.ensures.matched ∙ c.if-near.true in (
      held_by c.args.zone.now c.args.hashing.now c.args.nsecs.now c.requires.sorted c.args.firm c.args.name.now c.in_ok-near.near.place c.in_ok-near.ensures.place c.index-nsecs-near.result c.in_ok-near.ensures.within c.index-nsecs-near.is
          true m (sym c.in_ok-is_right.ensures ∙ c.if-not-branch.false),
      above_true c.args.hashing.now c.args.nsecs.now c.args.name.now m,
    )

pub returns-then-near-clause-met : goal.returns-then-near-clause-met
returns-then-near-clause-met c =
    marked_here c.args.zone.now c.args.hashing.now c.args.nsecs.now c.requires.sorted c.args.firm c.args.name.now c.in_ok-near.near.place c.in_ok-near.ensures.place c.index-nsecs-near.result c.in_ok-near.ensures.within c.index-nsecs-near.is
    c.args.met.now c.requires.many (sym c.in_ok-near.ensures.matched ∙ c.if-near.true)

pub returns-then-not-is_spared-clause-held : goal.returns-then-not-is_spared-clause-held
returns-then-not-is_spared-clause-held c =
    let m = sym c.in_ok-near.ensures.matched ∙ c.if-near.false in
    spared_here c.args.zone.now c.args.hashing.now c.args.nsecs.now c.requires.sorted c.args.firm c.args.name.now c.in_ok-near.near.place c.in_ok-near.ensures.place c.index-nsecs-near.result c.in_ok-near.ensures.within c.index-nsecs-near.is
    c.args.above false m (c.requires.above m) (sym c.if-not-is_spared.ensures)

pub returns-clause-held : goal.returns-clause-held
returns-clause-held c =
    let h = c.args.hashing.now in
    let ns = c.args.nsecs.now in
    let name = c.args.name.now in
    let m = sym c.in_ok-near.ensures.matched ∙ c.if-near.false in
    let k = spared_here c.args.zone.now h ns c.requires.sorted c.args.firm name c.in_ok-near.near.place c.in_ok-near.ensures.place c.index-nsecs-near.result c.in_ok-near.ensures.within c.index-nsecs-near.is
    c.args.above true m (c.requires.above m) (sym c.if-not-is_spared.ensures) in
    (k, above_false h ns c.args.zone.now c.args.firm name m k)

pub returns-clause-met : goal.returns-clause-met
returns-clause-met c = marked_none c.args.hashing.now c.args.name.now c.args.nsecs.now c.args.met.now c.requires.many (sym c.in_ok-near.ensures.matched ∙ c.if-near.false)

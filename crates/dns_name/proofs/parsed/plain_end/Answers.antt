use Rattle.std.proofs.Common.{◌≡◌, ◌-◌, get_or, refl, sym, ◌∙◌, arith}
use Rattle.dns_name.specs.Names.{name_by}
use Rattle.dns_name.proofs.Walks.{plain_root, plain_label}
use Rattle.dns_name.proofs.parsed.plain_end.Goals as goal

pub labels-init : goal.labels-init
unfolding name_by
labels-init c =
    let e : c.args.start - c.args.start ≡ 0 = omega arith in
    record { after = omega arith; walk = λ _. rw e refl }

pub returns-then-head-eq0-clause-value : goal.returns-then-head-eq0-clause-value
returns-then-head-eq0-clause-value c =
    let w = plain_root c.args.message.now c.args.reach c.labels.at (c.labels.at - c.args.start) (omega arith) c.requires.limited (omega arith) in
    sym (c.labels.invariant.walk c.labels-test.true) ∙ w

pub labels-preserved : goal.labels-preserved
labels-preserved c =
    let n = get_or c.args.message.now c.labels.at 0 in
    record {
      after = omega arith;
      walk = λ h. sym (plain_label c.args.message.now c.args.reach c.args.start c.labels.at n c.labels.invariant.after (omega arith) c.requires.limited refl (omega arith) (omega arith) (omega arith) (omega arith)) ∙ c.labels.invariant.walk c.labels-test.true;
    }

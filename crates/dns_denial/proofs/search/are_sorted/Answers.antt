use Rattle.std.proofs.Common.{sym, ◌∙◌, ◌-◌, arith}
use Rattle.std.proofs.lemmas.Bool.{true≢false}
use Rattle.dns_denial.proofs.SearchLaws.{pair_read, sorted_more}
use Rattle.dns_denial.proofs.search.are_sorted.Goals as goal

pub each-preserved : goal.each-preserved
each-preserved c =
    let ns = c.args.nsecs.now in
    sorted_more ns c.each.place (omega arith) (omega arith)
    (λ d. sym (pair_read ns c.each.place c.index-nsecs-place.result c.index-nsecs-place-in-each.result (omega arith) (omega arith) c.index-nsecs-place.is c.index-nsecs-place-in-each.is d) ∙ sym c.if-not-is_before.ensures)
    c.each.invariant

pub returns-then-not-is_before : goal.returns-then-not-is_before
returns-then-not-is_before c =
    let ns = c.args.nsecs.now in
    let a = c.index-nsecs-place.result in (
      λ h. absurd (true≢false (sym h)),
      λ s. c.if-not-is_before.ensures ∙ (pair_read ns c.each.place a c.index-nsecs-place-in-each.result (omega arith) (omega arith) c.index-nsecs-place.is c.index-nsecs-place-in-each.is a ∙ s (c.each.place - 1) c.each.place a (omega arith) (omega arith)),
    )

use Rattle.std.proofs.Common.{rules, sym, ◌∙◌}
use Rattle.dns_run.proofs.Asked.{all_asked, cut_asked}
use Rattle.dns_run.proofs.asking.write_each.Goals as goal

pub returns-in_err-write_answer-clause-observed : goal.returns-in_err-write_answer-clause-observed
returns-in_err-write_answer-clause-observed g c =
    let before = c.asks.invariant.asked in
    let observed = cut_asked _ c.asks.rules c.asks.ask-iterator.rest.items c.in-Some.ask c.next.new.self.rest.items c.asks.text _ _ _ _ _ _ c.in-Some.ensures.steps.0 before c.in_err-write_answer.ensures.observed in
    search (rules, observed)

pub returns-clause-observed : goal.returns-clause-observed
returns-clause-observed g c =
    all_asked _ c.asks.rules c.asks.ask-iterator.rest.items c.asks.text _ _ _ _ (sym c.asks.ask-iterator.rest.ok.0 ∙ c.in-None.ensures.steps.0) c.asks.invariant.asked

use Rattle.std.proofs.Common.{◌≡◌, ◌∙◌, arith, false, sym, true}
use Rattle.std.proofs.lemmas.List.Quantifiers.{any-set}
use Rattle.dns_listener.specs.RunningListeners.{met_closed}
use Rattle.dns_listener.proofs.Closed.{all_done, all_more}
use Rattle.dns_listener.proofs.closing.has_ended.Goals as goal

pub returns-then-is_closed-clause-closed : goal.returns-then-is_closed-clause-closed
returns-then-is_closed-clause-closed g c =
    any-set (λ r. met_closed r ≡ true) c.each.running c.each.one-index c.is_closed.new.self (omega arith)
    (sym c.is_closed.ensures ∙ c.if-is_closed.true)

pub each-preserved : goal.each-preserved
each-preserved g c =
    all_more (λ r. met_closed r ≡ false) c.each.running c.each.one-index c.is_closed.new.self (omega arith) c.each.invariant
    (sym c.is_closed.ensures ∙ c.if-is_closed.false)

pub returns-clause-open : goal.returns-clause-open
returns-clause-open g c = all_done (λ r. met_closed r ≡ false) c.each.running c.each.one-index (omega arith) c.each.invariant

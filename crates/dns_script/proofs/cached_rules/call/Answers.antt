use Rattle.std.proofs.Common.{◌∙◌, inl, inr}
use Rattle.std.proofs.lemmas.Result.{IfOk-weaker}
use Rattle.dns_script.proofs.Called.{answered, on_err}
use Rattle.dns_script.proofs.cached_rules.call.Goals as goal

pub returns-clause-line : goal.returns-clause-line
returns-clause-line c = IfOk-weaker c.turn_text.result _ _ (λ t is. is ∙ answered _ _ _ c.in_ok-turned.ensures.answer) c.turn_text.ensures

pub returns-in_err-turned-clause-err : goal.returns-in_err-turned-clause-err
returns-in_err-turned-clause-err c = on_err _ (inl c.in_err-turned.ensures.err)

pub returns-clause-err : goal.returns-clause-err
returns-clause-err c = on_err _ (inr c.in_ok-turned.ensures.cache)

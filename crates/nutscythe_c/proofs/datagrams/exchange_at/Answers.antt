use Rattle.std.proofs.Common.{arith, refl}
use Rattle.nutscythe_c.proofs.Objects.{of_first, of_left, of_none, of_one}
use Rattle.nutscythe_c.proofs.datagrams.exchange_at.Goals as goal

pub returns-in_default-origin-clause-decided : goal.returns-in_default-origin-clause-decided
returns-in_default-origin-clause-decided c =
    of_left c.args.settings.now c.index-settings-0.result _ _ (omega (arith, c.in-len1-up.len_at_least))
    (λ z. (refl, of_none c.args.origin.now _ _ (omega (arith, c.in_default-origin.len_below)) refl))

pub returns-clause-decided : goal.returns-clause-decided
returns-clause-decided c =
    let d = c.exchange_with in
    of_first c.args.settings.now c.index-settings-0.result d.new.settings _ _ (omega (arith, c.in-len1-up.len_at_least))
    (d.ensures.settings, of_one c.args.origin.now _ _ _ (omega (arith, c.in-len1-up-origin.len_at_least)) d.ensures.decided)

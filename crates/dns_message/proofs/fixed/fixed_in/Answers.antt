use Rattle.std.proofs.Common.{◌-◌, length, take, drop, sym, ◌∙◌, arith, length-drop}
use Rattle.dns_message.proofs.FixedAt.{all_after, fixed_read, fixed_short}
use Rattle.dns_message.proofs.fixed.fixed_in.Goals as goal

pub returns-then-octets-lt10-clause-value : goal.returns-then-octets-lt10-clause-value
returns-then-octets-lt10-clause-value c =
    sym (fixed_short c.args.message.now c.args.at (omega (arith, length-drop c.args.at c.args.message.now)))

pub returns-clause-value : goal.returns-clause-value
returns-clause-value c =
    let o = c.args.message.now in
    let seen = take (length o - c.args.at) (drop c.args.at o) in
    fixed_read o c.args.at seen _ _ _ _ _ _ (all_after o c.args.at) (omega (arith, length-drop c.args.at o)) (c.from_int.ensures ∙ c.number_at-3.ensures)
    (c.from_int-2.ensures ∙ c.number_at-4.ensures) c.number_at.ensures c.number_at-2.ensures c.from_secs.ensures c.number_at-5.ensures

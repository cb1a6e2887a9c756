use Rattle.std.proofs.Common.{◌≡◌, ◌<◌, ◌-◌, Bool, true, false, ℕ, List, [], length, get_or, sym, ◌∙◌, arith, rules}
use Rattle.std.specs.Prelude.{codes}
use Rattle.std.specs.Str.{bytes_eq}
use Rattle.dns_script.proofs.Between.{between_step}
use Rattle.dns_script.proofs.notify_lines.all_pend.Goals as goal

abbrev is_pend : List ℕ → Bool
is_pend w = bytes_eq w (codes "pend")

pub returns-then-ne : goal.returns-then-ne
returns-then-ne c =
    let lt : c.loop-i.i < length c.args.words.now - 1 = omega arith in
    let isnt : is_pend (get_or c.args.words.now c.loop-i.i []) ≡ false = search rules in
    let e = between_step is_pend c.args.words.now c.loop-i.i lt in
    sym (rw isnt at (sym c.loop-i.invariant ∙ e))

pub loop-i-preserved : goal.loop-i-preserved
loop-i-preserved c =
    let lt : c.loop-i.i < length c.args.words.now - 1 = omega arith in
    let is : is_pend (get_or c.args.words.now c.loop-i.i []) ≡ true = search rules in
    let e = between_step is_pend c.args.words.now c.loop-i.i lt in
    sym (rw is at e) ∙ c.loop-i.invariant

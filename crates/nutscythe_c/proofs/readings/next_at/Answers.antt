use Rattle.std.proofs.Common.{arith}
use Rattle.nutscythe_c.proofs.Objects.{of_first}
use Rattle.nutscythe_c.proofs.readings.next_at.Goals as goal

pub returns-clause-taken : goal.returns-clause-taken
returns-clause-taken c =
    let d = c.next_in in
    of_first c.args.reader.now c.index-reader-0.result d.new.reader _ _ (omega (arith, c.in-len1-up.len_at_least))
    (of_first c.args.item_len.now _ d.new.item_len _ _ (omega (arith, c.in-len1-up-item_len.len_at_least))
    (of_first c.args.section.now _ d.new.section _ _ (omega (arith, c.in-len1-up-section.len_at_least)) d.ensures.taken))

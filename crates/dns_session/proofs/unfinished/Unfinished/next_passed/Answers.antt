use Rattle.std.proofs.Common.{◌+◌, arith}
use Rattle.std.proofs.lemmas.List.{nil_from_length}
use Rattle.dns_session.proofs.Rows.{first_in_row, next_passed, no_entry, none_behind}
use Rattle.dns_session.proofs.unfinished.Unfinished.next_passed.Goals as goal

pub returns-then-is_empty : goal.returns-then-is_empty
returns-then-is_empty g c = λ h.
    first_in_row c.args.self.now (c.args.request + 1) c.first_of_row.result (omega (arith, c.requires)) (λ k l. no_entry c.args.self.now.passed k (nil_from_length c.args.self.now.passed.entries (c.is_empty.ensures.0 c.if-is_empty.true))) c.first_of_row.ensures

pub returns-in-Some : goal.returns-in-Some
returns-in-Some g c = λ h. next_passed c.args.self.now c.args.request c.in-Some.number.now c.in-Some.field-0-1.now c.range.result c.next.new.self (c.range.ensures.in_range tt) c.in-Some.ensures.steps h

pub returns-in-None : goal.returns-in-None
returns-in-None g c = λ h.
    first_in_row c.args.self.now (c.args.request + 1) c.first_of_row-in-None.result (omega (arith, c.requires)) (none_behind c.args.self.now.passed c.args.request c.range.result (c.range.ensures.in_range tt) c.in-None.ensures.steps.0) c.first_of_row-in-None.ensures

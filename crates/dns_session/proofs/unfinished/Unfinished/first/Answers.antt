use Rattle.std.proofs.Common.{◌≡◌, false, true, arith}
use Rattle.dns_session.proofs.Rows.{first_passed, first_in_row, no_entry, nil_if_empty}
use Rattle.dns_session.proofs.unfinished.Unfinished.first.Goals as goal

pub returns-in-Some : goal.returns-in-Some
returns-in-Some g c = λ h. first_passed c.args.self.now c.in-Some.number.now c.in-Some.field-0-1.now c.in-Some.ensures.value c.in-Some.ensures.least h

pub returns-in-None : goal.returns-in-None
returns-in-None g c = λ h.
    first_in_row c.args.self.now 0 c.first_of_row.result (omega arith) (λ k l. no_entry c.args.self.now.passed k (nil_if_empty c.args.self.now.passed (λ l. let z : false ≡ true = c.in-None.ensures.variant.1 l in cc))) c.first_of_row.ensures

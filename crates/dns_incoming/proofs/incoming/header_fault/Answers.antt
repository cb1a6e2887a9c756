use Rattle.std.proofs.Common.{◌≡◌, refl, sym}
use Rattle.dns_incoming.proofs.incoming.header_fault.Goals as goal

pub returns-then-is_answer : goal.returns-then-is_answer
returns-then-is_answer c = rw (sym c.is_answer.ensures, c.if-is_answer.true) c.code_fault.ensures

pub returns : goal.returns
returns c = rw (sym c.is_answer.ensures, c.if-is_answer.false) refl

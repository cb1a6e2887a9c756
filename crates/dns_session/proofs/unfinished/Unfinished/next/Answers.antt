use Rattle.std.proofs.Common.{arith}
use Rattle.dns_session.proofs.Rows.{next_in_row, next_none}
use Rattle.dns_session.proofs.unfinished.Unfinished.next.Goals as goal

pub returns-then-request-self : goal.returns-then-request-self
returns-then-request-self g c = λ h. next_none c.args.self.now c.args.request (omega (arith, c.if-request-self.true)) h

pub returns-then-next-self : goal.returns-then-next-self
returns-then-next-self g c = λ h. next_none c.args.self.now c.args.request (omega (arith, c.if-next-self.true)) h

pub returns : goal.returns
returns g c = λ h. next_in_row c.args.self.now c.args.request (omega (arith, c.row_start.ensures, c.if-request-row_start.false)) (omega (arith, c.if-next-self.false)) h

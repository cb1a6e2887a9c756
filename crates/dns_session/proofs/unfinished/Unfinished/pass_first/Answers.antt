use Rattle.std.proofs.Common.{refl}
use Rattle.dns_session.proofs.Rows.{passes_first}
use Rattle.dns_session.proofs.unfinished.Unfinished.pass_first.Goals as goal

pub returns-in_ok-insert-in-Some : goal.returns-in_ok-insert-in-Some
returns-in_ok-insert-in-Some g c = passes_first c.args.self.now _ c.in-Some.kept refl c.in-Some.ensures.items (rw c.row_start-number.ensures at c.in_ok-insert-in-Some.ensures.updates.0)

use Rattle.std.proofs.Common.{◌≡◌, refl, sym}
use Rattle.dns_incoming.proofs.incoming.IncomingTransfer.end.Goals as goal

pub returns-then-is_again : goal.returns-then-is_again
returns-then-is_again c = rw (sym c.is_again.ensures, c.if-is_again.true) c.finish.ensures

pub returns : goal.returns
returns c = rw (sym c.is_again.ensures, c.if-is_again.false) c.fail.ensures

use Rattle.std.proofs.Common.{◌≡◌, refl, sym}
use Rattle.dns_incoming.proofs.incoming.IncomingTransfer.take_more.Goals as goal

pub returns-then-has_begun : goal.returns-then-has_begun
returns-then-has_begun c = rw (sym c.has_begun.ensures, c.if-has_begun.true) c.take_behind.ensures

pub returns : goal.returns
returns c = rw (sym c.has_begun.ensures, c.if-has_begun.false) c.begin.ensures

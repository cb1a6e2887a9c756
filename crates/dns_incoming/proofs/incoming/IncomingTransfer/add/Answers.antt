use Rattle.std.proofs.Common.{◌≡◌, refl, sym}
use Rattle.dns_incoming.proofs.incoming.IncomingTransfer.add.Goals as goal

pub returns-then-is_within : goal.returns-then-is_within
returns-then-is_within c = rw (sym c.is_within.ensures, c.if-is_within.true) c.add_limited.ensures

pub returns : goal.returns
returns c = rw (sym c.is_within.ensures, c.if-is_within.false) c.fail.ensures

use Rattle.std.proofs.Common.{◌≡◌, refl, sym}
use Rattle.dns_incoming.proofs.incoming.IncomingTransfer.take_behind.Goals as goal

pub returns-then-is_soa : goal.returns-then-is_soa
returns-then-is_soa c = rw (sym c.is_soa.ensures, c.if-is_soa.true) c.end.ensures

pub returns : goal.returns
returns c = rw (sym c.is_soa.ensures, c.if-is_soa.false) c.add.ensures

use Rattle.std.proofs.Common.{◌≡◌, refl, sym}
use Rattle.dns_incoming.proofs.incoming.IncomingTransfer.begin.Goals as goal

pub returns-then-is_apex_soa : goal.returns-then-is_apex_soa
returns-then-is_apex_soa c = rw (sym c.is_apex_soa.ensures, c.if-is_apex_soa.true) c.keep.ensures

pub returns : goal.returns
returns c = rw (sym c.is_apex_soa.ensures, c.if-is_apex_soa.false) c.fail.ensures

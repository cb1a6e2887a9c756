-- The invariant says it.
use Rattle.std.proofs.Common.{subst}
use Rattle.dns_outstanding.specs.Outstanding.{AreAskedOnce}
use Rattle.dns_outstanding.proofs.outstanding.Outstanding.each_once.Goals as goal

pub returns : goal.returns
returns c = subst AreAskedOnce c.self.view_is c.self.invariant

use Rattle.std.proofs.Common.{inl, refl, subst, sym}
use Rattle.dns_book.specs.Causes.{HasShutdown}
use Rattle.dns_listener.proofs.Closed.{shut_last}
use Rattle.dns_listener.proofs.running.Running.close.Goals as goal

pub returns : goal.returns
returns g c = subst HasShutdown (sym c.shutdown.ensures.called.seen.1) (shut_last _ _ (inl refl))

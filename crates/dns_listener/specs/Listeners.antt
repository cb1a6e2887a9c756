-- What is given back of listeners.
use Rattle.std.specs.Prelude.{◌≡◌, length}
use Rattle.dns_listener.specs.declared.listener.Listener.{Listener}

-- a listener that is given back has its address, and as many workers
pub record GivesBack {R : Type 0} (old new : Listener R) : Type 0 where
  pub address : new.address ≡ old.address
  pub workers : length new.workers.items ≡ length old.workers.items

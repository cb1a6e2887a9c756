-- Listeners that serve in threads.
use Rattle.std.specs.Prelude.{◌≡◌, Bool, length}
use Rattle.dns_book.specs.Seats.{state_met}
use Rattle.dns_listener.specs.Listeners.{GivesBack}
use Rattle.dns_listener.specs.declared.listener.Listener.{Listener}
use Rattle.dns_listener.specs.declared.running.Running.{Running}
use Rattle.dns_listener.specs.declared.running.Started.{Started}
use Rattle.dns_listener.specs.declared.running.Started.TheVariants.{Running as Runs, Refused}

-- a thread serves at a listener with this address and so many workers
pub record IsOf {R : Type 0} (running : Running R) (listener : Listener R) : Type 0 where
  pub address : listener.address ≡ running.thread.promise.address
  pub workers : length listener.workers.items ≡ running.thread.promise.workers

-- a thread serves at a listener, or the listener is given back
abbrev pub StartsAt : {R : Type 0} → Listener R → Started R → Type 0
StartsAt listener (Runs running) = IsOf running listener
StartsAt listener (Refused given) = GivesBack listener given

-- whether the book of its slots was closed as its seat looked last
abbrev pub met_closed : {R : Type 0} → Running R → Bool
met_closed running = (state_met running.seat.known).closed

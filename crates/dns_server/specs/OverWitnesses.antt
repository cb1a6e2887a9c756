-- What servers and hosts with workers say over witnesses.
use Rattle.std.specs.Prelude.{◌≡◌, ◌<◌, ◌⊎◌, ℕ, List, length, slice_index_or}
use Rattle.dns_name.specs.declared.address.SocketAddr.{SocketAddr}
use Rattle.dns_events.specs.declared.event.Event.{Event}
use Rattle.dns_book.specs.declared.history.Known.{Known}
use Rattle.dns_io.specs.AcceptTraffic.{AcceptTraffic}
use Rattle.dns_io.specs.SockTraffic.{SockTraffic}
use Rattle.dns_session.specs.Serving.{Serving}
use Rattle.dns_recorder.specs.Clocks.{ClockReading}
use Rattle.dns_dgram_driver.specs.DatagramsServed.{World, ServedTo, world}
use Rattle.dns_dgram_driver.specs.declared.serving.DgramEnd.{DgramEnd}
use Rattle.dns_account.specs.DatagramLaw.{DatagramsByTheRules}
use Rattle.dns_transport.specs.HostEnd.{HostEnd}
use Rattle.dns_transport.specs.Runs.{where_known}
use Rattle.dns_workers.specs.declared.worker.Worker.{Worker}
use Rattle.dns_workers.specs.declared.workers_host.WorkersHost.{WorkersHost}
use Rattle.dns_workers.specs.Workers.{Outcome, WorkersServed, worker_seat}

-- datagrams were served, and kept to the rules; or nothing was done, since the book was closed
abbrev pub ServerKept : Serving → World → World → Type 0
ServerKept answers start now = DatagramsByTheRules answers start now ⊎ (now ≡ where_known start now.known)

module _ {D C J : Type 0} (sock_traffic : D → SockTraffic) (failed_sends : D → ℕ) (readings : C → List ClockReading)
    (noted : J → List Event) where
  -- what the serving of a worker's datagrams tells, if its seat knows this
  abbrev pub worker_world : Worker D C J → Known → World
  worker_world w k = world (noted w.journal) (sock_traffic w.sock) (failed_sends w.sock) (readings w.clock) k

  -- The worker's datagrams were served from a seat that knows this, and kept to the rules.
  pub record WorkerKept (answers : Serving) (end : DgramEnd) (count : ℕ) (k : Known) (w w' : Worker D C J) : Type 0 where
    pub left : Known
    pub served : ServedTo answers end count (worker_world w k) (worker_world w' left)
    pub kept : DatagramsByTheRules answers (worker_world w k) (worker_world w' left)

  -- How a host with workers was served over witnesses, of which this is seen. Each worker served datagrams from a seat of its own, and they
  -- kept to the rules.
  pub record WorkersKept {A P : Type 0} (failed_receives : D → ℕ) (accept_traffic : A → AcceptTraffic) (failed : A → ℕ)
      (given : P → List SocketAddr) (refused : P → ℕ)
      (answers : Serving) (end : HostEnd) (count : ℕ) (k k' : Known) (h h' : WorkersHost A D C P J) : Type 0 where
    pub served : WorkersServed (λ _. Unit {0}) sock_traffic failed_receives failed_sends (λ _. Unit {0}) readings
        (λ _. Unit {0}) noted answers count
        (λ _. Unit {0}) accept_traffic failed (λ _. Unit {0}) given refused end k k' h h'
    pub kept : (i : ℕ) (o : Outcome) (w : Worker D C J) → i < length h.workers.items
        → WorkerKept answers (slice_index_or served.outcomes i o).end count (worker_seat i k) (slice_index_or h.workers.items i w)
        (slice_index_or h'.workers.items i w)

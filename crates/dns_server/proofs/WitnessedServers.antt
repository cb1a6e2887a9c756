-- Servers and workers over witnesses keep to the rules.
use Rattle.std.proofs.Common.{◌≡◌, inl, inr, ℕ, List}
use Rattle.std.specs.Prelude.{slice_index_or}
use Rattle.dns_name.specs.declared.address.SocketAddr.{SocketAddr}
use Rattle.dns_events.specs.declared.event.Event.{Event}
use Rattle.dns_admission.specs.declared.admission.Admission.{Admission}
use Rattle.dns_admission.specs.declared.admission.Admission.TheVariants.{Admitted, Full, Closed}
use Rattle.dns_book.specs.declared.history.Known.{Known}
use Rattle.dns_io.specs.Causes.{Observed}
use Rattle.dns_io.specs.AcceptTraffic.{AcceptTraffic}
use Rattle.dns_io.specs.SockTraffic.{SockTraffic}
use Rattle.dns_session.specs.Serving.{Serving}
use Rattle.dns_recorder.specs.Clocks.{ClockReading}
use Rattle.dns_dgram_driver.specs.DatagramsServed.{World, ServedTo}
use Rattle.dns_dgram_driver.specs.declared.serving.DgramEnd.{DgramEnd}
use Rattle.dns_dgram_driver.specs.declared.serving.DgramEnd.TheVariants.{Shutdown}
use Rattle.dns_transport.specs.HostEnd.{HostEnd}
use Rattle.dns_transport.specs.Runs.{AfterAdmit, DatagramsRan, where_known}
use Rattle.dns_account.specs.DatagramLaw.{DatagramsByTheRules}
use Rattle.dns_account.specs.Hosts.{SockTells}
use Rattle.dns_account.proofs.Lawful.{datagrams_lawful}
use Rattle.dns_workers.specs.declared.worker.Worker.{Worker}
use Rattle.dns_workers.specs.declared.workers_host.WorkersHost.{WorkersHost}
use Rattle.dns_workers.specs.Workers.{Outcome, WorkerWent, WorkersServed, worker_seat}
use Rattle.dns_server.specs.OverWitnesses.{ServerKept, WorkerKept, WorkersKept, worker_world}

-- the law doesn't speak of what the seat knows
rules_at : (answers : Serving) (start now : World) (k k' : Known) → DatagramsByTheRules answers (where_known start k) (where_known now k') → DatagramsByTheRules answers start now
rules_at answers start now k k' r = record {
  first = r.first;
  events = r.events;
  came = r.came;
  unheard = r.unheard;
  number = r.number;
  packets = r.packets;
  noted = r.noted;
  taken = r.taken;
  heard = r.heard;
  numbered = r.numbered;
  handed = r.handed;
  part = r.part;
}

module _ (answers : Serving) (end : DgramEnd) (start now : World) where
  served_kept : (k k' : Known) → ServedTo answers end 0 (where_known start k) (where_known now k') → ServerKept answers start now
  served_kept k k' s = inl (rules_at answers start now k k' (datagrams_lawful answers end 0 (where_known start k) (where_known now k') s))

  ran_kept : DatagramsRan answers end start now → ServerKept answers start now
  ran_kept ran = of ran.answer ran.asked ran.after where
    of : (a : Admission) (k : Known) → AfterAdmit a (λ x y. ServedTo answers end 0 (where_known start x) (where_known now y)) ((end ≡ Shutdown) × (now ≡ where_known start now.known)) k now.known
        → ServerKept answers start now
    of (Admitted look) k g = served_kept k g.done g.does_so
    of (Full taken limit accepted) k s = served_kept k now.known s
    of Closed k n = inr n.1.1

  pub server_kept : Observed SockTells SockTells (DatagramsRan answers end start now) → ServerKept answers start now
  server_kept o = ran_kept (o.observed (tt, tt, tt)).1

module _ {D C J : Type 0} (sock_traffic : D → SockTraffic) (failed_sends : D → ℕ) (readings : C → List ClockReading) (noted : J → List Event) (failed_receives : D → ℕ)
    (answers : Serving) (count : ℕ) where
  -- a worker whose socket, clock and recorder tell always
  worker_kept : (k : Known) (o : Outcome) (w w' : Worker D C J)
      → WorkerWent (λ _. Unit {0}) sock_traffic failed_receives failed_sends (λ _. Unit {0}) readings (λ _. Unit {0}) noted answers count k o w w'
      → WorkerKept sock_traffic failed_sends readings noted answers o.end count k w w'
  worker_kept k o w w' went =
      let to = (went.dgrams.served.observed (tt, tt, tt)).1 in
      record {
        left = went.dgrams.between;
        served = to;
        kept = datagrams_lawful answers o.end count (worker_world sock_traffic failed_sends readings noted w k)
            (worker_world sock_traffic failed_sends readings noted w' went.dgrams.between) to;
      }

  -- and so do all workers of a host
  pub workers_kept : {A P : Type 0} (accept_traffic : A → AcceptTraffic) (failed : A → ℕ) (given : P → List SocketAddr) (refused : P → ℕ)
      (end : HostEnd) (k k' : Known) (h h' : WorkersHost A D C P J)
      → WorkersServed (λ _. Unit {0}) sock_traffic failed_receives failed_sends (λ _. Unit {0}) readings (λ _. Unit {0}) noted answers count
      (λ _. Unit {0}) accept_traffic failed (λ _. Unit {0}) given refused end k k' h h'
      → WorkersKept sock_traffic failed_sends readings noted failed_receives accept_traffic failed given refused answers end count k k' h h'
  workers_kept accept_traffic failed given refused end k k' h h' s = record {
    served = s;
    kept = λ i o w below. worker_kept (worker_seat i k) (slice_index_or s.outcomes i o) (slice_index_or h.workers.items i w) (slice_index_or h'.workers.items i w)
        (s.dgrams i o w below);
  }

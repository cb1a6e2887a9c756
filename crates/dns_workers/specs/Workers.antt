-- How connections are accepted and several workers serve datagrams beside each other.
use Rattle.std.specs.Prelude.{◌≡◌, ◌<◌, ℕ, zero, suc, List, [], ◌∷◌, length, slice_index_or, Bool, true, false, Option, Some, None, MatchOption}
use Rattle.atomic_table.specs.Seated.{TableId}
use Rattle.dns_name.specs.declared.address.SocketAddr.{SocketAddr}
use Rattle.dns_events.specs.declared.event.Event.{Event}
use Rattle.dns_service.specs.Config.{default_dgram, default_stream}
use Rattle.dns_admission.specs.Machine.{new_state}
use Rattle.dns_book.specs.Seats.{Seated, Joined, new_known, first_half, second_half}
use Rattle.dns_book.specs.declared.history.Known.{Known}
use Rattle.dns_session.specs.Serving.{Serving}
use Rattle.dns_io.specs.AcceptTraffic.{AcceptTraffic}
use Rattle.dns_io.specs.SockTraffic.{SockTraffic}
use Rattle.dns_accepts.specs.Clocks.{ClockReading}
use Rattle.dns_accepts.specs.declared.accepts.AcceptEnd.{AcceptEnd}
use Rattle.dns_accepts.specs.declared.accepts.AcceptEnd.TheVariants.{Shutdown as AcceptShutdown, Counted as AcceptCounted, OutOfMemory as AcceptOutOfMemory}
use Rattle.dns_dgram_driver.specs.declared.serving.DgramEnd.{DgramEnd}
use Rattle.dns_dgram_driver.specs.declared.serving.DgramEnd.TheVariants.{Shutdown as DgramShutdown, Counted as DgramCounted, Fault as DgramFault, OutOfMemory as DgramOutOfMemory}
use Rattle.dns_host.specs.Hosting.{AcceptsWent, DgramsWent, ShutDown}
use Rattle.dns_host.specs.declared.host.HostEnd.{HostEnd}
use Rattle.dns_host.specs.declared.host.HostEnd.TheVariants.{Done, OutOfMemory, HostFault}
use Rattle.dns_workers.specs.declared.worker.Worker.{Worker}
use Rattle.dns_workers.specs.declared.workers_host.WorkersHost.{WorkersHost}

-- what the seat that goes on knows once that many workers have a seat of their own
abbrev pub left_after : ℕ → Known → Known
left_after zero k = k
left_after (suc n) k = first_half (left_after n k)

-- what the seat of this worker knows, the second half of what was left for it
abbrev pub worker_seat : ℕ → Known → Known
worker_seat i k = second_half (left_after i k)

-- how the serving of datagrams by a worker ended, whether a send failed, and what its seat knew then
pub record Outcome : Type 0 where
  pub end : DgramEnd
  pub send_failed : Bool
  pub known : Known

-- the seats of these workers were joined to one seat, in order
abbrev pub JoinedAll : Known → List Outcome → Known → Type 0
JoinedAll k [] k' = k' ≡ k
JoinedAll k (o ∷ os) k' = (between : Known) × Joined k o.known between × JoinedAll between os k'

-- the graver of two ends
abbrev pub graver_end : HostEnd → HostEnd → HostEnd
graver_end OutOfMemory other = OutOfMemory
graver_end HostFault OutOfMemory = OutOfMemory
graver_end HostFault HostFault = HostFault
graver_end HostFault Done = HostFault
graver_end Done other = other

-- how a host ends that serves datagrams alone, by how they end and whether a send failed
abbrev pub end_of_dgrams : DgramEnd → Bool → HostEnd
end_of_dgrams DgramOutOfMemory send_failed = OutOfMemory
end_of_dgrams DgramFault send_failed = HostFault
end_of_dgrams DgramShutdown true = HostFault
end_of_dgrams DgramShutdown false = Done
end_of_dgrams DgramCounted true = HostFault
end_of_dgrams DgramCounted false = Done

-- how a host ends that accepts connections alone, by how that ends and whether an accept failed or a start was refused
abbrev pub end_of_accepts : AcceptEnd → Bool → HostEnd
end_of_accepts AcceptOutOfMemory risen = OutOfMemory
end_of_accepts AcceptShutdown true = HostFault
end_of_accepts AcceptShutdown false = Done
end_of_accepts AcceptCounted true = HostFault
end_of_accepts AcceptCounted false = Done

-- the gravest of an end and those of the workers
abbrev pub end_of_all : HostEnd → List Outcome → HostEnd
end_of_all end [] = end
end_of_all end (o ∷ os) = end_of_all (graver_end end (end_of_dgrams o.end o.send_failed)) os

-- what a seat knows that is there
abbrev pub known_in : Option Seated → Known
known_in (Some seat) = seat.known
known_in None = new_known (new_state default_dgram default_stream)

module _ {D C J : Type 0} where
  -- the worker has a seat of this book
  abbrev pub HasSeatOf : TableId → Worker D C J → Type 0
  HasSeatOf book w = MatchOption w.seat ⊥ (λ s. s.book ≡ book)

  -- a worker has a seat of this book, and the seat knows this
  abbrev pub HasSeat : TableId → Known → Worker D C J → Type 0
  HasSeat book k w = MatchOption w.seat ⊥ (λ s. (s.book ≡ book) × (s.known ≡ k))

  -- the worker's socket, clock and journal are these
  abbrev pub IsWith : Worker D C J → Worker D C J → Type 0
  IsWith w w' = (w'.sock ≡ w.sock) × (w'.clock ≡ w.clock) × (w'.journal ≡ w.journal)

  -- each worker has the seat that it is to serve from
  abbrev pub AreSeated : TableId → Known → List (Worker D C J) → Type 0
  AreSeated book k ws = (i : ℕ) (w : Worker D C J) → i < length ws → HasSeat book (worker_seat i k) (slice_index_or ws i w)

  -- each worker's socket, clock and journal are these
  abbrev pub AreWith : List (Worker D C J) → List (Worker D C J) → Type 0
  AreWith ws ws' = (i : ℕ) (w : Worker D C J) → i < length ws → IsWith (slice_index_or ws i w) (slice_index_or ws' i w)

  -- what the worker has noted of its serving, and what its seat knows
  abbrev pub outcome_of : Worker D C J → Outcome
  outcome_of w = record { end = w.end; send_failed = w.send_failed; known = known_in w.seat }

  module _ (tells : D → Type 0) (sock_traffic : D → SockTraffic) (failed_receives failed_sends : D → ℕ) (ticks : C → Type 0)
      (readings : C → List ClockReading)
      (notes : J → Type 0) (noted : J → List Event) (answers : Serving) (count : ℕ) where
    -- what a worker did to its seat, its socket, its clock and its journal, by how it ended
    abbrev pub WorkerWent : Known → Outcome → Worker D C J → Worker D C J → Type 0
    WorkerWent k o w w' = DgramsWent tells sock_traffic failed_receives failed_sends ticks readings notes noted answers o.end
        o.send_failed count k o.known
        w.sock w'.sock w.clock w'.clock w.journal w'.journal

    -- the worker served from its seat, which it has again
    abbrev pub WorkerServed : Worker D C J → Worker D C J → Type 0
    WorkerServed w w' = MatchOption w.seat ⊥
        (λ s. MatchOption w'.seat ⊥ (λ s'. WorkerWent s.known
        (record { end = w'.end; send_failed = w'.send_failed; known = s'.known }) w w'))

    abbrev pub AllServed : List (Worker D C J) → List (Worker D C J) → Type 0
    AllServed ws ws' = (i : ℕ) (w : Worker D C J) → i < length ws → WorkerServed (slice_index_or ws i w) (slice_index_or ws' i w)

    -- Each of the workers served so, from a seat of its own.
    abbrev pub AllWent : Known → List Outcome → List (Worker D C J) → List (Worker D C J) → Type 0
    AllWent k os ws ws' = (i : ℕ) (o : Outcome) (w : Worker D C J) → i < length ws
        → WorkerWent (worker_seat i k) (slice_index_or os i o) (slice_index_or ws i w) (slice_index_or ws' i w)

    -- How a host's connections were accepted, from the seat that was left, and its workers served datagrams. Then the seats were
    -- joined to one, and the book was shut down.
    pub record WorkersServed {A P : Type 0} (accept_tells : A → Type 0) (accept_traffic : A → AcceptTraffic) (failed : A → ℕ)
        (works : P → Type 0) (given : P → List SocketAddr) (refused : P → ℕ)
        (end : HostEnd) (k k' : Known) (h h' : WorkersHost A D C P J) : Type 0 where
      pub accepts_end : AcceptEnd
      pub risen : Bool
      pub first : Known
      pub outcomes : List Outcome
      pub joined : Known
      pub workers : length h'.workers.items ≡ length h.workers.items
      pub as_many : length outcomes ≡ length h.workers.items
      pub accepts : AcceptsWent accept_tells accept_traffic failed works given refused accepts_end risen count
          (left_after (length h.workers.items) k) first h.accept h'.accept h.spawner h'.spawner
      pub dgrams : AllWent k outcomes h.workers.items h'.workers.items
      pub join : JoinedAll first outcomes joined
      pub shut : ShutDown joined k'
      pub end_is : end ≡ end_of_all (end_of_accepts accepts_end risen) outcomes

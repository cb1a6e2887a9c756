-- Why a host with several workers ended as it did.
use Rattle.std.proofs.Common.{◌≡◌, ◌<◌, ◌⊎◌, inl, inr, ℕ, suc, List, [], ◌∷◌, Bool, true, false, length, arith}
use Rattle.std.specs.Prelude.{slice_index_or}
use Rattle.dns_name.specs.declared.address.SocketAddr.{SocketAddr}
use Rattle.dns_events.specs.declared.event.Event.{Event}
use Rattle.dns_book.specs.declared.history.Known.{Known}
use Rattle.dns_session.specs.Serving.{Serving}
use Rattle.dns_io.specs.Causes.{Rose}
use Rattle.dns_io.specs.AcceptTraffic.{AcceptTraffic}
use Rattle.dns_io.specs.SockTraffic.{SockTraffic}
use Rattle.dns_accepts.specs.Clocks.{ClockReading}
use Rattle.dns_accepts.specs.Arrivals.{RoseWhere}
use Rattle.dns_accepts.specs.declared.accepts.AcceptEnd.{AcceptEnd}
use Rattle.dns_accepts.specs.declared.accepts.AcceptEnd.TheVariants.{Shutdown as AcceptShutdown, Counted as AcceptCounted, OutOfMemory as AcceptOutOfMemory}
use Rattle.dns_dgram_driver.specs.DatagramsServed.{ReceivesBy, RoseIf}
use Rattle.dns_dgram_driver.specs.declared.serving.DgramEnd.{DgramEnd}
use Rattle.dns_dgram_driver.specs.declared.serving.DgramEnd.TheVariants.{Shutdown as DgramShutdown, Counted as DgramCounted, Fault as DgramFault, OutOfMemory as DgramOutOfMemory}
use Rattle.dns_host.specs.declared.host.HostEnd.{HostEnd}
use Rattle.dns_host.specs.declared.host.HostEnd.TheVariants.{Done, OutOfMemory, HostFault}
use Rattle.dns_workers.specs.declared.worker.Worker.{Worker}
use Rattle.dns_workers.specs.declared.workers_host.WorkersHost.{WorkersHost}
use Rattle.dns_workers.specs.Workers.{Outcome, graver_end, end_of_dgrams, end_of_accepts, end_of_all, WorkersServed}
use Rattle.dns_workers.specs.Faults.{CausedBy, WorkerRose, WorkerDidNot, SomeWorkerRose, NoWorkerRose, RoseBy}

caused_map : (end : HostEnd) (some none some' none' : Type 0) → (some → some') → (none → none') → CausedBy end some none → CausedBy end some' none'
caused_map HostFault some none some' none' f g x = f x
caused_map Done some none some' none' f g x = g x
caused_map OutOfMemory some none some' none' f g x = tt

-- of two ends the graver has the causes of both
caused_both : (one other : HostEnd) (a n b m : Type 0) → CausedBy one a n → CausedBy other b m → CausedBy (graver_end one other) (a ⊎ b) (n × m)
caused_both OutOfMemory other a n b m x y = tt
caused_both HostFault OutOfMemory a n b m x y = tt
caused_both HostFault HostFault a n b m x y = inl x
caused_both HostFault Done a n b m x y = inl x
caused_both Done OutOfMemory a n b m x y = tt
caused_both Done HostFault a n b m x y = inr y
caused_both Done Done a n b m x y = (x, y)

caused_by_dgrams : (end : DgramEnd) (send_failed : Bool) (r r' s s' : ℕ) → ReceivesBy end r r' → RoseIf send_failed s s' →
    CausedBy (end_of_dgrams end send_failed) (Rose r r' ⊎ Rose s s') ((r' ≡ r) × (s' ≡ s))
caused_by_dgrams DgramOutOfMemory send_failed r r' s s' receives sends = tt
caused_by_dgrams DgramFault send_failed r r' s s' receives sends = inl receives
caused_by_dgrams DgramShutdown true r r' s s' receives sends = inr sends
caused_by_dgrams DgramShutdown false r r' s s' receives sends = (receives, sends)
caused_by_dgrams DgramCounted true r r' s s' receives sends = inr sends
caused_by_dgrams DgramCounted false r r' s s' receives sends = (receives, sends)

caused_by_accepts : (end : AcceptEnd) (risen : Bool) (f f' p p' : ℕ) → RoseWhere risen f f' p p' →
    CausedBy (end_of_accepts end risen) (Rose f f' ⊎ Rose p p') ((f' ≡ f) × (p' ≡ p))
caused_by_accepts AcceptOutOfMemory risen f f' p p' rose = tt
caused_by_accepts AcceptShutdown true f f' p p' rose = rose
caused_by_accepts AcceptShutdown false f f' p p' rose = rose
caused_by_accepts AcceptCounted true f f' p p' rose = rose
caused_by_accepts AcceptCounted false f f' p p' rose = rose

module _ {D C J : Type 0} (failed_receives failed_sends : D → ℕ) where
  -- what the counts of a worker say of its outcome
  abbrev Counts : Outcome → Worker D C J → Worker D C J → Type 0
  Counts o w w' = ReceivesBy o.end (failed_receives w.sock) (failed_receives w'.sock) × RoseIf o.send_failed (failed_sends w.sock) (failed_sends w'.sock)

  -- an end and those of workers have the causes of all
  caused_by_all : (end : HostEnd) (some none : Type 0) (os : List Outcome) (ws ws' : List (Worker D C J)) → length os ≡ length ws → length ws' ≡ length ws →
      ((i : ℕ) (o : Outcome) (w : Worker D C J) → i < length ws → Counts (slice_index_or os i o) (slice_index_or ws i w) (slice_index_or ws' i w)) → CausedBy end some none →
      CausedBy (end_of_all end os) (some ⊎ SomeWorkerRose failed_receives failed_sends ws ws') (none × NoWorkerRose failed_receives failed_sends ws ws')
  caused_by_all end some none [] [] [] e f each x = caused_map end some none (some ⊎ ⊥) (none × Unit {0}) (λ y. inl y) (λ y. (y, tt)) x
  caused_by_all end some none [] [] (w' ∷ ws') e f each x = absurd (omega arith)
  caused_by_all end some none [] (w ∷ ws) ws' e f each x = absurd (omega arith)
  caused_by_all end some none (o ∷ os) [] ws' e f each x = absurd (omega arith)
  caused_by_all end some none (o ∷ os) (w ∷ ws) [] e f each x = absurd (omega arith)
  caused_by_all end some none (o ∷ os) (w ∷ ws) (w' ∷ ws') e f each x =
      let here = each 0 o w (omega arith) in
      let own = caused_by_dgrams o.end o.send_failed (failed_receives w.sock) (failed_receives w'.sock) (failed_sends w.sock) (failed_sends w'.sock) here.0 here.1 in
      let a = WorkerRose failed_receives failed_sends w w' in
      let n = WorkerDidNot failed_receives failed_sends w w' in
      let rest = caused_by_all (graver_end end (end_of_dgrams o.end o.send_failed)) (some ⊎ a) (none × n) os ws ws' (omega arith) (omega arith)
      (λ i p v lt. each (suc i) p v (omega (arith, lt))) (caused_both end (end_of_dgrams o.end o.send_failed) some none a n x own) in
      caused_map (end_of_all (graver_end end (end_of_dgrams o.end o.send_failed)) os) ((some ⊎ a) ⊎ SomeWorkerRose failed_receives failed_sends ws ws')
      ((none × n) × NoWorkerRose failed_receives failed_sends ws ws') (some ⊎ (a ⊎ SomeWorkerRose failed_receives failed_sends ws ws'))
      (none × (n × NoWorkerRose failed_receives failed_sends ws ws'))
      (λ y. elim y [ inl z ↦ elim z [ inl u ↦ inl u | inr u ↦ inr (inl u) ] | inr z ↦ inr (inr z) ])
      (λ y. (y.0.0, (y.0.1, y.1))) rest

-- a host's end has a cause
pub rose_by : {A D C P J : Type 0} (tells : D → Type 0) (sock_traffic : D → SockTraffic) (failed_receives failed_sends : D → ℕ) (ticks : C → Type 0) (readings : C → List ClockReading)
    (notes : J → Type 0) (noted : J → List Event) (answers : Serving) (count : ℕ)
    (accept_tells : A → Type 0) (accept_traffic : A → AcceptTraffic) (failed : A → ℕ) (works : P → Type 0) (given : P → List SocketAddr) (refused : P → ℕ)
    (end : HostEnd) (k k' : Known) (h h' : WorkersHost A D C P J) →
    WorkersServed tells sock_traffic failed_receives failed_sends ticks readings notes noted answers count accept_tells accept_traffic failed works given refused end k k' h h' →
    RoseBy failed_receives failed_sends failed refused end h h'
rose_by tells sock_traffic failed_receives failed_sends ticks readings notes noted answers count accept_tells accept_traffic failed works given refused end k k' h h' s =
    record {
      caused = rw s.end_is (caused_by_all failed_receives failed_sends (end_of_accepts s.accepts_end s.risen)
          (Rose (failed h.accept) (failed h'.accept) ⊎ Rose (refused h.spawner) (refused h'.spawner))
          ((failed h'.accept ≡ failed h.accept) × (refused h'.spawner ≡ refused h.spawner))
          s.outcomes h.workers.items h'.workers.items s.as_many s.workers
          (λ i o w lt. let d = s.dgrams i o w lt in (d.receives, d.sends))
          (caused_by_accepts s.accepts_end s.risen (failed h.accept) (failed h'.accept) (refused h.spawner) (refused h'.spawner) s.accepts.ran.rose));
    }

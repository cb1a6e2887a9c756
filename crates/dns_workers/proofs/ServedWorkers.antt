-- What accepts and workers did, put together.
use Rattle.std.proofs.Common.{◌≡◌, ◌∙◌, ◌<◌, ◌≤◌, ℕ, List, Bool, ap, length, map, sym, subst, arith}
use Rattle.std.specs.Prelude.{Option, Some, None, MatchOption, slice_index_or}
use Rattle.std.proofs.lemmas.List.{get_or-map, length-map}
use Rattle.atomic_table.specs.Seated.{TableId}
use Rattle.dns_name.specs.declared.address.SocketAddr.{SocketAddr}
use Rattle.dns_events.specs.declared.event.Event.{Event}
use Rattle.dns_events.specs.declared.look.Look.{Look}
use Rattle.dns_admission.specs.declared.call.Call.TheVariants.{Shutdown as ToShutdown}
use Rattle.dns_admission.specs.declared.call.Reply.TheVariants.{Look as Shown}
use Rattle.dns_book.specs.Seats.{Seated, Called}
use Rattle.dns_book.specs.declared.history.Known.{Known}
use Rattle.dns_session.specs.Serving.{Serving}
use Rattle.dns_io.specs.Causes.{Observed}
use Rattle.dns_io.specs.AcceptTraffic.{AcceptTraffic}
use Rattle.dns_io.specs.SockTraffic.{SockTraffic}
use Rattle.dns_accepts.specs.Clocks.{ClockReading}
use Rattle.dns_accepts.specs.declared.accepts.AcceptEnd.{AcceptEnd}
use Rattle.dns_host.specs.Hosting.{AcceptsWent, DgramsWent}
use Rattle.dns_host.specs.declared.host.HostEnd.{HostEnd}
use Rattle.dns_host.proofs.ServedHost.{accepts_joined}
use Rattle.dns_workers.specs.declared.worker.Worker.{Worker}
use Rattle.dns_workers.specs.declared.workers_host.WorkersHost.{WorkersHost}
use Rattle.dns_workers.specs.Workers.{Outcome, HasSeat, IsWith, AreSeated, AreWith, JoinedAll, left_after, worker_seat, known_in, outcome_of, end_of_accepts, end_of_all, WorkerWent, WorkerServed, AllServed, AllWent, WorkersServed}

-- accepts went so, and then their work was joined
went_joined : {S P : Type 0} (tells : S → Type 0) (accept_traffic : S → AcceptTraffic) (failed : S → ℕ) (works : P → Type 0) (given : P → List SocketAddr) (refused : P → ℕ)
    (end : AcceptEnd) (risen : Bool) (count : ℕ) (k k' : Known) (a b : S) (p q r : P) →
    AcceptsWent tells accept_traffic failed works given refused end risen count k k' a b p q → Observed (works r) (works q) (given r ≡ given q) → refused r ≡ refused q →
    AcceptsWent tells accept_traffic failed works given refused end risen count k k' a b p r
went_joined tells accept_traffic failed works given refused end risen count k k' a b p q r went t same = record {
  between = went.between;
  ran = record {
    observed = accepts_joined end count (tells b) (works q) (works r) (tells a × works p) k went.between (accept_traffic a) (accept_traffic b) (given p) (given q) (given r) (failed a) (failed b) t went.ran.observed;
    rose = rw same went.ran.rose;
    accepts_later = went.ran.accepts_later;
    starts_later = rw same went.ran.starts_later;
  };
  shut = went.shut;
}

from_seat : (a b : Option Seated) (book : TableId) (k : Known) (R : Known → Known → Type 0) → MatchOption a ⊥ (λ s. (s.book ≡ book) × (s.known ≡ k)) →
    MatchOption a ⊥ (λ s. MatchOption b ⊥ (λ s'. R s.known s'.known)) → R k (known_in b)
from_seat None b book k R seated served = absurd seated
from_seat (Some s) None book k R seated served = absurd served
from_seat (Some s) (Some s') book k R seated served = subst (λ (x : Known). R x s'.known) seated.1 served

module _ {D C J : Type 0} (tells : D → Type 0) (sock_traffic : D → SockTraffic) (failed_receives failed_sends : D → ℕ) (ticks : C → Type 0) (readings : C → List ClockReading)
    (notes : J → Type 0) (noted : J → List Event) (answers : Serving) (count : ℕ) where
  -- a worker served from the seat that it took, and gave it back
  worker_went : (book : TableId) (k : Known) (w0 w1 w2 w3 : Worker D C J) → HasSeat book k w1 →
      WorkerServed tells sock_traffic failed_receives failed_sends ticks readings notes noted answers count w1 w2 → IsWith w0 w1 → IsWith w2 w3 →
      WorkerWent tells sock_traffic failed_receives failed_sends ticks readings notes noted answers count k (outcome_of w2) w0 w3
  worker_went book k w0 w1 w2 w3 seated served took gave =
      let went = from_seat w1.seat w2.seat book k
      (λ x y. WorkerWent tells sock_traffic failed_receives failed_sends ticks readings notes noted answers count x (record { end = w2.end; send_failed = w2.send_failed; known = y }) w1 w2)
      seated served in
      rw (← took.0, ← took.1, ← took.2, gave.0, gave.1, gave.2) went

  all_went : (book : TableId) (k : Known) (ws0 ws1 ws2 ws3 : List (Worker D C J)) → length ws1 ≡ length ws0 → length ws2 ≡ length ws1 → AreSeated book k ws1 →
      AllServed tells sock_traffic failed_receives failed_sends ticks readings notes noted answers count ws1 ws2 → AreWith ws0 ws1 → AreWith ws2 ws3 →
      AllWent tells sock_traffic failed_receives failed_sends ticks readings notes noted answers count k (map outcome_of ws2) ws0 ws3
  all_went book k ws0 ws1 ws2 ws3 as_many still seated served took gave = λ i o w lt.
      let one : i < length ws1 = omega arith in
      let two : i < length ws2 = omega arith in
      rw (get_or-map outcome_of ws2 i w o two) (worker_went book (worker_seat i k) (slice_index_or ws0 i w) (slice_index_or ws1 i w) (slice_index_or ws2 i w) (slice_index_or ws3 i w)
      (seated i w one) (served i w one) (took i w lt) (gave i w two))

  -- All that a host with several workers did. Its workers are the elements of a vector, which is read as what was put into it.
  pub workers_served : {A P : Type 0} (accept_tells : A → Type 0) (accept_traffic : A → AcceptTraffic) (failed : A → ℕ) (works : P → Type 0) (given : P → List SocketAddr) (refused : P → ℕ)
      (end : HostEnd) (accepts_end : AcceptEnd) (risen : Bool) (look : Look) (book : TableId) (k one first joined k' : Known)
      (h h' : WorkersHost A D C P J) (p : P) (ws1 put1 ws2 ws3 : List (Worker D C J)) →
      length ws1 ≡ length h.workers.items → put1 ≡ ws1 → length ws2 ≡ length put1 → h'.workers.items ≡ ws3 → length ws3 ≡ length ws2 →
      one ≡ left_after (length h.workers.items) k → AreSeated book k ws1 → AreWith h.workers.items ws1 →
      AcceptsWent accept_tells accept_traffic failed works given refused accepts_end risen count one first h.accept h'.accept h.spawner p →
      AllServed tells sock_traffic failed_receives failed_sends ticks readings notes noted answers count put1 ws2 →
      Observed (works h'.spawner) (works p) (given h'.spawner ≡ given p) → refused h'.spawner ≡ refused p →
      JoinedAll first (map outcome_of ws2) joined → AreWith ws2 ws3 → end ≡ end_of_all (end_of_accepts accepts_end risen) (map outcome_of ws2) →
      Called joined ToShutdown (Shown look) k' →
      WorkersServed tells sock_traffic failed_receives failed_sends ticks readings notes noted answers count accept_tells accept_traffic failed works given refused end k k' h h'
  workers_served accept_tells accept_traffic failed works given refused end accepts_end risen look book k one first joined k' h h' p ws1 put1 ws2 ws3
      as_many put still kept after left seated took accepted served given_still starts join gave ends shut =
      let same : length ws2 ≡ length ws1 = still ∙ ap length put in
      let all : AllServed tells sock_traffic failed_receives failed_sends ticks readings notes noted answers count ws1 ws2 =
      subst (λ (x : List (Worker D C J)). AllServed tells sock_traffic failed_receives failed_sends ticks readings notes noted answers count x ws2) put served in
      let back : AreWith ws2 h'.workers.items = subst (λ (x : List (Worker D C J)). AreWith ws2 x) (sym kept) gave in
      record {
        accepts_end = accepts_end;
        risen = risen;
        first = first;
        outcomes = map outcome_of ws2;
        joined = joined;
        workers = ap length kept ∙ (after ∙ (same ∙ as_many));
        as_many = length-map ws2 outcome_of ∙ (same ∙ as_many);
        accepts = subst (λ (x : Known). AcceptsWent accept_tells accept_traffic failed works given refused accepts_end risen count x first h.accept h'.accept h.spawner h'.spawner) left
            (went_joined accept_tells accept_traffic failed works given refused accepts_end risen count one first h.accept h'.accept h.spawner p h'.spawner accepted given_still starts);
        dgrams = all_went book k h.workers.items ws1 ws2 h'.workers.items as_many same seated all took back;
        join = join;
        shut = record { look = look; called = shut };
        end_is = ends;
      }

-- How a host was served.
use Rattle.std.proofs.Common.{◌≡◌, ℕ, Bool, true, false, List, refl, ◌∙◌, subst, ◌⊎◌, inl, inr, arith}
use Rattle.std.specs.Prelude.{◌||◌}
use Rattle.dns_name.specs.declared.address.SocketAddr.{SocketAddr}
use Rattle.dns_events.specs.declared.look.Look.{Look}
use Rattle.dns_admission.specs.declared.call.Call.TheVariants.{Shutdown as ToShutdown}
use Rattle.dns_admission.specs.declared.call.Reply.TheVariants.{Look as Shown}
use Rattle.dns_book.specs.Seats.{Called, Joined, first_half, second_half}
use Rattle.dns_book.specs.declared.history.Entry.{Entry}
use Rattle.dns_book.specs.declared.history.Known.{Known}
use Rattle.dns_io.specs.Causes.{Observed}
use Rattle.dns_io.specs.AcceptTraffic.{AcceptTraffic}
use Rattle.dns_io.specs.SockTraffic.{SockTraffic}
use Rattle.dns_events.specs.declared.event.Event.{Event}
use Rattle.dns_session.specs.Serving.{Serving}
use Rattle.dns_accepts.specs.Clocks.{ClockReading}
use Rattle.dns_dgram_driver.specs.DatagramsServed.{world, ReceivesBy, RoseIf}
use Rattle.dns_dgram_driver.specs.declared.serving.DgramEnd.{DgramEnd}
use Rattle.dns_dgram_driver.specs.declared.serving.DgramEnd.TheVariants.{Shutdown as DgramShutdown, Counted as DgramCounted, Fault as DgramFault, OutOfMemory as DgramOutOfMemory}
use Rattle.dns_accepts.specs.Accepting.{AcceptTurn, Gave, TookTurns, AcceptsTo}
use Rattle.dns_accepts.specs.Arrivals.{RoseWhere}
use Rattle.dns_host.specs.Hosting.{HostWorld, host_end, host_world, HostRose, AcceptsBeside, DgramsBeside, AcceptsWent, DgramsWent, BothServed, NeitherBegan, host_seen, accept_observed, sock_observed, HostServed}
use Rattle.dns_host.specs.declared.host.Host.{Host}
use Rattle.dns_accepts.specs.declared.accepts.AcceptEnd.{AcceptEnd}
use Rattle.dns_accepts.specs.declared.accepts.AcceptEnd.TheVariants.{Shutdown as AcceptShutdown, Counted as AcceptCounted, OutOfMemory as AcceptOutOfMemory}
use Rattle.dns_host.specs.declared.host.HostEnd.{HostEnd}
use Rattle.dns_host.specs.declared.host.HostEnd.TheVariants.{Done, OutOfMemory, HostFault}

-- after the loop the works were joined, which gives none
turns_joined : (turns : List AcceptTurn) (more : List Entry) (na mp np before works works' : Type 0) (k k' : Known) (a b : AcceptTraffic) (h h' : List SocketAddr) (f f' : ℕ) →
    Observed np mp (h' ≡ h) → (h' ≡ h → works → works') → TookTurns turns more (na × mp) before works k k' a b f f' → TookTurns turns more (na × np) before works' k k' a b f f'
turns_joined turns more na mp np before works works' k k' a b h h' f f' t keep s = record {
  calls = s.calls;
  running = s.running;
  name = s.name;
  faults = s.faults;
  observed = record { observed = λ n. let x = t.observed n.1 in let y = s.observed.observed (n.0, x.0) in (y.0, (y.1.0, keep x.1 y.1.1)) };
}

gave_joined : (addrs g h h' : List SocketAddr) → h' ≡ h → Gave addrs g h → Gave addrs g h'
gave_joined addrs g h h' same gave = same ∙ gave

-- accepts stay what they were once their work was joined
pub accepts_joined : (end : AcceptEnd) (count : ℕ) (na mp np before : Type 0) (k k' : Known) (a b : AcceptTraffic) (g h h' : List SocketAddr) (f f' : ℕ) →
    Observed np mp (h' ≡ h) → AcceptsTo end count (na × mp) before k k' a b g h f f' → AcceptsTo end count (na × np) before k k' a b g h' f f'
accepts_joined AcceptCounted count na mp np before k k' a b g h h' f f' t s = record {
  turns = s.turns;
  some = s.some;
  all = s.all;
  turned = turns_joined s.turns _ na mp np before _ _ k k' a b h h' f f' t (gave_joined _ g h h') s.turned;
}
accepts_joined AcceptShutdown count na mp np before k k' a b g h h' f f' t s = record {
  turns = s.turns;
  look = s.look;
  shut = s.shut;
  fewer = s.fewer;
  turned = turns_joined s.turns _ na mp np before _ _ k k' a b h h' f f' t (gave_joined _ g h h') s.turned;
}
accepts_joined AcceptOutOfMemory count na mp np before k k' a b g h h' f f' t s = record {
  turns = s.turns;
  whole = s.whole;
  last = s.last;
  within = s.within;
  turned = turns_joined s.turns _ na mp np before _ _ k k' a b h h' f f' t
      (λ same w. elim w [ inl x ↦ inl (gave_joined _ g h h' same x) | inr x ↦ inr (gave_joined _ g h h' same x) ]) s.turned;
}

both_served : (answers : Serving) (end : HostEnd) (count : ℕ) (accepts_end : AcceptEnd) (dgrams_end : DgramEnd) (risen send_failed : Bool) (look : Look)
    (na mp np before sock_now sock_before other : Type 0) (k one two first second joined k' : Known)
    (a b : AcceptTraffic) (g h h' : List SocketAddr) (n n' : List Event) (m m' : SockTraffic) (c c' : List ClockReading) (f f' p p1 p' r r' s s' : ℕ) →
    one ≡ first_half k → two ≡ second_half k →
    AcceptsBeside accepts_end count (na × mp) before one first a b g h f f' → RoseWhere risen f f' p p1 →
    DgramsBeside answers dgrams_end count sock_now sock_before two second (world n m s c) (world n' m' s' c') → ReceivesBy dgrams_end r r' → RoseIf send_failed s s' →
    Observed np mp (h' ≡ h) → p' ≡ p1 → Joined first second joined → Called joined ToShutdown (Shown look) k' → end ≡ host_end dgrams_end accepts_end (risen || send_failed) →
    BothServed answers end count (na × np) before sock_now sock_before k k' (host_world a g n m c f p r s) (host_world b h' n' m' c' f' p' r' s') ⊎ other
both_served answers end count accepts_end dgrams_end risen send_failed look na mp np before sock_now sock_before other k one two first second joined k'
    a b g h h' n n' m m' c c' f f' p p1 p' r r' s s' halves others accepted rose served receives sends given starts join shut ends = inl (record {
      accepts_end = accepts_end;
      dgrams_end = dgrams_end;
      risen = risen;
      send_failed = send_failed;
      end_is = ends;
      rose = rw starts rose;
      receives = receives;
      sends = sends;
      first = first;
      second = second;
      joined = joined;
      accepts = subst (λ (x : Known). AcceptsBeside accepts_end count (na × np) before x first a b g h' f f') halves (record {
        between = accepted.between;
        accepts = accepts_joined accepts_end count na mp np before one accepted.between a b g h h' f f' given accepted.accepts;
        shut = accepted.shut;
      });
      dgrams = subst (λ (x : Known). DgramsBeside answers dgrams_end count sock_now sock_before x second (world n m s c) (world n' m' s' c')) others served;
      join = join;
      shut = record { look = look; called = shut };
    })

-- a fault is answered exactly if something failed, unless memory ran out
any_rose : (end : Bool → HostEnd) (risen send_failed : Bool) (f f' p p' r r' s s' : ℕ) → end true ≡ HostFault → end false ≡ Done → RoseWhere risen f f' p p' → r' ≡ r → RoseIf send_failed s s' →
    HostRose (end (risen || send_failed)) f f' p p' r r' s s'
any_rose end true send_failed f f' p p' r r' s s' fault done rose same sends = rw fault (inl rose)
any_rose end false true f f' p p' r r' s s' fault done rose same sends = rw fault (inr (inr sends))
any_rose end false false f f' p p' r r' s s' fault done rose same sends = rw done (rose.0, rose.1, same, sends)

rose_end : (dgrams_end : DgramEnd) (accepts_end : AcceptEnd) (risen send_failed : Bool) (f f' p p' r r' s s' : ℕ) → RoseWhere risen f f' p p' → ReceivesBy dgrams_end r r' → RoseIf send_failed s s' →
    HostRose (host_end dgrams_end accepts_end (risen || send_failed)) f f' p p' r r' s s'
rose_end DgramOutOfMemory accepts_end risen send_failed f f' p p' r r' s s' rose receives sends = tt
rose_end DgramFault AcceptOutOfMemory risen send_failed f f' p p' r r' s s' rose receives sends = tt
rose_end DgramShutdown AcceptOutOfMemory risen send_failed f f' p p' r r' s s' rose receives sends = tt
rose_end DgramCounted AcceptOutOfMemory risen send_failed f f' p p' r r' s s' rose receives sends = tt
rose_end DgramFault AcceptShutdown risen send_failed f f' p p' r r' s s' rose receives sends = inr (inl receives)
rose_end DgramFault AcceptCounted risen send_failed f f' p p' r r' s s' rose receives sends = inr (inl receives)
rose_end DgramShutdown AcceptShutdown risen send_failed f f' p p' r r' s s' rose receives sends = any_rose (host_end DgramShutdown AcceptShutdown) risen send_failed f f' p p' r r' s s' refl refl rose receives sends
rose_end DgramShutdown AcceptCounted risen send_failed f f' p p' r r' s s' rose receives sends = any_rose (host_end DgramShutdown AcceptCounted) risen send_failed f f' p p' r r' s s' refl refl rose receives sends
rose_end DgramCounted AcceptShutdown risen send_failed f f' p p' r r' s s' rose receives sends = any_rose (host_end DgramCounted AcceptShutdown) risen send_failed f f' p p' r r' s s' refl refl rose receives sends
rose_end DgramCounted AcceptCounted risen send_failed f f' p p' r r' s s' rose receives sends = any_rose (host_end DgramCounted AcceptCounted) risen send_failed f f' p p' r r' s s' refl refl rose receives sends

rose_of_host : (end : HostEnd) (dgrams_end : DgramEnd) (accepts_end : AcceptEnd) (risen send_failed : Bool) (f f' p p1 p' r r' s s' : ℕ) → end ≡ host_end dgrams_end accepts_end (risen || send_failed) →
    RoseWhere risen f f' p p1 → p' ≡ p1 → ReceivesBy dgrams_end r r' → RoseIf send_failed s s' → HostRose end f f' p p' r r' s s'
rose_of_host end dgrams_end accepts_end risen send_failed f f' p p1 p' r r' s s' is rose same receives sends =
    rw is (rose_end dgrams_end accepts_end risen send_failed f f' p p' r r' s s' (rw same rose) receives sends)

-- both were served, and then all work was joined
pub host_served : {A D C P J : Type 0} (tells : A → Type 0) (accept_traffic : A → AcceptTraffic) (failed : A → ℕ) (works : P → Type 0) (given : P → List SocketAddr) (refused : P → ℕ)
    (sock_tells : D → Type 0) (sock_traffic : D → SockTraffic) (failed_receives failed_sends : D → ℕ) (ticks : C → Type 0) (readings : C → List ClockReading) (notes : J → Type 0) (noted : J → List Event)
    (answers : Serving) (end : HostEnd) (count : ℕ) (accepts_end : AcceptEnd) (dgrams_end : DgramEnd) (risen send_failed : Bool) (look : Look)
    (k one two first second joined k' : Known) (h h' : Host A D C P J) (p : P) →
    one ≡ first_half k → two ≡ second_half k →
    AcceptsWent tells accept_traffic failed works given refused accepts_end risen count one first h.accept h'.accept h.spawner p →
    DgramsWent sock_tells sock_traffic failed_receives failed_sends ticks readings notes noted answers dgrams_end send_failed count two second h.sock h'.sock h.clock h'.clock h.journal h'.journal →
    Observed (works h'.spawner) (works p) (given h'.spawner ≡ given p) → refused h'.spawner ≡ refused p →
    Joined first second joined → Called joined ToShutdown (Shown look) k' → end ≡ host_end dgrams_end accepts_end (risen || send_failed) →
    HostServed (host_seen accept_traffic given noted sock_traffic readings failed refused failed_receives failed_sends) (accept_observed tells works) (sock_observed sock_tells ticks notes) answers end count k k' h h'
host_served tells accept_traffic failed works given refused sock_tells sock_traffic failed_receives failed_sends ticks readings notes noted answers end count accepts_end dgrams_end risen send_failed look
    k one two first second joined k' h h' p halves others accepted served gave starts join shut ends = record {
      observed = both_served answers end count accepts_end dgrams_end risen send_failed look
          (tells h'.accept) (works p) (works h'.spawner) (tells h.accept × works h.spawner)
          (sock_tells h'.sock × ticks h'.clock × notes h'.journal) (sock_tells h.sock × ticks h.clock × notes h.journal) (NeitherBegan end k k' × (h' ≡ h))
          k one two first second joined k' (accept_traffic h.accept) (accept_traffic h'.accept) (given h.spawner) (given p) (given h'.spawner)
          (noted h.journal) (noted h'.journal) (sock_traffic h.sock) (sock_traffic h'.sock) (readings h.clock) (readings h'.clock)
          (failed h.accept) (failed h'.accept) (refused h.spawner) (refused p) (refused h'.spawner)
          (failed_receives h.sock) (failed_receives h'.sock) (failed_sends h.sock) (failed_sends h'.sock)
          halves others (record { between = accepted.between; accepts = accepted.ran.observed; shut = accepted.shut }) accepted.ran.rose
          served.dgrams served.receives served.sends gave starts join shut ends;
      fault = rose_of_host end dgrams_end accepts_end risen send_failed (failed h.accept) (failed h'.accept) (refused h.spawner) (refused p) (refused h'.spawner)
          (failed_receives h.sock) (failed_receives h'.sock) (failed_sends h.sock) (failed_sends h'.sock)
          ends accepted.ran.rose starts served.receives served.sends;
      accepts_later = accepted.ran.accepts_later;
      starts_later = rw starts accepted.ran.starts_later;
      receives_later = served.receives_later;
      sends_later = served.sends_later;
    }

-- memory ran out before either began, and the book was shut down
pub none_served : {H : Type 0} (seen : H → HostWorld) (accept_traffic sock_traffic : H → Type 0) (answers : Serving) (end : HostEnd) (count : ℕ) (look : Look) (k k' : Known) (h : H) →
    end ≡ OutOfMemory → Called k ToShutdown (Shown look) k' → HostServed seen accept_traffic sock_traffic answers end count k k' h h
none_served seen accept_traffic sock_traffic answers end count look k k' h is shut = record {
  observed = inr (record { end_is = is; shut = record { look = look; called = shut } }, refl);
  fault = rw is tt;
  accepts_later = omega arith;
  starts_later = omega arith;
  receives_later = omega arith;
  sends_later = omega arith;
}

-- what was done to an accept object and a spawner, by what they are afterwards
pub went_over : {S P : Type 0} (tells : S → Type 0) (accept_traffic : S → AcceptTraffic) (failed : S → ℕ) (works : P → Type 0) (given : P → List SocketAddr) (refused : P → ℕ)
    (end : AcceptEnd) (risen : Bool) (count : ℕ) (k k' : Known) (a b c : S) (p q r : P) →
    AcceptsWent tells accept_traffic failed works given refused end risen count k k' a b p q → c ≡ b → r ≡ q → AcceptsWent tells accept_traffic failed works given refused end risen count k k' a c p r
went_over tells accept_traffic failed works given refused end risen count k k' a b c p q r went same still = rw (same, still) went

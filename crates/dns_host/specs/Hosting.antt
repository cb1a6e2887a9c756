-- How connections and datagrams are served beside each other.
use Rattle.std.specs.Prelude.{◌≡◌, ◌≤◌, ◌⊎◌, ℕ, List, Bool, true, false, ◌||◌}
use Rattle.dns_name.specs.declared.address.SocketAddr.{SocketAddr}
use Rattle.dns_events.specs.declared.look.Look.{Look}
use Rattle.dns_admission.specs.declared.call.Call.TheVariants.{Shutdown as ToShutdown}
use Rattle.dns_admission.specs.declared.call.Reply.TheVariants.{Look as Shown}
use Rattle.dns_book.specs.Seats.{Called, Joined, first_half, second_half}
use Rattle.dns_book.specs.declared.history.Known.{Known}
use Rattle.dns_io.specs.Causes.{Rose, Observed}
use Rattle.dns_io.specs.AcceptTraffic.{AcceptTraffic}
use Rattle.dns_io.specs.SockTraffic.{SockTraffic}
use Rattle.dns_events.specs.declared.event.Event.{Event}
use Rattle.dns_session.specs.Serving.{Serving}
use Rattle.dns_accepts.specs.Clocks.{ClockReading}
use Rattle.dns_dgram_driver.specs.DatagramsServed.{World, world, LooksBy, ReceivesBy, RoseIf, ServedTo}
use Rattle.dns_dgram_driver.specs.declared.serving.DgramEnd.{DgramEnd}
use Rattle.dns_dgram_driver.specs.declared.serving.DgramEnd.TheVariants.{Shutdown as DgramShutdown, Counted as DgramCounted, Fault as DgramFault, OutOfMemory as DgramOutOfMemory}
use Rattle.dns_accepts.specs.Accepting.{AcceptsTo}
use Rattle.dns_accepts.specs.Arrivals.{RoseWhere, AcceptsRan}
use Rattle.dns_accepts.specs.declared.accepts.AcceptEnd.{AcceptEnd}
use Rattle.dns_accepts.specs.declared.accepts.AcceptEnd.TheVariants.{Shutdown as AcceptShutdown, Counted as AcceptCounted, OutOfMemory as AcceptOutOfMemory}
use Rattle.dns_host.specs.declared.host.Host.{Host}
use Rattle.dns_host.specs.declared.host.HostEnd.{HostEnd}
use Rattle.dns_host.specs.declared.host.HostEnd.TheVariants.{Done, OutOfMemory, HostFault}

-- the seat shut the book down
pub record ShutDown (k k' : Known) : Type 0 where
  pub look : Look
  pub called : Called k ToShutdown (Shown look) k'

-- both halves of a seat were joined, and the book was shut down
pub record HalvesClosed (first second k' : Known) : Type 0 where
  pub joined : Known
  pub join : Joined first second joined
  pub shut : ShutDown joined k'

-- datagrams that end by a fault or because memory ran out shut the book down, and so do accepts that end because memory ran out
abbrev pub DgramsShut : DgramEnd → Known → Known → Type 0
DgramsShut DgramShutdown k k' = k' ≡ k
DgramsShut DgramCounted k k' = k' ≡ k
DgramsShut DgramFault k k' = ShutDown k k'
DgramsShut DgramOutOfMemory k k' = ShutDown k k'

abbrev pub AcceptsShut : AcceptEnd → Known → Known → Type 0
AcceptsShut AcceptShutdown k k' = k' ≡ k
AcceptsShut AcceptCounted k k' = k' ≡ k
AcceptsShut AcceptOutOfMemory k k' = ShutDown k k'

-- how a host ends, by how the two end and whether an accept or a send failed or a start was refused
abbrev pub host_end : DgramEnd → AcceptEnd → Bool → HostEnd
host_end DgramOutOfMemory accepts risen = OutOfMemory
host_end datagrams AcceptOutOfMemory risen = OutOfMemory
host_end DgramFault accepts risen = HostFault
host_end datagrams accepts true = HostFault
host_end datagrams accepts false = Done

-- The host's count of faults is that of failed accepts, refused starts, failed receives and failed sends. It rose if a host ends by a
-- fault, and it is the same if it is done.
abbrev pub HostRose : HostEnd → ℕ → ℕ → ℕ → ℕ → ℕ → ℕ → ℕ → ℕ → Type 0
HostRose HostFault f f' p p' r r' s s' = (Rose f f' ⊎ Rose p p') ⊎ (Rose r r' ⊎ Rose s s')
HostRose Done f f' p p' r r' s s' = (f' ≡ f) × (p' ≡ p) × (r' ≡ r) × (s' ≡ s)
HostRose OutOfMemory f f' p p' r r' s s' = Unit {0}

-- what a host tells, and its counts of faults: failed accepts, refused starts, failed receives and failed sends
pub record HostWorld : Type 0 where
  pub accept_traffic : AcceptTraffic
  pub given : List SocketAddr
  pub noted : List Event
  pub sock_traffic : SockTraffic
  pub readings : List ClockReading
  pub failed_accepts : ℕ
  pub refused_starts : ℕ
  pub failed_receives : ℕ
  pub failed_sends : ℕ

abbrev pub host_world : AcceptTraffic → List SocketAddr → List Event → SockTraffic → List ClockReading → ℕ → ℕ → ℕ → ℕ → HostWorld
host_world accept_traffic given noted sock_traffic readings failed_accepts refused_starts failed_receives failed_sends =
    record {
      accept_traffic = accept_traffic;
      given = given;
      noted = noted;
      sock_traffic = sock_traffic;
      readings = readings;
      failed_accepts = failed_accepts;
      refused_starts = refused_starts;
      failed_receives = failed_receives;
      failed_sends = failed_sends;
    }

-- what the serving of datagrams tells
abbrev pub dgram_world : HostWorld → Known → World
dgram_world h k = world h.noted h.sock_traffic h.failed_sends h.readings k

-- accepts, and then perhaps a shutdown
pub record AcceptsBeside (end : AcceptEnd) (count : ℕ) (now before : Type 0) (k k' : Known) (a b : AcceptTraffic)
    (given given' : List SocketAddr) (f f' : ℕ) : Type 0 where
  pub between : Known
  pub accepts : AcceptsTo end count now before k between a b given given' f f'
  pub shut : AcceptsShut end between k'

-- datagrams, and then perhaps a shutdown
pub record DgramsBeside (answers : Serving) (end : DgramEnd) (count : ℕ) (now before : Type 0) (k k' : Known)
    (start stop : Known → World) : Type 0 where
  pub between : Known
  pub looks : LooksBy end k between
  pub served : Observed now before (ServedTo answers end count (start k) (stop between))
  pub shut : DgramsShut end between k'

-- what accepts beside datagrams did to the seat, the accept object and the spawner, which are read so
pub record AcceptsWent {S P : Type 0} (tells : S → Type 0) (accept_traffic : S → AcceptTraffic) (failed : S → ℕ)
    (works : P → Type 0) (given : P → List SocketAddr) (refused : P → ℕ)
    (end : AcceptEnd) (risen : Bool) (count : ℕ) (k k' : Known) (a b : S) (p q : P) : Type 0 where
  pub between : Known
  pub ran : AcceptsRan tells accept_traffic failed works given refused end risen count k between a b p q
  pub shut : AcceptsShut end between k'

-- What datagrams beside accepts did to the seat, the socket, the clock and the journal, which are read so, and whether a send failed.
-- Neither count fell.
pub record DgramsWent {D C J : Type 0} (tells : D → Type 0) (sock_traffic : D → SockTraffic) (failed_receives failed_sends : D → ℕ)
    (ticks : C → Type 0) (readings : C → List ClockReading)
    (notes : J → Type 0) (noted : J → List Event) (answers : Serving) (end : DgramEnd) (send_failed : Bool) (count : ℕ)
    (k k' : Known) (d d' : D) (c c' : C) (j j' : J) : Type 0 where
  pub dgrams : DgramsBeside answers end count (tells d' × ticks c' × notes j') (tells d × ticks c × notes j) k k'
      (world (noted j) (sock_traffic d) (failed_sends d) (readings c)) (world (noted j') (sock_traffic d') (failed_sends d') (readings c'))
  pub receives : ReceivesBy end (failed_receives d) (failed_receives d')
  pub sends : RoseIf send_failed (failed_sends d) (failed_sends d')
  pub receives_later : failed_receives d ≤ failed_receives d'
  pub sends_later : failed_sends d ≤ failed_sends d'

-- Accepts from the first half of a seat beside datagrams from the second. Then both halves are joined and the book is shut down.
pub record BothServed (answers : Serving) (end : HostEnd) (count : ℕ) (accept_now accept_before sock_now sock_before : Type 0)
    (k k' : Known) (h h' : HostWorld) : Type 0 where
  pub accepts_end : AcceptEnd
  pub dgrams_end : DgramEnd
  pub risen : Bool
  pub send_failed : Bool
  pub end_is : end ≡ host_end dgrams_end accepts_end (risen || send_failed)
  pub rose : RoseWhere risen h.failed_accepts h'.failed_accepts h.refused_starts h'.refused_starts
  pub receives : ReceivesBy dgrams_end h.failed_receives h'.failed_receives
  pub sends : RoseIf send_failed h.failed_sends h'.failed_sends
  pub first : Known
  pub second : Known
  pub joined : Known
  pub accepts : AcceptsBeside accepts_end count accept_now accept_before
      (first_half k) first h.accept_traffic h'.accept_traffic h.given h'.given h.failed_accepts h'.failed_accepts
  pub dgrams : DgramsBeside answers dgrams_end count sock_now sock_before (second_half k) second (dgram_world h) (dgram_world h')
  pub join : Joined first second joined
  pub shut : ShutDown joined k'

-- memory ran out before either began: the book was shut down, and nothing else was done
pub record NeitherBegan (end : HostEnd) (k k' : Known) : Type 0 where
  pub end_is : end ≡ OutOfMemory
  pub shut : ShutDown k k'

-- what is seen of a host whose objects are read so
abbrev pub host_seen : {A D C P J : Type 0} → (A → AcceptTraffic) → (P → List SocketAddr) → (J → List Event) → (D → SockTraffic)
    → (C → List ClockReading) → (A → ℕ) → (P → ℕ) → (D → ℕ) → (D → ℕ) → Host A D C P J → HostWorld
host_seen accept_traffic given noted sock_traffic readings failed refused failed_receives failed_sends h =
    host_world (accept_traffic h.accept) (given h.spawner) (noted h.journal) (sock_traffic h.sock) (readings h.clock)
    (failed h.accept) (refused h.spawner) (failed_receives h.sock) (failed_sends h.sock)

-- that a host's accept object and spawner tell, and that its socket, clock and journal do
abbrev pub accept_observed : {A D C P J : Type 0} → (A → Type 0) → (P → Type 0) → Host A D C P J → Type 0
accept_observed tells works h = tells h.accept × works h.spawner

abbrev pub sock_observed : {A D C P J : Type 0} → (D → Type 0) → (C → Type 0) → (J → Type 0) → Host A D C P J → Type 0
sock_observed tells ticks notes h = tells h.sock × ticks h.clock × notes h.journal

-- how a host was served, of which this is seen, and whose two sides tell so; no count of faults fell
pub record HostServed {H : Type 0} (seen : H → HostWorld) (accept_traffic sock_traffic : H → Type 0) (answers : Serving)
    (end : HostEnd) (count : ℕ) (k k' : Known) (h h' : H) : Type 0 where
  pub observed : BothServed answers end count (accept_traffic h') (accept_traffic h) (sock_traffic h') (sock_traffic h) k k'
      (seen h) (seen h') ⊎ (NeitherBegan end k k' × (h' ≡ h))
  pub fault : HostRose end (seen h).failed_accepts (seen h').failed_accepts (seen h).refused_starts (seen h').refused_starts
      (seen h).failed_receives (seen h').failed_receives (seen h).failed_sends (seen h').failed_sends
  pub accepts_later : (seen h).failed_accepts ≤ (seen h').failed_accepts
  pub starts_later : (seen h).refused_starts ≤ (seen h').refused_starts
  pub receives_later : (seen h).failed_receives ≤ (seen h').failed_receives
  pub sends_later : (seen h).failed_sends ≤ (seen h').failed_sends

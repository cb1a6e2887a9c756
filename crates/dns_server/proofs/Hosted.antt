-- A host that was served, by the status that stands for it.
use Rattle.std.proofs.Common.{◌≡◌, ◌⊎◌, ℕ, List, Option, refl, inl, inr, rules}
use Rattle.std.specs.Prelude.{Result, Ok, Err, IfOk}
use Rattle.dns_book.specs.declared.history.Known.{Known}
use Rattle.dns_service.specs.Answer.{Answer}
use Rattle.dns_service.specs.Req.{Req}
use Rattle.dns_session.specs.Serving.{Serving, serving}
use Rattle.dns_transport.specs.Hosting.{HostWorld, HostServed, NeitherBegan, ShutDown}
use Rattle.dns_transport.specs.HostEnd.{HostEnd}
use Rattle.dns_transport.specs.HostEnd.TheVariants.{Done, OutOfMemory, HostFault}
use Rattle.dns_account.specs.Hosts.{AcceptTells, SockTells, HostKept}
use Rattle.dns_account.proofs.WitnessedHost.{host_kept}
use Rattle.dns_host_status.specs.HostStatus.{status_of_host, OfHost}
use Rattle.dns_server.specs.OverWitnesses.{WorkersKept}
use Rattle.dns_server.proofs.WitnessedServers.{workers_kept}
use Rattle.dns_run.specs.declared.status.Status.{Status}
use Rattle.dns_run.specs.declared.status.Status.TheVariants.{Done as WholeDone, Usage, Refused, ReadFault, WriteFault, OutOfMemory as NoMemory, TooLong, HostFault as Failed}
use Rattle.dns_name.specs.declared.address.SocketAddr.{SocketAddr}
use Rattle.dns_events.specs.declared.event.Event.{Event}
use Rattle.dns_io.specs.AcceptTraffic.{AcceptTraffic}
use Rattle.dns_io.specs.SockTraffic.{SockTraffic}
use Rattle.dns_recorder.specs.Clocks.{ClockReading}
use Rattle.dns_workers.specs.declared.workers_host.WorkersHost.{WorkersHost}
use Rattle.dns_workers.specs.Workers.{WorkersServed}
use Rattle.dns_workers.specs.Faults.{RoseBy}

-- what is so of the end is so of its status
of_host : (P : HostEnd → Type 0) (end : HostEnd) (s : Status) → s ≡ status_of_host end → P end → OfHost P s
of_host P Done s is h = rw is h
of_host P OutOfMemory s is h = rw is h
of_host P HostFault s is h = rw is h

-- a host that was served
pub served_as : {H : Type 0} (seen : H → HostWorld) (accept_traffic sock_traffic : H → Type 0) (answers : Serving) (end : HostEnd) (s : Status) (count : ℕ) (k k' : Known) (h h' : H) → s ≡ status_of_host end →
    HostServed seen accept_traffic sock_traffic answers end count k k' h h' → OfHost (λ e. HostServed seen accept_traffic sock_traffic answers e count k k' h h') s
served_as seen accept_traffic sock_traffic answers end s count k k' h h' is served = of_host (λ e. HostServed seen accept_traffic sock_traffic answers e count k k' h h') end s is served

-- a host that was not served, since memory ran out before
pub unserved : {H : Type 0} (seen : H → HostWorld) (accept_traffic sock_traffic : H → Type 0) (answers : Serving) (s : Status) (count : ℕ) (k k' : Known) (h : H) → s ≡ NoMemory → ShutDown k k' →
    OfHost (λ e. HostServed seen accept_traffic sock_traffic answers e count k k' h h) s
unserved seen accept_traffic sock_traffic answers s count k k' h is shut = rw is (record {
  observed = inr (record { end_is = refl; shut = shut }, refl);
  fault = tt;
  accepts_later = search rules;
  starts_later = search rules;
  receives_later = search rules;
  sends_later = search rules;
})

-- a host with workers that was served
pub shared_as : {A D C P J : Type 0} (tells : D → Type 0) (sock_traffic : D → SockTraffic) (failed_receives failed_sends : D → ℕ) (ticks : C → Type 0) (readings : C → List ClockReading)
    (notes : J → Type 0) (noted : J → List Event) (answers : Serving) (count : ℕ) (accept_tells : A → Type 0) (accept_traffic : A → AcceptTraffic) (failed : A → ℕ)
    (works : P → Type 0) (given : P → List SocketAddr) (refused : P → ℕ) (end : HostEnd) (s : Status) (k k' : Known) (h h' : WorkersHost A D C P J)
    → s ≡ status_of_host end → WorkersServed tells sock_traffic failed_receives failed_sends ticks readings notes noted answers count accept_tells accept_traffic failed works given refused end k k' h h'
    → OfHost (λ e. WorkersServed tells sock_traffic failed_receives failed_sends ticks readings notes noted answers count accept_tells accept_traffic failed works given refused e k k' h h' ⊎ (NeitherBegan e k k' × (h' ≡ h))) s
shared_as tells sock_traffic failed_receives failed_sends ticks readings notes noted answers count accept_tells accept_traffic failed works given refused end s k k' h h' is served =
    of_host (λ e. WorkersServed tells sock_traffic failed_receives failed_sends ticks readings notes noted answers count accept_tells accept_traffic failed works given refused e k k' h h' ⊎ (NeitherBegan e k k' × (h' ≡ h))) end s is (inl served)

-- a host with workers that was not served, since memory ran out before
pub unshared_as : {A D C P J : Type 0} (tells : D → Type 0) (sock_traffic : D → SockTraffic) (failed_receives failed_sends : D → ℕ) (ticks : C → Type 0) (readings : C → List ClockReading)
    (notes : J → Type 0) (noted : J → List Event) (answers : Serving) (count : ℕ) (accept_tells : A → Type 0) (accept_traffic : A → AcceptTraffic) (failed : A → ℕ)
    (works : P → Type 0) (given : P → List SocketAddr) (refused : P → ℕ) (s : Status) (k k' : Known) (h : WorkersHost A D C P J)
    → s ≡ NoMemory → ShutDown k k'
    → OfHost (λ e. WorkersServed tells sock_traffic failed_receives failed_sends ticks readings notes noted answers count accept_tells accept_traffic failed works given refused e k k' h h ⊎ (NeitherBegan e k k' × (h ≡ h))) s
unshared_as tells sock_traffic failed_receives failed_sends ticks readings notes noted answers count accept_tells accept_traffic failed works given refused s k k' h is shut = rw is (inr (record { end_is = refl; shut = shut }, refl))

-- why it ended so
pub caused_as : {A D C P J : Type 0} (failed_receives failed_sends : D → ℕ) (failed : A → ℕ) (refused : P → ℕ) (end : HostEnd) (s : Status) (h h' : WorkersHost A D C P J) → s ≡ status_of_host end →
    RoseBy failed_receives failed_sends failed refused end h h' → OfHost (λ e. RoseBy failed_receives failed_sends failed refused e h h') s
caused_as failed_receives failed_sends failed refused end s h h' is rose = of_host (λ e. RoseBy failed_receives failed_sends failed refused e h h') end s is rose

pub uncaused_as : {A D C P J : Type 0} (failed_receives failed_sends : D → ℕ) (failed : A → ℕ) (refused : P → ℕ) (s : Status) (h : WorkersHost A D C P J) → s ≡ NoMemory →
    OfHost (λ e. RoseBy failed_receives failed_sends failed refused e h h) s
uncaused_as failed_receives failed_sends failed refused s h is = rw is (record { caused = tt })

-- what a service in its layers answers and leaves
pub serving_so : {T E : Type 0} (made : Result T E) (answer : T → Req (Unit {0}) → ℕ → Answer) (hint : T → Req (Unit {0}) → Option ℕ) (given : Req (Unit {0}) → ℕ → Answer) (left : Req (Unit {0}) → Option ℕ) →
    IfOk made (λ s. answer s ≡ given) → IfOk made (λ s. hint s ≡ left) → IfOk made (λ s. serving given left ≡ serving (answer s) (hint s))
serving_so (Ok s) answer hint given left a h = rw (a, h) refl
serving_so (Err e) answer hint given left a h = tt

-- such a service may be called if the one within may be
pub may_call : {T E : Type 0} (made : Result T E) (inner : Type 0) (can : T → Type 0) → IfOk made (λ s. inner → can s) → inner → IfOk made (λ s. can s)
may_call (Ok s) inner can h i = h i
may_call (Err e) inner can h i = tt

-- what is so of a host's end leads to what else is so of it
of_host_then : (P Q : HostEnd → Type 0) → ((end : HostEnd) → P end → Q end) → (s : Status) → OfHost P s → OfHost Q s
of_host_then P Q then WholeDone h = then Done h
of_host_then P Q then NoMemory h = then OutOfMemory h
of_host_then P Q then Failed h = then HostFault h
of_host_then P Q then Usage h = absurd h
of_host_then P Q then Refused h = absurd h
of_host_then P Q then ReadFault h = absurd h
of_host_then P Q then WriteFault h = absurd h
of_host_then P Q then TooLong h = absurd h

-- a host over witnesses that was served
pub host_kept_as : {H : Type 0} (seen : H → HostWorld) (answers : Serving) (count : ℕ) (k k' : Known) (h h' : H) (s : Status)
    → OfHost (λ e. HostServed seen (λ _. AcceptTells) (λ _. SockTells) answers e count k k' h h') s → OfHost (λ e. HostKept seen answers e count k k' h h') s
host_kept_as seen answers count k k' h h' s =
    of_host_then (λ e. HostServed seen (λ _. AcceptTells) (λ _. SockTells) answers e count k k' h h') (λ e. HostKept seen answers e count k k' h h') (λ e. host_kept seen answers e count k k' h h') s

or_kept : (P Q N : Type 0) → (P → Q) → P ⊎ N → Q ⊎ N
or_kept P Q N then (inl p) = inl (then p)
or_kept P Q N then (inr n) = inr n

-- a host with workers over witnesses that was served
pub workers_kept_as : {A D C P J : Type 0} (sock_traffic : D → SockTraffic) (failed_sends : D → ℕ) (readings : C → List ClockReading) (noted : J → List Event) (failed_receives : D → ℕ)
    (accept_traffic : A → AcceptTraffic) (failed : A → ℕ) (given : P → List SocketAddr) (refused : P → ℕ) (answers : Serving) (count : ℕ)
    (k k' : Known) (h h' : WorkersHost A D C P J) (s : Status)
    → OfHost (λ e. WorkersServed (λ _. Unit {0}) sock_traffic failed_receives failed_sends (λ _. Unit {0}) readings (λ _. Unit {0}) noted answers count (λ _. Unit {0}) accept_traffic failed (λ _. Unit {0}) given refused e k k' h h' ⊎ (NeitherBegan e k k' × (h' ≡ h))) s
    → OfHost (λ e. WorkersKept sock_traffic failed_sends readings noted failed_receives accept_traffic failed given refused answers e count k k' h h' ⊎ (NeitherBegan e k k' × (h' ≡ h))) s
workers_kept_as sock_traffic failed_sends readings noted failed_receives accept_traffic failed given refused answers count k k' h h' s =
    of_host_then (λ e. WorkersServed (λ _. Unit {0}) sock_traffic failed_receives failed_sends (λ _. Unit {0}) readings (λ _. Unit {0}) noted answers count (λ _. Unit {0}) accept_traffic failed (λ _. Unit {0}) given refused e k k' h h' ⊎ (NeitherBegan e k k' × (h' ≡ h)))
    (λ e. WorkersKept sock_traffic failed_sends readings noted failed_receives accept_traffic failed given refused answers e count k k' h h' ⊎ (NeitherBegan e k k' × (h' ≡ h)))
    (λ e. or_kept (WorkersServed (λ _. Unit {0}) sock_traffic failed_receives failed_sends (λ _. Unit {0}) readings (λ _. Unit {0}) noted answers count (λ _. Unit {0}) accept_traffic failed (λ _. Unit {0}) given refused e k k' h h')
    (WorkersKept sock_traffic failed_sends readings noted failed_receives accept_traffic failed given refused answers e count k k' h h') (NeitherBegan e k k' × (h' ≡ h))
    (workers_kept sock_traffic failed_sends readings noted failed_receives answers count accept_traffic failed given refused e k k' h h')) s

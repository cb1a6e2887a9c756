-- What the run of a server does.
use Rattle.std.specs.Prelude.{◌≡◌, ℕ, List}
use Rattle.dns_name.specs.declared.address.SocketAddr.{SocketAddr}
use Rattle.dns_admission.specs.Admissions.{Admits}
use Rattle.dns_admission.specs.declared.admission.Admission.{Admission}
use Rattle.dns_admission.specs.declared.admission.Admission.TheVariants.{Admitted, Full, Closed}
use Rattle.dns_admission.specs.declared.call.Call.TheVariants.{Admit, Release}
use Rattle.dns_admission.specs.declared.call.Reply.TheVariants.{Admission as Answered, Left}
use Rattle.dns_book.specs.Seats.{Called, state_met}
use Rattle.dns_book.specs.declared.history.Known.{Known}
use Rattle.dns_io.specs.AcceptTraffic.{AcceptTraffic}
use Rattle.dns_session.specs.Serving.{Serving}
use Rattle.dns_host.specs.DatagramsServed.{World, ServedTo}
use Rattle.dns_host.specs.DgramEnd.{DgramEnd}
use Rattle.dns_host.specs.DgramEnd.TheVariants.{Shutdown}
use Rattle.dns_host.specs.Accepting.{TookUntilShut, TookAlmost}
use Rattle.dns_host.specs.AcceptEnd.{AcceptEnd}
use Rattle.dns_host.specs.AcceptEnd.TheVariants.{Shutdown as Stopped, OutOfMemory as Lacking}
use Rattle.dns_transport.specs.declared.stream.StreamEnd.{StreamEnd}
use Rattle.dns_transport.specs.declared.stream.StreamEnd.TheVariants.{Shutdown as ShutDown, OutOfMemory}

-- something was done with a slot, which was given back then
pub record GaveBack (does : Known → Known → Type 0) (k k' : Known) : Type 0 where
  pub done : Known
  pub left : ℕ
  pub does_so : does k done
  pub released : Called done Release (Left left) k'

-- What follows an admit: with a slot something is done and the slot given back; if none is free it is done without; and if
-- the book is closed it is not done.
abbrev pub AfterAdmit : Admission → (Known → Known → Type 0) → Type 0 → Known → Known → Type 0
AfterAdmit (Admitted look) does idle k k' = GaveBack does k k'
AfterAdmit (Full taken limit accepted) does idle k k' = does k k'
AfterAdmit Closed does idle k k' = (k' ≡ k) × idle

-- a slot was asked for, and then it is as the answer says
pub record InSlot (does : Known → Known → Type 0) (idle : Type 0) (k k' : Known) : Type 0 where
  pub answer : Admission
  pub asked : Known
  pub admit : Called k Admit (Answered answer) asked
  pub cause : Admits (state_met asked) answer
  pub after : AfterAdmit answer does idle asked k'

-- the world in which a seat knows this
abbrev pub where_known : World → Known → World
where_known w k = record w { known = k }

-- datagrams were served without a count, in a slot if one is free; if the book is closed nothing was done
abbrev pub DatagramsRan : Serving → DgramEnd → World → World → Type 0
DatagramsRan answers end start now =
    InSlot (λ k k'. ServedTo answers end 0 (where_known start k) (where_known now k'))
    ((end ≡ Shutdown) × (now ≡ where_known start now.known)) start.known now.known

-- a server ends as its loop without a count does
abbrev pub EndsAs : AcceptEnd → StreamEnd → Type 0
EndsAs Stopped ShutDown = Unit {0}
EndsAs Lacking OutOfMemory = Unit {0}
EndsAs end result = ⊥

-- connections were accepted without a count, until a look showed a shutdown, or memory ran out
abbrev pub ConnectionsRan : StreamEnd → Type 0 → Type 0 → Known → Known → AcceptTraffic → AcceptTraffic → List SocketAddr
    → List SocketAddr → ℕ → ℕ → Type 0
ConnectionsRan ShutDown now before k k' a b given given' f f' = TookUntilShut 0 now before k k' a b given given' f f'
ConnectionsRan OutOfMemory now before k k' a b given given' f f' = TookAlmost 0 now before k k' a b given given' f f'

-- How a connection ends.
use Rattle.std.specs.Prelude.{◌≡◌, ◌≤◌, ◌⊎◌, ℕ, List, [], ◌∷◌, ◌++◌, Some}
use Rattle.dns_name.specs.declared.address.SocketAddr.{SocketAddr}
use Rattle.dns_events.specs.declared.look.Look.{Look}
use Rattle.dns_admission.specs.declared.call.Call.TheVariants.{Release}
use Rattle.dns_admission.specs.declared.call.Reply.TheVariants.{Left}
use Rattle.dns_book.specs.Seats.{Called}
use Rattle.dns_book.specs.declared.history.Known.{Known}
use Rattle.dns_io.specs.Traffic.{Traffic}
use Rattle.dns_events.specs.declared.event.Event.{Event}
use Rattle.dns_events.specs.declared.event.EventKind.TheVariants.{Offer}
use Rattle.dns_events.specs.declared.event.Why.{Why}
use Rattle.dns_session.specs.Serving.{Serving}
use Rattle.dns_stream_driver.specs.Shown.{Shown, Causes}
use Rattle.dns_stream_driver.specs.Story.{Story, Broken, began}
use Rattle.dns_stream_driver.specs.declared.connection.ConnectionEnd.{ConnectionEnd}
use Rattle.dns_stream_driver.specs.declared.connection.ConnectionEnd.TheVariants.{Closed, OutOfMemory}

-- the Offer that is noted first
abbrev pub offer : ℕ → SocketAddr → ℕ → ℕ → Event
offer client addr at secs = record { at = at; secs = secs; client = client; kind = Offer addr }

-- the Offer was noted, and then a story that closes
pub record WasOffered (answers : Serving) (why : Why) (client : ℕ) (addr : SocketAddr) (look : Look) (n n' : List Event)
    (k k' : Known) (t t' : Traffic) : Type 0 where
  pub at : ℕ
  pub secs : ℕ
  pub story : Story answers (began client addr at look) client look (Some why) (n ++ offer client addr at secs ∷ []) n' k k' t t'

-- a connection was served: the Offer was noted, a story closed it, and then the slot was given back
pub record WasServed (answers : Serving) (why : Why) (client : ℕ) (addr : SocketAddr) (look : Look) (n n' : List Event)
    (k k' : Known) (t t' : Traffic) : Type 0 where
  pub between : Known
  pub left : ℕ
  pub opened : WasOffered answers why client addr look n n' k between t t'
  pub released : Called between Release (Left left) k'

-- memory ran out, before the Offer was noted, and then nothing was read or written; or after it
pub record BrokenOpen (answers : Serving) (client : ℕ) (addr : SocketAddr) (look : Look) (n n' : List Event) (t t' : Traffic) : Type 0 where
  pub at : ℕ
  pub secs : ℕ
  pub broken : Broken answers (began client addr at look) client (n ++ offer client addr at secs ∷ []) n' t t'

pub record Unserved (answers : Serving) (client : ℕ) (addr : SocketAddr) (look : Look) (n n' : List Event) (t t' : Traffic) : Type 0 where
  pub begun : ((n' ≡ n) × (t' ≡ t)) ⊎ BrokenOpen answers client addr look n n' t t'

abbrev pub EndsSo : Serving → ConnectionEnd → ℕ → SocketAddr → Look → List Event → List Event → Known → Known → Traffic → Traffic → Type 0
EndsSo answers (Closed why) client addr look n n' k k' t t' = WasServed answers why client addr look n n' k k' t t'
EndsSo answers OutOfMemory client addr look n n' k k' t t' = Unserved answers client addr look n n' t t'

-- what shows why the connection was closed, from the Offer on
pub record ShownFrom (answers : Serving) (why : Why) (client : ℕ) (addr : SocketAddr) (look : Look) (n n' : List Event)
    (t t' : Traffic) : Type 0 where
  pub at : ℕ
  pub secs : ℕ
  pub shown : Shown answers (began client addr at look) why (n ++ offer client addr at secs ∷ []) n' t t'

abbrev pub EndShown : Serving → ConnectionEnd → ℕ → SocketAddr → Look → List Event → List Event → Traffic → Traffic → Type 0
EndShown answers (Closed why) client addr look n n' t t' = ShownFrom answers why client addr look n n' t t'
EndShown answers OutOfMemory client addr look n n' t t' = Unit {0}

-- why a connection ended, whether link and recorder tell or not; if memory ran out, the count of faults did not fall
abbrev pub EndCauses : ConnectionEnd → Known → Known → ℕ → ℕ → Type 0
EndCauses (Closed why) k k' faults faults' = Causes why k k' faults faults'
EndCauses OutOfMemory k k' faults faults' = faults ≤ faults'

-- what is promised if the connection was closed
abbrev pub WhereClosed : ConnectionEnd → Type 0 → Type 0
WhereClosed (Closed why) promise = promise
WhereClosed OutOfMemory promise = Unit {0}

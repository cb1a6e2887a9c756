-- When a lookup is as far as its events brought it.
use Rattle.std.specs.Prelude.{◌≡◌, ℕ, List, [], ◌∷◌, Bool, true, false, Option, Some, None, Ok}
use Rattle.dns_forward.specs.Asked.{deadline}
use Rattle.dns_forward.specs.Askings.{HasHeard}
use Rattle.dns_forward.specs.declared.asking_event.AskingEvent.{AskingEvent}
use Rattle.dns_forward.specs.declared.asking_event.AskingOutcome.{AskingOutcome}
use Rattle.dns_lookup.specs.declared.lookup.Lookup.{Lookup}
use Rattle.dns_lookup.specs.declared.lookup.Stage.{Stage}
use Rattle.dns_lookup.specs.declared.lookup.Stage.TheVariants.{Datagrams, Connection, Ended}
use Rattle.dns_lookup.specs.declared.lookup_event.LookupEvent.{LookupEvent}
use Rattle.dns_lookup.specs.declared.lookup_event.LookupOutcome.{LookupOutcome}
use Rattle.dns_lookup.specs.declared.lookup_event.LookupOutcome.TheVariants.{Nothing, Answer}
use Rattle.dns_lookup.specs.Lookups.{InDatagrams, Led, OverConnection, Over, Progress, Subject, by_connection, by_datagram, by_datagrams, by_frame, lookup_step, moment}

-- the stage of a lookup that came so far
abbrev pub IsStage : Subject → Progress → Stage → Type 0
IsStage s (InDatagrams es) (Datagrams asking) = HasHeard (by_datagrams s) es asking
IsStage s (InDatagrams es) (Connection asking truncated) = ⊥
IsStage s (InDatagrams es) Ended = ⊥
IsStage s (OverConnection m at es) (Datagrams asking) = ⊥
IsStage s (OverConnection m at es) (Connection asking truncated) = HasHeard (by_connection s at) es asking × (truncated ≡ m)
IsStage s (OverConnection m at es) Ended = ⊥
IsStage s Over (Datagrams asking) = ⊥
IsStage s Over (Connection asking truncated) = ⊥
IsStage s Over Ended = Unit {0}

-- a lookup of this subject came so far
pub record IsAt (s : Subject) (p : Progress) (l : Lookup) : Type 0 where
  pub upstream : l.upstream ≡ s.upstream
  pub message : l.message ≡ s.message
  pub id : l.id ≡ s.id
  pub stage : IsStage s p l.stage

-- it came so far, and that leads to this
abbrev pub LeadsTo : Subject → Led → Lookup → LookupOutcome → Type 0
LeadsTo s led new o = IsAt s led.0 new × (o ≡ led.1)

-- an event does to it what it does to lookups, wherever it was
abbrev pub Steps : Lookup → LookupEvent → Lookup → LookupOutcome → Type 0
Steps old e new o = (s : Subject) (p : Progress) → IsAt s p old → LeadsTo s (lookup_step s p e) new o

-- wherever the events brought it that are waited for, in datagrams and over a connection, it is led to this
abbrev pub DatagramsLead : Lookup → Lookup → (Subject → List AskingEvent → Led) → LookupOutcome → Type 0
DatagramsLead old new led o = (s : Subject) (es : List AskingEvent) → IsAt s (InDatagrams es) old → LeadsTo s (led s es) new o

abbrev pub ConnectionLeads : Lookup → Lookup → (List ℕ → ℕ → List AskingEvent → Led) → LookupOutcome → Type 0
ConnectionLeads old new led o = (s : Subject) (m : List ℕ) (at : ℕ) (es : List AskingEvent) → IsAt s (OverConnection m at es) old
    → LeadsTo s (led m at es) new o

-- an event in datagrams, of which the asking heard this: it leads to what that leads to, or nothing is changed
abbrev pub DatagramLeads : Lookup → LookupEvent → Option AskingOutcome → Lookup → LookupOutcome → Type 0
DatagramLeads old e None new o = (new ≡ old) × (o ≡ Nothing)
DatagramLeads old e (Some x) new o = DatagramsLead old new (λ s es. by_datagram s (moment e) es x) o

-- an event over a connection, of which the asking heard this, unless the connection is lost
abbrev pub FrameLeads : Lookup → Bool → Option AskingOutcome → Lookup → LookupOutcome → Type 0
FrameLeads old true heard new o = ConnectionLeads old new (λ m at es. (Over, Answer (Ok m))) o
FrameLeads old false None new o = (new ≡ old) × (o ≡ Nothing)
FrameLeads old false (Some x) new o = ConnectionLeads old new (λ m at es. by_frame m at es x) o

-- the first moment at which a Tick is due
abbrev pub due_at : Subject → Progress → Option ℕ
due_at s (InDatagrams es) = deadline (by_datagrams s) es
due_at s (OverConnection m at es) = deadline (by_connection s at) es
due_at s Over = None

-- When a client's core stands for a slate. The answers are those of the wrapped service.
use Rattle.std.specs.Prelude.{◌≡◌, ℕ, zero, suc, ◌+◌, ◌≤◌, List, [], length, filter, slice_get, not, is_some, Bool, true, false, Option, Some, None}
use Rattle.std.specs.Arc.{arc_value}
use Rattle.dns_framing.specs.Answer.{Answer}
use Rattle.dns_events.specs.declared.event.Output.{Output}
use Rattle.dns_session.specs.Frames.{frames, past}
use Rattle.dns_session.specs.Serving.{Serving}
use Rattle.dns_session.specs.Slate.{Slate, SlateRequest, Effect, Exchange, Open, Flushing, Closed}
use Rattle.dns_session.specs.Connections.{in_transaction, spending}
use Rattle.dns_session.specs.Turns.{limit_for}
use Rattle.dns_session.specs.Unfinished.{IsInOrder, request_at}
use Rattle.dns_session.specs.declared.kept.KeptRequest.{KeptRequest}
use Rattle.dns_session.specs.declared.client.ClientCore.{ClientCore}
use Rattle.dns_session.specs.declared.client.State.{State}
use Rattle.dns_session.specs.declared.client.State.TheVariants.{Exchange as Is_exchange, Open as Is_open, Flushing as Is_flushing, Closed as Is_closed, Lost as Is_lost}
use Rattle.dns_session.specs.declared.connection.OpenConnection.{OpenConnection}
use Rattle.dns_session.specs.declared.connection_request.ConnectionRequest.{ConnectionRequest}
use Rattle.dns_session.specs.declared.flushing.FlushingConnection.{FlushingConnection}
use Rattle.dns_session.specs.declared.unfinished.Unfinished.{Unfinished}
use Rattle.dns_framing.specs.Polls.{PolledRequest}

-- nothing is kept of a request that is done, and of another one it is what a relation says
abbrev pub KeepsBy : {Q : Type 0} → (Q → SlateRequest → Type 0) → Option Q → Option SlateRequest → Type 0
KeepsBy P None None = Unit {0}
KeepsBy P None (Some r) = r.done ≡ true
KeepsBy P (Some q) None = ⊥
KeepsBy P (Some q) (Some r) = P q r

-- what is kept of an exchange's request that isn't done: a polled state that answers from the polls made on, its message, and how
-- many octets a reply may take
pub record IsKeptOfRequest {F R : Type 0} (answer : PolledRequest F R → ℕ → Answer) (answers : Serving) (q : KeptRequest F R)
    (r : SlateRequest) : Type 0 where
  pub going : r.done ≡ false
  pub polled : (k : ℕ) → answer q.polled k ≡ answers.answer r.request (r.polls + k)
  pub message : arc_value q.message ≡ r.request.octets
  pub limit : q.limit ≡ limit_for answers r.request

abbrev pub Keeps : {F R : Type 0} → (PolledRequest F R → ℕ → Answer) → Serving → Option (KeptRequest F R) → Option SlateRequest → Type 0
Keeps answer answers kept r = KeepsBy (IsKeptOfRequest answer answers) kept r

-- what is kept of a connection's request that isn't done: the same without a limit, its reply that waits for room, and whether it is
-- in a transaction
pub record IsGoing {F R : Type 0} (answer : PolledRequest F R → ℕ → Answer) (answers : Serving) (q : ConnectionRequest F R)
    (r : SlateRequest) : Type 0 where
  pub going : r.done ≡ false
  pub polled : (k : ℕ) → answer q.polled k ≡ answers.answer r.request (r.polls + k)
  pub message : arc_value q.message ≡ r.request.octets
  pub held : q.held ≡ r.held
  pub status : q.status ≡ r.status

abbrev pub KeepsGoing : {F R : Type 0} → (PolledRequest F R → ℕ → Answer) → Serving → Option (ConnectionRequest F R)
    → Option SlateRequest → Type 0
KeepsGoing answer answers kept r = KeepsBy (IsGoing answer answers) kept r

-- what is kept of an exchange's requests, of which there is one at most
abbrev pub sole : {Q : Type 0} → Option Q → ℕ → Option Q
sole kept zero = kept
sole kept (suc k) = None

-- of an exchange's request, if it is kept, the number
abbrev pub sole_number : {Q : Type 0} → Option Q → Option ℕ
sole_number None = None
sole_number (Some q) = Some 0

abbrev pub state_is_open : {W R F : Type 0} → State W R F → Bool
state_is_open (Is_open c) = true
state_is_open _ = false

abbrev pub state_is_spent : {W R F : Type 0} → State W R F → Bool
state_is_spent (Is_exchange kept) = not (is_some kept)
state_is_spent (Is_closed freed) = freed
state_is_spent Is_lost = true
state_is_spent _ = false

abbrev pub is_freed : {W R F : Type 0} → State W R F → Bool
is_freed (Is_closed freed) = freed
is_freed _ = false

abbrev pub is_closed : {W R F : Type 0} → State W R F → Bool
is_closed (Is_closed freed) = true
is_closed Is_lost = true
is_closed _ = false

-- a call of the core found no memory: nothing is kept any more, and the core stands for no slate
abbrev pub IsLost : {W R F : Type 0} → ClientCore W R F → Type 0
IsLost core = core.state ≡ Is_lost

-- the frames that wait to be written
abbrev pub waiting : {W R F : Type 0} → State W R F → List (List ℕ)
waiting (Is_open c) = c.invoker.queue.items
waiting (Is_flushing c) = c.queue.items
waiting _ = []

-- how long the first of them may take to be written, in ms
abbrev pub write_limit : {W R F : Type 0} → State W R F → ℕ
write_limit (Is_open c) = c.write_timeout
write_limit (Is_flushing c) = c.write_timeout
write_limit _ = 0

-- of a closed connection nothing is kept but its number, and whether it was released
pub record IsClosed (number : ℕ) (freed_now : Bool) (s : Slate) : Type 0 where
  pub client : number ≡ s.client
  pub freed : s.freed ≡ freed_now
  pub phase : s.phase ≡ Closed
  pub requests : s.requests ≡ []
  pub queue : s.queue ≡ []

-- of one that only writes what waits, the queue, how long a write may take, and why it is closed then
pub record IsFlushing (number : ℕ) (c : FlushingConnection) (s : Slate) : Type 0 where
  pub client : number ≡ s.client
  pub freed : s.freed ≡ false
  pub phase : s.phase ≡ Flushing c.why
  pub write_timeout : c.write_timeout ≡ s.connection.response_write_timeout
  pub requests : s.requests ≡ []
  pub queue : c.queue.items ≡ s.queue

module _ {R F : Type 0} (answer : PolledRequest F R → ℕ → Answer) (answers : Serving) where
  -- what is kept of a connection's requests, how many were made, and how many are in a transaction
  pub record KeepsAll (transactions : ℕ) (unfinished : Unfinished (ConnectionRequest F R)) (rs : List SlateRequest) : Type 0 where
    pub made : unfinished.count ≡ length rs
    pub held_open : transactions ≡ length (filter in_transaction rs)
    pub in_order : IsInOrder unfinished
    pub each : (k : ℕ) → KeepsGoing answer answers (request_at unfinished k) (slice_get rs k)

  pub record IsExchange (number : ℕ) (unfinished : Option (KeptRequest F R)) (s : Slate) : Type 0 where
    pub client : number ≡ s.client
    pub freed : s.freed ≡ false
    pub phase : s.phase ≡ Exchange
    pub requests : (k : ℕ) → Keeps answer answers (sole unfinished k) (slice_get s.requests k)
    pub queue : s.queue ≡ []

  module _ {W : Type 0} where
    -- what is kept of an open connection; no Shutdown came yet
    pub record IsOpen (number : ℕ) (c : OpenConnection W R F) (s : Slate) : Type 0 where
      pub client : number ≡ s.client
      pub freed : s.freed ≡ false
      pub phase : s.phase ≡ Open
      pub not_over : s.conf.over ≡ false
      pub addr : c.addr ≡ s.addr
      pub idle_timeout : c.invoker.idle_timeout ≡ s.connection.idle_timeout
      pub write_timeout : c.write_timeout ≡ s.connection.response_write_timeout
      pub timer : c.timer ≡ s.reset_at
      pub kept : c.framer ≡ past s.taken s.received
      pub within : s.taken ≤ length (frames s.received)
      pub requests : KeepsAll c.transactions c.unfinished s.requests
      pub queue : c.invoker.queue.items ≡ s.queue
      pub bound : c.invoker.queue.capacity ≡ s.bound
      pub budget : c.invoker.budget ≡ spending s

    abbrev pub StandsIn : ℕ → State W R F → Slate → Type 0
    StandsIn number (Is_exchange unfinished) s = IsExchange number unfinished s
    StandsIn number (Is_open c) s = IsOpen number c s
    StandsIn number (Is_flushing c) s = IsFlushing number c s
    StandsIn number (Is_closed freed) s = IsClosed number freed s
    StandsIn number Is_lost s = ⊥

    abbrev pub Stands : ClientCore W R F → Slate → Type 0
    Stands core s = StandsIn core.client core.state s

    -- at every slate that the core stands for, the outputs are those that are told, and it stands for the slate after
    abbrev pub GoesAs : ClientCore W R F → ClientCore W R F → List Output → (Slate → Effect) → Type 0
    GoesAs old new outs after = (s : Slate) → Stands old s → (outs ≡ (after s).1) × Stands new (after s).0

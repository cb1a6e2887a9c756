-- What one turn of a connection's request does to what is kept of it, and to the connection's invoker.
use Rattle.std.specs.Prelude.{◌≡◌, ℕ, suc, List, Bool, true, false, not, ◌&&◌, if◌then◌else◌, Option, Some, None}
use Rattle.std.specs.Arc.{arc_value}
use Rattle.dns_framing.specs.Answer.{Answer}
use Rattle.dns_framing.specs.Invokers.{after_answer}
use Rattle.dns_framing.specs.Polls.{PolledRequest}
use Rattle.dns_session.specs.Connections.{is_in_transaction}
use Rattle.dns_session.specs.Invoker.{begun_with, connection_invoking, finds_room, offered}
use Rattle.dns_session.specs.Turns.{ends}
use Rattle.dns_session.specs.declared.connection_request.ConnectionRequest.{ConnectionRequest}
use Rattle.dns_framing.specs.declared.invoker.ConnectionInvoker.{ConnectionInvoker}

module _ {F R : Type 0} (answer : PolledRequest F R → ℕ → Answer) where
  -- the invoker after the first answer of a request
  abbrev pub invoker_after : ConnectionRequest F R → ConnectionInvoker → ConnectionInvoker
  invoker_after q i = after_answer connection_invoking (arc_value q.message) (answer q.polled 0) (begun_with q.status i)

  -- the request is past its first answer, and what that told and left is its own and the connection's
  pub record IsPolledBy (q : ConnectionRequest F R) (i : ConnectionInvoker) (done : Bool) (q' : ConnectionRequest F R)
      (i' : ConnectionInvoker) : Type 0 where
    pub polled : (k : ℕ) → answer q'.polled k ≡ answer q.polled (suc k)
    pub message : q'.message ≡ q.message
    pub status : q'.status ≡ (invoker_after q i).status
    pub held : q'.held ≡ (invoker_after q i).held
    pub queue : i'.queue ≡ (invoker_after q i).queue
    pub idle_timeout : i'.idle_timeout ≡ (invoker_after q i).idle_timeout
    pub budget : i'.budget ≡ (invoker_after q i).budget
    pub ended : done ≡ ends (answer q.polled 0)

  -- a frame that was held is queued, if there is room, and nothing is polled
  pub record IsHeldOn (m : List ℕ) (q : ConnectionRequest F R) (i : ConnectionInvoker) (done : Bool) (q' : ConnectionRequest F R)
      (i' : ConnectionInvoker) : Type 0 where
    pub request : q' ≡ (if finds_room i then record q { held = None } else q)
    pub invoker : i' ≡ offered i m
    pub ended : done ≡ false

  abbrev pub TurnsBy : Option (List ℕ) → ConnectionRequest F R → ConnectionInvoker → Bool → ConnectionRequest F R
      → ConnectionInvoker → Type 0
  TurnsBy None q i done q' i' = IsPolledBy q i done q' i'
  TurnsBy (Some m) q i done q' i' = IsHeldOn m q i done q' i'

  -- a request that is done is let go
  abbrev pub StaysOn : ConnectionRequest F R → Option (ConnectionRequest F R) → Type 0
  StaysOn q None = ⊥
  StaysOn q (Some q') = q' ≡ q

  abbrev pub LetGo : Bool → ConnectionRequest F R → Option (ConnectionRequest F R) → Type 0
  LetGo true q new = new ≡ None
  LetGo false q new = StaysOn q new

  -- the request turns, and is in a transaction before and after that, or not
  pub record TurnsTo (q : ConnectionRequest F R) (i : ConnectionInvoker) (was now : Bool) (new : Option (ConnectionRequest F R))
      (i' : ConnectionInvoker) : Type 0 where
    pub after : ConnectionRequest F R
    pub done : Bool
    pub turns : TurnsBy q.held q i done after i'
    pub left : LetGo done after new
    pub before : was ≡ is_in_transaction q.status
    pub behind : now ≡ (not done && is_in_transaction after.status)

  abbrev pub TurnedAt : Option (ConnectionRequest F R) → ConnectionInvoker → Bool → Bool → Option (ConnectionRequest F R)
      → ConnectionInvoker → Type 0
  TurnedAt None i was now new i' = (was ≡ false) × (now ≡ false) × (new ≡ None) × (i' ≡ i)
  TurnedAt (Some q) i was now new i' = TurnsTo q i was now new i'

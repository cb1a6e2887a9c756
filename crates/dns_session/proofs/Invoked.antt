-- What an answer does to a connection's invoker.
use Rattle.std.proofs.Common.{◌≡◌, ℕ, List, [], ◌∷◌, ◌++◌, Option, Some, None, Bool, true, false, refl, ap, ◌∙◌}
use Rattle.std.specs.Prelude.{if◌then◌else◌, Ok, Err}
use Rattle.dns_base.specs.Msg.{Msg}
use Rattle.dns_base.specs.Wire.{wire}
use Rattle.dns_framing.specs.Answer.{Answer}
use Rattle.dns_framing.specs.Invokers.{after_answer, after_reply, after_some_feedback}
use Rattle.dns_framing.specs.Enqueued.{Enqueued}
use Rattle.dns_framing.specs.Enqueued.TheVariants.{Queued, Held, Dropped}
use Rattle.dns_framing.specs.InvokerStatus.{InvokerStatus}
use Rattle.dns_framing.specs.InvokerStatus.TheVariants.{Aborting}
use Rattle.dns_framing.specs.Polled.TheVariants.{Pending, Ready}
use Rattle.dns_framing.specs.ServiceFeedback.{ServiceFeedback}
use Rattle.dns_framing.specs.ServiceFeedback.TheVariants.{Reconfigure, BeginTransaction, EndTransaction}
use Rattle.dns_session.specs.Budget.{Spending, spend}
use Rattle.dns_session.specs.Connections.{is_in_transaction}
use Rattle.dns_session.specs.Frames.{framed}
use Rattle.dns_session.specs.Heard.{answer_status, answer_timeout, status_after_some, timeout_after_some}
use Rattle.dns_session.specs.Invoker.{connection_invoking, finds_room, queued_behind}
use Rattle.dns_session.specs.Turns.{reply_to}
use Rattle.dns_framing.specs.declared.invoker.ConnectionInvoker.{ConnectionInvoker}

-- the frames that wait after a reply, if there is room or not
abbrev pub frames_behind : Option Msg → Bool → List (List ℕ) → List (List ℕ)
frames_behind None room frames = frames
frames_behind (Some m) true frames = frames ++ framed (wire m) ∷ []
frames_behind (Some m) false frames = frames

-- what is held after it, in a transaction or not
abbrev pub held_behind : Option Msg → Bool → Bool → Option (List ℕ) → Option (List ℕ)
held_behind None room inside held = held
held_behind (Some m) true inside held = held
held_behind (Some m) false true held = Some (framed (wire m))
held_behind (Some m) false false held = held

-- what is spent after it, at a moment
abbrev pub spent_behind : Option Msg → Bool → ℕ → Spending → Spending
spent_behind None room at b = b
spent_behind (Some m) true at b = spend at b
spent_behind (Some m) false at b = b

pub record Invoked (status : InvokerStatus) (timeout : ℕ) (reply : Option Msg) (room : Bool) (i t : ConnectionInvoker) : Type 0 where
  pub far : t.status ≡ status
  pub idle : t.idle_timeout ≡ timeout
  pub items : t.queue.items ≡ frames_behind reply room i.queue.items
  pub capacity : t.queue.capacity ≡ i.queue.capacity
  pub held : t.held ≡ held_behind reply room (is_in_transaction status) i.held
  pub budget : t.budget ≡ spent_behind reply room i.at i.budget

-- the invoker after a reply, by whether there is room, and whether its request is in a transaction
abbrev placed : Bool → Bool → List ℕ → ConnectionInvoker → ConnectionInvoker × Enqueued
placed room inside m i =
    if room then (queued_behind i m, Queued)
    else (if inside then (record i { held = Some m }, Held) else (i, Dropped))

record Placed (m : Msg) (room inside : Bool) (i t : ConnectionInvoker) : Type 0 where
  far : t.status ≡ i.status
  idle : t.idle_timeout ≡ i.idle_timeout
  items : t.queue.items ≡ frames_behind (Some m) room i.queue.items
  capacity : t.queue.capacity ≡ i.queue.capacity
  held : t.held ≡ held_behind (Some m) room inside i.held
  budget : t.budget ≡ spent_behind (Some m) room i.at i.budget

by_room : (m : Msg) (room inside : Bool) (i : ConnectionInvoker) → Placed m room inside i (placed room inside (framed (wire m)) i).0
by_room m true inside i = record { far = refl; idle = refl; items = refl; capacity = refl; held = refl; budget = refl }
by_room m false true i = record { far = refl; idle = refl; items = refl; capacity = refl; held = refl; budget = refl }
by_room m false false i = record { far = refl; idle = refl; items = refl; capacity = refl; held = refl; budget = refl }

replied : (x : Option Msg) (i : ConnectionInvoker) → Invoked i.status i.idle_timeout x (finds_room i) i (after_reply connection_invoking x i)
replied None i = record { far = refl; idle = refl; items = refl; capacity = refl; held = refl; budget = refl }
replied (Some m) i =
    let p = by_room m (finds_room i) (is_in_transaction i.status) i in
    record { far = p.far; idle = p.idle; items = p.items; capacity = p.capacity; held = p.held; budget = p.budget }

-- a feedback leaves the queue, what is held, the moment and what is spent
record Heard (f : Option ServiceFeedback) (i t : ConnectionInvoker) : Type 0 where
  far : t.status ≡ status_after_some f i.status
  idle : t.idle_timeout ≡ timeout_after_some f i.idle_timeout
  items : t.queue.items ≡ i.queue.items
  capacity : t.queue.capacity ≡ i.queue.capacity
  held : t.held ≡ i.held
  at : t.at ≡ i.at
  budget : t.budget ≡ i.budget
  room : finds_room t ≡ finds_room i

feedback_heard : (f : Option ServiceFeedback) (i : ConnectionInvoker) → Heard f i (after_some_feedback connection_invoking f i)
feedback_heard None i = record { far = refl; idle = refl; items = refl; capacity = refl; held = refl; at = refl; budget = refl; room = refl }
feedback_heard (Some (Reconfigure timeout)) i = record { far = refl; idle = refl; items = refl; capacity = refl; held = refl; at = refl; budget = refl; room = refl }
feedback_heard (Some BeginTransaction) i = record { far = refl; idle = refl; items = refl; capacity = refl; held = refl; at = refl; budget = refl; room = refl }
feedback_heard (Some EndTransaction) i = record { far = refl; idle = refl; items = refl; capacity = refl; held = refl; at = refl; budget = refl; room = refl }

-- a reply after a feedback
replied_to : (f : Option ServiceFeedback) (x : Option Msg) (i t u : ConnectionInvoker) → Heard f i t → Invoked t.status t.idle_timeout x (finds_room t) t u
    → Invoked (status_after_some f i.status) (timeout_after_some f i.idle_timeout) x (finds_room i) i u
replied_to f x i t u h r = record {
  far = r.far ∙ h.far;
  idle = r.idle ∙ h.idle;
  items = r.items
      ∙ (ap (λ (room : Bool). frames_behind x room t.queue.items) h.room
      ∙ ap (λ (frames : List (List ℕ)). frames_behind x (finds_room i) frames) h.items);
  capacity = r.capacity ∙ h.capacity;
  held = r.held
      ∙ (ap (λ (room : Bool). held_behind x room (is_in_transaction t.status) t.held) h.room
      ∙ (ap (λ (status : InvokerStatus). held_behind x (finds_room i) (is_in_transaction status) t.held) h.far
      ∙ ap (λ (held : Option (List ℕ)). held_behind x (finds_room i) (is_in_transaction (status_after_some f i.status)) held) h.held));
  budget = r.budget
      ∙ (ap (λ (room : Bool). spent_behind x room t.at t.budget) h.room
      ∙ (ap (λ (n : ℕ). spent_behind x (finds_room i) n t.budget) h.at
      ∙ ap (λ (b : Spending). spent_behind x (finds_room i) i.at b) h.budget));
}

pub invoked : (o : List ℕ) (a : Answer) (i : ConnectionInvoker) → Invoked (answer_status a i.status) (answer_timeout a i.idle_timeout) (reply_to None o a) (finds_room i) i (after_answer connection_invoking o a i)
invoked o Pending i = record { far = refl; idle = refl; items = refl; capacity = refl; held = refl; budget = refl }
invoked o (Ready None) i = record { far = refl; idle = refl; items = refl; capacity = refl; held = refl; budget = refl }
invoked o (Ready (Some (Ok given))) i =
    let t = after_some_feedback connection_invoking given.feedback i in
    replied_to given.feedback given.response i t (after_reply connection_invoking given.response t) (feedback_heard given.feedback i) (replied given.response t)
invoked o (Ready (Some (Err error))) i =
    let t : ConnectionInvoker = record i { status = Aborting } in
    let r = replied (reply_to None o (Ready (Some (Err error)))) t in
    record { far = r.far; idle = r.idle; items = r.items; capacity = r.capacity; held = r.held; budget = r.budget }

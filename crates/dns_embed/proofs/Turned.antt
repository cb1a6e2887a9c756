-- What is given of a request is what the rules for one client say of a turn of it.
use Rattle.std.proofs.Common.{refl, ap, sym, subst, ◌≡◌, ◌∙◌, ℕ, List, Bool, true, false, Option, Some, None, Ok, Err, option_map}
use Rattle.std.specs.Prelude.{if◌then◌else◌}
use Rattle.circular_buffer.specs.Buffer.{Buffer, buffer}
use Rattle.dns_base.specs.Msg.{Msg}
use Rattle.dns_base.specs.Wire.{wire}
use Rattle.dns_service.specs.Answer.{Answer, Item}
use Rattle.dns_service.specs.Invokers.{reply_in}
use Rattle.dns_service.specs.declared.invoker.Enqueued.{Enqueued}
use Rattle.dns_service.specs.declared.invoker.Enqueued.TheVariants.{Queued, Held, Dropped}
use Rattle.dns_service.specs.declared.invoker.InvokerStatus.{InvokerStatus}
use Rattle.dns_service.specs.declared.service.Polled.TheVariants.{Ready}
use Rattle.dns_service.specs.declared.service.ServiceFeedback.{ServiceFeedback}
use Rattle.dns_service.specs.declared.service.ServiceFeedback.TheVariants.{Reconfigure, BeginTransaction, EndTransaction}
use Rattle.dns_framing.specs.Budget.{Spending}
use Rattle.dns_framing.specs.Frames.{framed}
use Rattle.dns_framing.specs.Invoker.{begun_with, finds_room, queued_behind}
use Rattle.dns_framing.specs.Transactions.{is_in_transaction}
use Rattle.dns_framing.specs.declared.invoker.ConnectionInvoker.{ConnectionInvoker}
use Rattle.dns_session.specs.Connections.{append_frame, room, spending}
use Rattle.dns_session.specs.Heard.{answer_status, answer_timeout, status_after_some, timeout_after_some}
use Rattle.dns_session.specs.Slate.{Slate, SlateRequest}
use Rattle.dns_session.specs.Turns.{answered, queue_reply, reply_to, retimed, turn_request, with_request}
use Rattle.dns_embed.specs.Transactions.{enqueued_as, hearing, invoker_hearing, queueing}
use Rattle.dns_embed.specs.declared.transactions.Heard.TheVariants.{Nothing}
use Rattle.dns_embed.specs.Turned.{GivesAsTurned, GivesHeldAsTurned, ShowsIn, frame_for, heard_in, heard_of, kept_frame, past_item, shown_by}

-- a connection as a slate shows it, at a moment, for a request that is so far
abbrev invoker_in : ℕ → InvokerStatus → Slate → ConnectionInvoker
invoker_in at status s = record { at = at; idle_timeout = s.connection.idle_timeout; budget = spending s; queue = buffer s.queue s.bound; status = status; held = None }

-- for so long it may be idle
abbrev timed : ℕ → Slate → Slate
timed timeout s = record s { connection = record s.connection { idle_timeout = timeout } }

-- a connection begins with what its slate shows
begins : (at : ℕ) (status : InvokerStatus) (i : ConnectionInvoker) (s : Slate) → i.queue ≡ buffer s.queue s.bound → i.budget ≡ spending s → i.idle_timeout ≡ s.connection.idle_timeout
    → begun_with status (record i { at = at }) ≡ invoker_in at status s
begins at status i s q b t =
    ap (λ (x : Buffer (List ℕ)). record (invoker_in at status s) { queue = x; budget = i.budget; idle_timeout = i.idle_timeout }) q
    ∙ (ap (λ (x : Spending). record (invoker_in at status s) { budget = x; idle_timeout = i.idle_timeout }) b
    ∙ ap (λ (x : ℕ). record (invoker_in at status s) { idle_timeout = x }) t)

-- what is heard tells how far the request is, and for how long the connection may be idle
heard-feedback : (at : ℕ) (status : InvokerStatus) (s : Slate) (f : Option ServiceFeedback)
    → hearing (heard_in f) (invoker_in at status s) ≡ invoker_in at (status_after_some f status) (timed (timeout_after_some f s.connection.idle_timeout) s)
heard-feedback at status s None = refl
heard-feedback at status s (Some (Reconfigure None)) = refl
heard-feedback at status s (Some (Reconfigure (Some timeout))) = refl
heard-feedback at status s (Some BeginTransaction) = refl
heard-feedback at status s (Some EndTransaction) = refl

heard-item : (at : ℕ) (status : InvokerStatus) (s : Slate) (item : Item)
    → hearing (heard_of item) (invoker_in at status s) ≡ invoker_in at (answer_status (Ready (Some item)) status) (timed (answer_timeout (Ready (Some item)) s.connection.idle_timeout) s)
heard-item at status s (Ok given) = heard-feedback at status s given.feedback
heard-item at status s (Err error) = refl

-- a reply to the octets, without a limit
replies : (o : List ℕ) (item : Item) → reply_to None o (Ready (Some item)) ≡ reply_in o item
replies o (Ok given) = refl
replies o (Err error) = refl

-- a frame is queued, held or dropped, on both sides
framed-either : (at k : ℕ) (m : List ℕ) (r : SlateRequest) (timeout : ℕ) (s : Slate) (space inside : Bool)
    → (if space then append_frame at m (with_request k r (timed timeout s)) else with_request k (if inside then record r { held = Some m } else r) (timed timeout s))
    ≡ shown_by k (record r { held = kept_frame (Some (if space then Queued else (if inside then Held else Dropped))) (Some m) r.held })
    (if space then queued_behind (invoker_in at r.status (timed timeout s)) m else invoker_in at r.status (timed timeout s)) s
framed-either at k m r timeout s true inside = refl
framed-either at k m r timeout s false true = refl
framed-either at k m r timeout s false false = refl

-- what becomes of the frame
enqueued-either : (i : ConnectionInvoker) (m : List ℕ) (space inside : Bool) → finds_room i ≡ space → is_in_transaction i.status ≡ inside
    → enqueued_as (Some m) i ≡ Some (if space then Queued else (if inside then Held else Dropped))
enqueued-either i m true inside e d = rw (e) refl
enqueued-either i m false true e d = rw (e, d) refl
enqueued-either i m false false e d = rw (e, d) refl

queued : (at k : ℕ) (x : Option Msg) (r : SlateRequest) (timeout : ℕ) (s : Slate)
    → let i = invoker_in at r.status (timed timeout s) in let frame = option_map (λ (m : Msg). framed (wire m)) x in
    queue_reply at k x r (timed timeout s) ≡ shown_by k (record r { held = kept_frame (enqueued_as frame i) frame r.held }) (queueing frame i) s
queued at k None r timeout s = refl
queued at k (Some m) r timeout s =
    let i = invoker_in at r.status (timed timeout s) in
    framed-either at k (framed (wire m)) r timeout s (finds_room i) (is_in_transaction r.status)
    ∙ ap (λ (f : Option Enqueued). shown_by k (record r { held = kept_frame f (Some (framed (wire m))) r.held }) (queueing (Some (framed (wire m))) i) s)
    (sym (enqueued-either i (framed (wire m)) (finds_room i) (is_in_transaction r.status) refl refl))

-- a frame that is queued leaves how far the request is, the bound and the budget
abbrev pub Keeps : ConnectionInvoker → ConnectionInvoker → Type 0
Keeps i j = (j.status ≡ i.status) × (j.queue.capacity ≡ i.queue.capacity) × (j.budget.allowed ≡ i.budget.allowed) × (j.budget.window ≡ i.budget.window)

pub keeps : (frame : Option (List ℕ)) (i : ConnectionInvoker) (space : Bool) → finds_room i ≡ space → Keeps i (queueing frame i)
keeps None i space e = (refl, refl, refl, refl)
keeps (Some m) i true e = rw (e) (refl, refl, refl, refl)
keeps (Some m) i false e = rw (e) (refl, refl, refl, refl)

-- a slate that shows an invoker's connection
shows-of : (k : ℕ) (r : SlateRequest) (s : Slate) (i : ConnectionInvoker) → i.queue.capacity ≡ s.bound → i.budget.allowed ≡ s.connection.response_budget
    → i.budget.window ≡ s.connection.budget_window → ShowsIn i (shown_by k r i s)
shows-of k r s i q a w = record {
  queue = ap (buffer i.queue.items) q;
  budget = ap (λ (x : Option ℕ). record i.budget { allowed = x }) a ∙ ap (λ (x : ℕ). record i.budget { allowed = s.connection.response_budget; window = x }) w;
  idle_timeout = refl;
}

-- of an invoker that a frame was given
shows-given : (at k : ℕ) (frame : Option (List ℕ)) (r : SlateRequest) (s : Slate) (status : InvokerStatus) (timeout : ℕ) (i : ConnectionInvoker)
    → i ≡ invoker_in at status (timed timeout s) → ShowsIn (queueing frame i) (shown_by k r (queueing frame i) s)
shows-given at k frame r s status timeout i e =
    let kept : Keeps i (queueing frame i) = keeps frame i (finds_room i) refl in
    shows-of k r s (queueing frame i)
    (kept.1 ∙ ap (λ (j : ConnectionInvoker). j.queue.capacity) e)
    (kept.2 ∙ ap (λ (j : ConnectionInvoker). j.budget.allowed) e)
    (kept.3 ∙ ap (λ (j : ConnectionInvoker). j.budget.window) e)

pub as-turned : GivesAsTurned
as-turned answers at k c s r item shows none gives =
    let o = r.request.octets in
    let a : Answer = Ready (Some item) in
    let frame = frame_for o item in
    let timeout = answer_timeout a s.connection.idle_timeout in
    let j = invoker_in at (answer_status a r.status) (timed timeout s) in
    let i = invoker_hearing at r.status (heard_of item) c in
    let e : i ≡ j = ap (hearing (heard_of item)) (begins at r.status c.invoker s shows.queue shows.budget shows.idle_timeout) ∙ heard-item at r.status s item in
    let turns : turn_request answers at k r.held r s ≡ queue_reply at k (reply_to None o a) (answered a r) (retimed a s) =
    ap (λ (h : Option (List ℕ)). turn_request answers at k h r s) none
    ∙ ap (λ (x : Answer). queue_reply at k (reply_to None o x) (answered x r) (retimed x s)) gives in
    let held = λ (x : ConnectionInvoker). kept_frame (enqueued_as frame x) frame r.held in
    let queues : queue_reply at k (reply_to None o a) (answered a r) (retimed a s) ≡ shown_by k (past_item item j.status (held j) r) (queueing frame j) s =
    ap (λ (x : Option Msg). queue_reply at k x (answered a r) (retimed a s)) (replies o item) ∙ queued at k (reply_in o item) (answered a r) timeout s in
    let so-far : shown_by k (past_item item j.status (held j) r) (queueing frame j) s ≡ shown_by k (past_item item (queueing frame j).status (held j) r) (queueing frame j) s =
    ap (λ (st : InvokerStatus). shown_by k (past_item item st (held j) r) (queueing frame j) s) (sym (keeps frame j (finds_room j) refl).0) in
    let whole : turn_request answers at k r.held r s ≡ shown_by k (past_item item (queueing frame i).status (held i) r) (queueing frame i) s =
    turns ∙ (queues ∙ (so-far ∙ ap (λ (x : ConnectionInvoker). shown_by k (past_item item (queueing frame x).status (held x) r) (queueing frame x) s) (sym e))) in
    (whole, subst (ShowsIn (queueing frame i)) (sym whole) (shows-given at k frame (past_item item (queueing frame i).status (held i) r) s (answer_status a r.status) timeout i e))

-- a frame that was held is queued, or stays
held-either : (at k : ℕ) (m : List ℕ) (r : SlateRequest) (s : Slate) (space : Bool)
    → (if space then append_frame at m (with_request k (record r { held = None }) s) else s)
    ≡ (if space then shown_by k (record r { held = None }) (if space then queued_behind (invoker_in at r.status s) m else invoker_in at r.status s) s else s)
held-either at k m r s true = refl
held-either at k m r s false = refl

no-room : (m : List ℕ) (i : ConnectionInvoker) → finds_room i ≡ false → queueing (Some m) i ≡ i
no-room m i e = rw (e) refl

held-shows : (at k : ℕ) (m : List ℕ) (r : SlateRequest) (s : Slate) (i : ConnectionInvoker) (space : Bool) → finds_room i ≡ space → ShowsIn i s
    → i ≡ invoker_in at r.status s → ShowsIn (queueing (Some m) i) (if space then shown_by k (record r { held = None }) (queueing (Some m) i) s else s)
held-shows at k m r s i true room shows e = shows-given at k (Some m) (record r { held = None }) s r.status s.connection.idle_timeout i e
held-shows at k m r s i false room shows e = subst (λ (x : ConnectionInvoker). ShowsIn x s) (sym (no-room m i room)) shows

pub held-as-turned : GivesHeldAsTurned
held-as-turned answers at k c s r m shows held =
    let i = invoker_hearing at r.status Nothing c in
    let j = invoker_in at r.status s in
    let e : i ≡ j = begins at r.status c.invoker s shows.queue shows.budget shows.idle_timeout in
    let here : ShowsIn i s = record { queue = shows.queue; budget = shows.budget; idle_timeout = shows.idle_timeout } in
    let whole : turn_request answers at k r.held r s ≡ (if finds_room i then shown_by k (record r { held = None }) (queueing (Some m) i) s else s) =
    ap (λ (h : Option (List ℕ)). turn_request answers at k h r s) held
    ∙ (held-either at k m r s (finds_room j)
    ∙ ap (λ (x : ConnectionInvoker). if finds_room x then shown_by k (record r { held = None }) (queueing (Some m) x) s else s) (sym e)) in
    (whole, subst (ShowsIn (queueing (Some m) i)) (sym whole) (held-shows at k m r s i (finds_room i) refl here e))

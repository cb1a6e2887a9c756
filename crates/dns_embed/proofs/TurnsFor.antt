-- The turn of a request follows the rules.
use Rattle.std.proofs.Common.{◌≡◌, ⊎_elim, ℕ, List, [], Bool, true, false, MatchBool, Option, Some, None, Ok, Err, refl, ap, sym, ◌∙◌, subst}
use Rattle.std.specs.Prelude.{slice_get, if◌then◌else◌, not, ◌&&◌}
use Rattle.dns_service.specs.Answer.{Answer, Item}
use Rattle.dns_service.specs.declared.invoker.InvokerStatus.{InvokerStatus}
use Rattle.dns_service.specs.declared.invoker.InvokerStatus.TheVariants.{Normal}
use Rattle.dns_service.specs.declared.service.Polled.TheVariants.{Pending, Ready}
use Rattle.dns_service.specs.declared.service.ServiceFeedback.TheVariants.{EndTransaction}
use Rattle.dns_framing.specs.Invoker.{begun_with, finds_room, offered}
use Rattle.dns_framing.specs.Transactions.{is_in_transaction}
use Rattle.dns_framing.specs.declared.invoker.ConnectionInvoker.{ConnectionInvoker}
use Rattle.dns_session.specs.Connections.{in_transaction}
use Rattle.dns_session.specs.Serving.{Serving}
use Rattle.dns_session.specs.Slate.{Slate, SlateRequest}
use Rattle.dns_session.specs.Turns.{answered, ends, queue_reply, reply_to, retimed, turn, turn_request, with_request}
use Rattle.dns_embed.specs.declared.connection.Connection.{Connection}
use Rattle.dns_embed.specs.declared.transactions.Heard.{Heard}
use Rattle.dns_embed.specs.declared.transactions.Heard.TheVariants.{Nothing, Feedback}
use Rattle.dns_embed.specs.Caller.{Caller, Sending, IsAnswered, IsGiven, IsTurned, Turns, ending, given_again, held_on, past_given, turned}
use Rattle.dns_embed.specs.Connections.{offering, unless_closing}
use Rattle.dns_embed.specs.Transactions.{counted, dropped_as, enqueued_as, giving, invoker_given, invoker_hearing}
use Rattle.dns_embed.specs.Turned.{ShowsIn, frame_for, heard_of, kept_frame, past_item, shown_by}
use Rattle.dns_embed.proofs.StandsFor.{IsOpenFor, SameBeside, counted-same, goes, moves, set_same}
use Rattle.dns_embed.proofs.Turned.{as-turned, held-as-turned, keeps}

-- nothing is sent by a turn, and the connection stands for the slate after it
abbrev pub TurnsTo : Sending → Slate → Type 0
TurnsTo x t = (x.1 ≡ []) × IsOpenFor x.0 t

-- a request that isn't done is in a transaction as far as it is
going : (b : Bool) (status : InvokerStatus) → b ≡ false → is_in_transaction status ≡ (not b && is_in_transaction status)
going b status e = ap (λ (x : Bool). not x && is_in_transaction status) (sym e)

same_beside : (at : ℕ) (status : InvokerStatus) (heard : Heard) (frame : Option (List ℕ)) (c : Connection) → SameBeside c (giving at status heard frame c)
same_beside at status heard frame c = record { timer = refl; write_timeout = refl; is_closing = refl }

-- ---- answers without an item

module _ (answers : Serving) (at n : ℕ) (r : SlateRequest) (k : Caller) (s : Slate) where
  -- the turn of a request that holds nothing, by its answer
  by_answer : (a : Answer) → answers.answer r.request r.polls ≡ a → r.held ≡ None
      → turn_request answers at n r.held r s ≡ queue_reply at n (reply_to None r.request.octets a) (answered a r) (retimed a s)
  by_answer a e none =
      ap (λ (h : Option (List ℕ)). turn_request answers at n h r s) none
      ∙ ap (λ (x : Answer). queue_reply at n (reply_to None r.request.octets x) (answered x r) (retimed x s)) e

  pending : IsOpenFor k s → slice_get s.requests n ≡ Some r → r.done ≡ false
      → IsOpenFor (turned n (answered Pending r) k.connection k).0 (with_request n (answered Pending r) s)
  pending h is going_on =
      moves n s.connection.idle_timeout s.queue s.mark s.spent k s r (answered Pending r) k.connection (is_in_transaction r.status) (is_in_transaction r.status) h is
      (going r.done r.status going_on) refl (sym (counted-same (is_in_transaction r.status) k.connection.transactions))
      (record { timer = refl; write_timeout = refl; is_closing = refl })
      (record { queue = h.shows.queue; budget = h.shows.budget; idle_timeout = h.shows.idle_timeout })

  ended : (inside : Bool) → is_in_transaction r.status ≡ inside → IsOpenFor k s → slice_get s.requests n ≡ Some r → r.done ≡ false
      → IsOpenFor (turned n (answered (Ready None) r) (if inside then unless_closing k.connection (giving at r.status (Feedback EndTransaction) None k.connection) else k.connection) k).0
      (with_request n (answered (Ready None) r) s)
  ended true e h is going_on =
      let d = giving at r.status (Feedback EndTransaction) None k.connection in
      subst (λ (c : Connection). IsOpenFor (turned n (answered (Ready None) r) c k).0 (with_request n (answered (Ready None) r) s)) (sym (goes k.connection d h.is_open))
      (moves n s.connection.idle_timeout s.queue s.mark s.spent k s r (answered (Ready None) r) d (is_in_transaction r.status) false h is
      (going r.done r.status going_on) refl refl (same_beside at r.status (Feedback EndTransaction) None k.connection)
      (record { queue = h.shows.queue; budget = h.shows.budget; idle_timeout = h.shows.idle_timeout }))
  ended false e h is going_on =
      moves n s.connection.idle_timeout s.queue s.mark s.spent k s r (answered (Ready None) r) k.connection false false h is
      (sym e ∙ going r.done r.status going_on) refl refl
      (record { timer = refl; write_timeout = refl; is_closing = refl })
      (record { queue = h.shows.queue; budget = h.shows.budget; idle_timeout = h.shows.idle_timeout })

-- ---- an item

-- how far a request is past an item
now_is : (at : ℕ) (item : Item) (r : SlateRequest) (frame : Option (List ℕ)) (c : Connection)
    → is_in_transaction (giving at r.status (heard_of item) frame c).invoker.status
    ≡ (not (ends (Ready (Some item))) && is_in_transaction (giving at r.status (heard_of item) frame c).invoker.status)
now_is at (Ok given) r frame c = refl
now_is at (Err error) r frame c =
    let i = invoker_hearing at r.status (heard_of (Err error)) c in
    ap is_in_transaction (keeps frame i (finds_room i) refl).0

-- what a caller knows of a request past an item, of a connection that isn't to be closed
past_open : (at : ℕ) (r : SlateRequest) (item : Item) (c : Connection) (held : Option (List ℕ)) → c.is_closing ≡ false → held ≡ None
    → let frame = frame_for r.request.octets item in
    past_given at r item c ≡ past_item item (invoker_given at r.status (heard_of item) frame c).status (kept_frame (enqueued_as frame (invoker_hearing at r.status (heard_of item) c)) frame held) r
past_open at r item c held e none =
    let frame = frame_for r.request.octets item in
    let status = (invoker_given at r.status (heard_of item) frame c).status in
    let enqueued = enqueued_as frame (invoker_hearing at r.status (heard_of item) c) in
    ap (λ (b : Bool). past_item item (if b then r.status else status) (kept_frame (if b then dropped_as frame else enqueued) frame None) r) e
    ∙ ap (λ (h : Option (List ℕ)). past_item item status (kept_frame enqueued frame h) r) (sym none)

-- a reply that is offered leaves what the same reply leaves that is given outside of a transaction
record SameShown (i j : ConnectionInvoker) : Type 0 where
  queue : i.queue ≡ j.queue
  budget : i.budget ≡ j.budget
  idle_timeout : i.idle_timeout ≡ j.idle_timeout
  outside : is_in_transaction j.status ≡ false

offered_same : (i : ConnectionInvoker) (m : List ℕ) (space : Bool) → finds_room i ≡ space → SameShown (offered i m) (offered (begun_with Normal i) m)
offered_same i m true e = rw (e) (record { queue = refl; budget = refl; idle_timeout = refl; outside = refl })
offered_same i m false e = rw (e) (record { queue = refl; budget = refl; idle_timeout = refl; outside = refl })

shown_offered : (at : ℕ) (item : Item) (r : SlateRequest) (m : List ℕ) (c : Connection) → frame_for r.request.octets item ≡ Some m → heard_of item ≡ Nothing → r.status ≡ Normal
    → SameShown (offering at c m).invoker (giving at r.status (heard_of item) (frame_for r.request.octets item) c).invoker
shown_offered at item r m c f nothing normal =
    let i = record c.invoker { at = at } in
    let P : Option (List ℕ) → Heard → InvokerStatus → Type 0 = λ (g : Option (List ℕ)) (heard : Heard) (status : InvokerStatus). SameShown (offered i m) (giving at status heard g c).invoker in
    subst (λ (g : Option (List ℕ)). P g (heard_of item) r.status) (sym f)
    (subst (λ (heard : Heard). P (Some m) heard r.status) (sym nothing)
    (subst (λ (status : InvokerStatus). P (Some m) Nothing status) (sym normal) (offered_same i m (finds_room i) refl)))

shows_as : (i j : ConnectionInvoker) (t : Slate) → SameShown i j → ShowsIn j t → ShowsIn i t
shows_as i j t e h = record { queue = e.queue ∙ h.queue; budget = e.budget ∙ h.budget; idle_timeout = e.idle_timeout ∙ h.idle_timeout }

module _ (answers : Serving) (at n : ℕ) (r : SlateRequest) (k : Caller) (s : Slate) where
  item_turned : (item : Item) (d : Connection) → answers.answer r.request r.polls ≡ Ready (Some item) → r.held ≡ None
      → IsGiven at r item k.connection d → IsOpenFor k s → slice_get s.requests n ≡ Some r → r.done ≡ false
      → IsOpenFor (turned n (past_given at r item k.connection) d k).0 (turn_request answers at n r.held r s)
  item_turned item d e none given h is going_on =
      let c = k.connection in
      let frame = frame_for r.request.octets item in
      let g = giving at r.status (heard_of item) frame c in
      let r' : SlateRequest = past_item item g.invoker.status (kept_frame (enqueued_as frame (invoker_hearing at r.status (heard_of item) c)) frame r.held) r in
      let t = as-turned answers at n c s r item h.shows none e in
      let shows : ShowsIn g.invoker (shown_by n r' g.invoker s) = subst (ShowsIn g.invoker) t.0 t.1 in
      let now : is_in_transaction g.invoker.status ≡ in_transaction r' = now_is at item r frame c in
      let was = going r.done r.status going_on in
      let by : (x : Connection) → SameBeside c x → x.transactions ≡ g.transactions → ShowsIn x.invoker (shown_by n r' g.invoker s)
      → IsOpenFor (turned n (past_given at r item c) x k).0 (turn_request answers at n r.held r s) =
      λ x same count shown.
      subst (λ (q : SlateRequest). IsOpenFor (turned n q x k).0 (turn_request answers at n r.held r s)) (sym (past_open at r item c r.held h.is_open none))
      (subst (λ (u : Slate). IsOpenFor (turned n r' x k).0 u) (sym t.0)
      (moves n g.invoker.idle_timeout g.invoker.queue.items g.invoker.budget.mark g.invoker.budget.spent k s r r' x
      (is_in_transaction r.status) (is_in_transaction g.invoker.status) h is was now count same shown)) in
      ⊎_elim
      (λ (same : d ≡ unless_closing c g).
      subst (λ (x : Connection). IsOpenFor (turned n (past_given at r item c) x k).0 (turn_request answers at n r.held r s)) (sym (same ∙ goes c g h.is_open))
      (by g (same_beside at r.status (heard_of item) frame c) refl shows))
      (λ (o : (m : List ℕ) × (frame ≡ Some m) × (heard_of item ≡ Nothing) × (r.status ≡ Normal) × (d ≡ unless_closing c (offering at c m))).
      let x = offering at c o.0 in
      let shown : SameShown x.invoker g.invoker = shown_offered at item r o.0 c o.1 o.2 o.3 in
      let count : c.transactions ≡ g.transactions =
      ap (λ (b : Bool). counted c.transactions false b) (sym shown.outside) ∙ ap (λ (st : InvokerStatus). counted c.transactions (is_in_transaction st) (is_in_transaction g.invoker.status)) (sym o.3) in
      subst (λ (y : Connection). IsOpenFor (turned n (past_given at r item c) y k).0 (turn_request answers at n r.held r s)) (sym (o.4 ∙ goes c x h.is_open))
      (by x (record { timer = refl; write_timeout = refl; is_closing = refl }) count (shows_as x.invoker g.invoker (shown_by n r' g.invoker s) shown shows)))
      given

  answered_turned : (a : Answer) (x : Sending) → answers.answer r.request r.polls ≡ a → r.held ≡ None → IsAnswered at n a r k x
      → IsOpenFor k s → slice_get s.requests n ≡ Some r → r.done ≡ false → TurnsTo x (turn_request answers at n r.held r s)
  answered_turned Pending x e none g h is going_on =
      subst (λ (y : Sending). TurnsTo y (turn_request answers at n r.held r s)) (sym g)
      (refl, subst (IsOpenFor (turned n (answered Pending r) k.connection k).0) (sym (by_answer answers at n r k s Pending e none)) (pending answers at n r k s h is going_on))
  answered_turned (Ready None) x e none g h is going_on =
      subst (λ (y : Sending). TurnsTo y (turn_request answers at n r.held r s)) (sym g) (
        refl,
        subst (IsOpenFor (turned n (answered (Ready None) r) (ending at r k.connection) k).0) (sym (by_answer answers at n r k s (Ready None) e none))
            (ended answers at n r k s (is_in_transaction r.status) refl h is going_on),
      )
  answered_turned (Ready (Some item)) x e none g h is going_on =
      subst (λ (y : Sending). TurnsTo y (turn_request answers at n r.held r s)) (sym g.2)
      (refl, item_turned item g.0 e none g.1 h is going_on)

-- ---- a reply that was held

-- it is held on, unless it was queued
again_is : (i : ConnectionInvoker) (m : List ℕ) (space inside : Bool) → finds_room i ≡ space → is_in_transaction i.status ≡ inside
    → held_on (enqueued_as (Some m) i) m ≡ (if space then None else Some m)
again_is i m true inside e d = rw (e) refl
again_is i m false true e d = rw (e, d) refl
again_is i m false false e d = rw (e, d) refl

module _ (answers : Serving) (at n : ℕ) (m : List ℕ) (r : SlateRequest) (k : Caller) (s : Slate) where
  abbrev again : Connection
  again = giving at r.status Nothing (Some m) k.connection

  -- what a caller has then
  given_as : (space : Bool) → finds_room (invoker_hearing at r.status Nothing k.connection) ≡ space → k.connection.is_closing ≡ false
      → given_again at n m r k ≡ turned n (record r { held = (if space then None else Some m) }) again k
  given_as space e is_open =
      let i = invoker_hearing at r.status Nothing k.connection in
      ap (λ (b : Bool). turned n (record r { held = held_on (if b then dropped_as (Some m) else enqueued_as (Some m) i) m }) (if b then k.connection else again) k) is_open
      ∙ ap (λ (x : Option (List ℕ)). turned n (record r { held = x }) again k) (again_is i m space (is_in_transaction i.status) e refl)

  same_status : again.invoker.status ≡ r.status
  same_status =
      let i = invoker_hearing at r.status Nothing k.connection in
      (keeps (Some m) i (finds_room i) refl).0

  again_open : (space : Bool) → ShowsIn again.invoker (if space then shown_by n (record r { held = None }) again.invoker s else s)
      → r.held ≡ Some m → IsOpenFor k s → slice_get s.requests n ≡ Some r → r.done ≡ false
      → IsOpenFor (turned n (record r { held = (if space then None else Some m) }) again k).0 (if space then shown_by n (record r { held = None }) again.invoker s else s)
  again_open true shows held h is going_on =
      moves n again.invoker.idle_timeout again.invoker.queue.items again.invoker.budget.mark again.invoker.budget.spent k s r (record r { held = None }) again
      (is_in_transaction r.status) (is_in_transaction again.invoker.status) h is (going r.done r.status going_on)
      (ap is_in_transaction same_status ∙ going r.done r.status going_on) refl (same_beside at r.status Nothing (Some m) k.connection) shows
  again_open false shows held h is going_on =
      let r' : SlateRequest = record r { held = Some m } in
      let same : with_request n r' s ≡ s =
      ap (λ (x : Option (List ℕ)). with_request n (record r { held = x }) s) (sym held)
      ∙ ap (λ (rs : List SlateRequest). record s { requests = rs }) (set_same s.requests n r is) in
      subst (IsOpenFor (turned n r' again k).0) same
      (moves n s.connection.idle_timeout s.queue s.mark s.spent k s r r' again
      (is_in_transaction r.status) (is_in_transaction again.invoker.status) h is (going r.done r.status going_on)
      (ap is_in_transaction same_status ∙ going r.done r.status going_on) refl (same_beside at r.status Nothing (Some m) k.connection)
      (record { queue = shows.queue; budget = shows.budget; idle_timeout = shows.idle_timeout }))

  held_turned : r.held ≡ Some m → IsOpenFor k s → slice_get s.requests n ≡ Some r → r.done ≡ false
      → TurnsTo (given_again at n m r k) (turn_request answers at n r.held r s)
  held_turned held h is going_on =
      let space = finds_room (invoker_hearing at r.status Nothing k.connection) in
      let t = held-as-turned answers at n k.connection s r m h.shows held in
      let shows : ShowsIn again.invoker (if space then shown_by n (record r { held = None }) again.invoker s else s) = subst (ShowsIn again.invoker) t.0 t.1 in
      subst (λ (y : Sending). TurnsTo y (turn_request answers at n r.held r s)) (sym (given_as space refl h.is_open))
      (refl, subst (IsOpenFor (turned n (record r { held = (if space then None else Some m) }) again k).0) (sym t.0) (again_open space shows held h is going_on))

-- ---- any turn

module _ (answers : Serving) (at n : ℕ) (k : Caller) (s : Slate) where
  by_held : (held : Option (List ℕ)) (r : SlateRequest) (x : Sending) → r.held ≡ held → IsTurned answers at n held r k x
      → IsOpenFor k s → slice_get s.requests n ≡ Some r → r.done ≡ false → TurnsTo x (turn_request answers at n r.held r s)
  by_held None r x e g h is going_on = answered_turned answers at n r k s (answers.answer r.request r.polls) x refl e g h is going_on
  by_held (Some m) r x e g h is going_on =
      subst (λ (y : Sending). TurnsTo y (turn_request answers at n r.held r s)) (sym g) (held_turned answers at n m r k s e h is going_on)

  by_done : (done : Bool) (r : SlateRequest) (x : Sending) → r.done ≡ done → MatchBool done (x ≡ (k, [])) (IsTurned answers at n r.held r k x)
      → IsOpenFor k s → slice_get s.requests n ≡ Some r → TurnsTo x (if done then s else turn_request answers at n r.held r s)
  by_done true r x e g h is = subst (λ (y : Sending). TurnsTo y s) (sym g) (refl, h)
  by_done false r x e g h is = by_held r.held r x refl g h is e

  pub turns_for : (o : Option SlateRequest) (x : Sending) → slice_get s.requests n ≡ o → Turns answers at n o k x → IsOpenFor k s → TurnsTo x (turn answers at n o s)
  turns_for None x e g h = subst (λ (y : Sending). TurnsTo y s) (sym g) (refl, h)
  turns_for (Some r) x e g h = by_done r.done r x refl g h e

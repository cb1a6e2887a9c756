-- What a connection is after a turn, by what the turn did to its request and its invoker.
use Rattle.dns_session.specs.Serving.{Serving}
use Rattle.std.proofs.Common.{◌≡◌, ◌≢◌, ℕ, ◌+◌, ◌-◌, List, [], ◌∷◌, ◌++◌, Option, Some, None, Bool, true, false, refl, ap, sym, ◌∙◌, subst, set, ⊎_elim}
use Rattle.std.specs.Arc.{arc_value}
use Rattle.std.specs.Prelude.{slice_get, min, not, ◌&&◌, if◌then◌else◌}
use Rattle.std.proofs.lemmas.Bool.{cases_eq}
use Rattle.circular_buffer.specs.Buffer.{Buffer}
use Rattle.dns_base.specs.Msg.{Msg}
use Rattle.dns_base.specs.Wire.{wire}
use Rattle.dns_framing.specs.Answer.{Answer}
use Rattle.dns_session.specs.Heard.{answer_status, answer_timeout}
use Rattle.dns_framing.specs.InvokerStatus.{InvokerStatus}
use Rattle.dns_framing.specs.Polls.{PolledRequest}
use Rattle.dns_session.specs.Budget.{Spending, spend}
use Rattle.dns_session.specs.Connections.{append_frame, in_transaction, is_in_transaction, room, spending}
use Rattle.dns_session.specs.Frames.{framed}
use Rattle.dns_session.specs.Invoker.{begun_with, finds_room, queued_behind}
use Rattle.dns_session.specs.Slate.{Slate, SlateRequest}
use Rattle.dns_session.specs.Stands.{IsGoing, IsOpen, KeepsGoing}
use Rattle.dns_session.specs.TurnedAt.{LetGo, IsPolledBy, TurnsBy, TurnsTo, TurnedAt}
use Rattle.dns_session.specs.Turns.{answered, ends, queue_reply, reply_to, retimed, turn, turn_request, with_request}
use Rattle.dns_session.specs.Unfinished.{ChangesAt, IsInOrder, request_at}
use Rattle.dns_session.specs.declared.connection.OpenConnection.{OpenConnection}
use Rattle.dns_session.specs.declared.connection_request.ConnectionRequest.{ConnectionRequest}
use Rattle.dns_framing.specs.declared.invoker.ConnectionInvoker.{ConnectionInvoker}
use Rattle.dns_session.specs.declared.unfinished.Unfinished.{Unfinished}
use Rattle.dns_session.proofs.Invoked.{invoked, frames_behind, held_behind, spent_behind}
use Rattle.dns_session.proofs.Transactions.{recount_one}
use Rattle.dns_session.proofs.Turned.{first_answer, kept_after, moved_open, nothing_turned, past_poll, same_requests, same_room, with_turn}

-- one request, the queue, what is spent and the time that the connection may be idle are others
abbrev pub with_parts : ℕ → SlateRequest → List (List ℕ) → Spending → ℕ → Slate → Slate
with_parts k r frames b timeout s = record s { requests = set s.requests k r; queue = frames; mark = b.mark; spent = b.spent; connection = record s.connection { idle_timeout = timeout } }

-- how many are in a transaction, as the code counts
abbrev pub counted_by : Bool → Bool → ℕ → ℕ → ℕ
counted_by was now count t = if now && not was then min (t + 1) count else (if was && not now then t - 1 else t)

unmoved : (was now : Bool) (count t : ℕ) → now ≡ was → counted_by was now count t ≡ t
unmoved true true count t e = refl
unmoved false false count t e = refl
unmoved true false count t e = let no : false ≡ true = e in cc
unmoved false true count t e = let no : true ≡ false = e in cc

-- a reply of a request that holds nothing is queued or held
queued_frame : (at k : ℕ) (m : List ℕ) (r : SlateRequest) (timeout : ℕ) (s : Slate) (space inside : Bool)
    → (if space then append_frame at m (with_request k r (record s { connection = record s.connection { idle_timeout = timeout } }))
    else with_request k (if inside then record r { held = Some m } else r) (record s { connection = record s.connection { idle_timeout = timeout } }))
    ≡ with_parts k (record r { held = (if space then r.held else (if inside then Some m else r.held)) }) (if space then s.queue ++ m ∷ [] else s.queue) (if space then spend at (spending s) else spending s) timeout s
queued_frame at k m r timeout s true inside = refl
queued_frame at k m r timeout s false true = refl
queued_frame at k m r timeout s false false = refl

frames_if : (m : Msg) (space : Bool) (frames : List (List ℕ)) → (if space then frames ++ framed (wire m) ∷ [] else frames) ≡ frames_behind (Some m) space frames
frames_if m true frames = refl
frames_if m false frames = refl

held_if : (m : Msg) (space inside : Bool) (held : Option (List ℕ)) → (if space then held else (if inside then Some (framed (wire m)) else held)) ≡ held_behind (Some m) space inside held
held_if m true inside held = refl
held_if m false true held = refl
held_if m false false held = refl

spent_if : (m : Msg) (space : Bool) (at : ℕ) (b : Spending) → (if space then spend at b else b) ≡ spent_behind (Some m) space at b
spent_if m true at b = refl
spent_if m false at b = refl

-- what is spent leaves the budget and its window
spent_within : (x : Option Msg) (space : Bool) (at : ℕ) (b : Spending) → spent_behind x space at b ≡ record b { mark = (spent_behind x space at b).mark; spent = (spent_behind x space at b).spent }
spent_within None space at b = refl
spent_within (Some m) true at b = refl
spent_within (Some m) false at b = refl

queued_reply : (at k : ℕ) (x : Option Msg) (r : SlateRequest) (timeout : ℕ) (s : Slate)
    → queue_reply at k x r (record s { connection = record s.connection { idle_timeout = timeout } })
    ≡ with_parts k (record r { held = held_behind x (room at s) (is_in_transaction r.status) r.held }) (frames_behind x (room at s) s.queue) (spent_behind x (room at s) at (spending s)) timeout s
queued_reply at k None r timeout s = refl
queued_reply at k (Some m) r timeout s =
    queued_frame at k (framed (wire m)) r timeout s (room at s) (is_in_transaction r.status)
    ∙ (ap (λ (held : Option (List ℕ)). with_parts k (record r { held = held }) (if room at s then s.queue ++ framed (wire m) ∷ [] else s.queue) (if room at s then spend at (spending s) else spending s) timeout s) (held_if m (room at s) (is_in_transaction r.status) r.held)
    ∙ (ap (λ (frames : List (List ℕ)). with_parts k (record r { held = held_behind (Some m) (room at s) (is_in_transaction r.status) r.held }) frames (if room at s then spend at (spending s) else spending s) timeout s) (frames_if m (room at s) s.queue)
    ∙ ap (λ (b : Spending). with_parts k (record r { held = held_behind (Some m) (room at s) (is_in_transaction r.status) r.held }) (frames_behind (Some m) (room at s) s.queue) b timeout s) (spent_if m (room at s) at (spending s))))

module _ (answers : Serving) where
  -- the turn of a request that holds nothing
  polled_slate : (at k : ℕ) (r : SlateRequest) (s : Slate) (a : Answer) → slice_get s.requests k ≡ Some r → r.done ≡ false → r.held ≡ None → a ≡ answers.answer r.request r.polls
      → turn answers at k (slice_get s.requests k) s
      ≡ with_parts k (past_poll r (held_behind (reply_to None r.request.octets a) (room at s) (is_in_transaction (answer_status a r.status)) r.held) (answer_status a r.status) (ends a)) (frames_behind (reply_to None r.request.octets a) (room at s) s.queue) (spent_behind (reply_to None r.request.octets a) (room at s) at (spending s)) (answer_timeout a s.connection.idle_timeout) s
  polled_slate at k r s a is going held e =
      ap (λ (x : Option SlateRequest). turn answers at k x s) is
      ∙ (ap (λ (b : Bool). if b then s else turn_request answers at k r.held r s) going
      ∙ (ap (λ (h : Option (List ℕ)). turn_request answers at k h r s) held
      ∙ (ap (λ (x : Answer). queue_reply at k (reply_to None r.request.octets x) (answered x r) (retimed x s)) (sym e)
      ∙ queued_reply at k (reply_to None r.request.octets a) (answered a r) (answer_timeout a s.connection.idle_timeout) s)))

  -- the turn of one that holds a frame
  held_slate : (at k : ℕ) (m : List ℕ) (r : SlateRequest) (s : Slate) (space : Bool) → slice_get s.requests k ≡ Some r → r.done ≡ false → r.held ≡ Some m → room at s ≡ space
      → turn answers at k (slice_get s.requests k) s ≡ (if space then append_frame at m (with_request k (record r { held = None }) s) else s)
  held_slate at k m r s space is going held e =
      ap (λ (x : Option SlateRequest). turn answers at k x s) is
      ∙ (ap (λ (b : Bool). if b then s else turn_request answers at k r.held r s) going
      ∙ (ap (λ (h : Option (List ℕ)). turn_request answers at k h r s) held
      ∙ ap (λ (b : Bool). if b then append_frame at m (with_request k (record r { held = None }) s) else s) e))

module _ {R F : Type 0} (answer : PolledRequest F R → ℕ → Answer) (answers : Serving) where
  -- a request that stays is what is kept
  stays : (g : Option (ConnectionRequest F R)) (after : ConnectionRequest F R) (done : Bool) → done ≡ false → LetGo answer done after g → g ≡ Some after
  stays None after false d l = absurd l
  stays (Some q) after false d l = ap Some l
  stays g after true d l = let no : true ≡ false = d in cc

  going_on : (q after : ConnectionRequest F R) (r : SlateRequest) → after ≡ record q { held = None } → IsGoing answer answers q r → IsGoing answer answers after (record r { held = None })
  going_on q after r e h = rw e (record { going = h.going; polled = h.polled; message = h.message; held = refl; status = h.status })

  not_ended : (done : Bool) (x : Bool) → done ≡ false → (not done && x) ≡ x
  not_ended false x e = refl
  not_ended true x e = let no : true ≡ false = e in cc

  module _ {W : Type 0} where
    polled_open : (client : ℕ) (old : OpenConnection W R F) (m : Unfinished (ConnectionRequest F R)) (i : ConnectionInvoker) (n k : ℕ) (was now done : Bool) (q after : ConnectionRequest F R) (r : SlateRequest) (s : Slate)
        → IsOpen answer answers client old s → slice_get s.requests k ≡ Some r → IsGoing answer answers q r → q.held ≡ None
        → IsPolledBy answer q old.invoker done after i → LetGo answer done after (request_at m k)
        → ChangesAt k old.unfinished m
        → was ≡ is_in_transaction q.status → now ≡ (not done && is_in_transaction after.status)
        → n ≡ counted_by was now old.unfinished.count old.transactions
        → IsOpen answer answers client (record old { unfinished = m; invoker = i; transactions = n }) (turn answers old.invoker.at k (slice_get s.requests k) s)
    polled_open client old m i n k was now done q after r s h is going none p left others before behind count =
        let a = answer q.polled 0 in
        let e = first_answer answer answers q r going in
        let x = reply_to None r.request.octets a in
        let t = invoked (arc_value q.message) a (begun_with q.status old.invoker) in
        let same = ap (λ (o : List ℕ). reply_to None o a) going.message in
        let at = old.invoker.at in
        let space = same_room answer answers client old s h in
        let empty : r.held ≡ None = sym going.held ∙ none in
        let status : answer_status a q.status ≡ answer_status a r.status = ap (answer_status a) going.status in
        let far : after.status ≡ answer_status a r.status = p.status ∙ (t.far ∙ status) in
        let frames = frames_behind x (room at s) s.queue in
        let held = held_behind x (room at s) (is_in_transaction (answer_status a r.status)) r.held in
        let spent = spent_behind x (room at s) at (spending s) in
        let timeout = answer_timeout a s.connection.idle_timeout in
        let r' = past_poll r held (answer_status a r.status) (ends a) in
        let holds : after.held ≡ held =
        p.held ∙ (t.held
        ∙ (ap (λ (y : Option Msg). held_behind y (finds_room old.invoker) (is_in_transaction (answer_status a q.status)) None) same
        ∙ (ap (λ (b : Bool). held_behind x b (is_in_transaction (answer_status a q.status)) None) space
        ∙ (ap (λ (y : InvokerStatus). held_behind x (room at s) (is_in_transaction y) None) status
        ∙ ap (λ (y : Option (List ℕ)). held_behind x (room at s) (is_in_transaction (answer_status a r.status)) y) (sym empty))))) in
        let items : i.queue.items ≡ frames =
        ap (λ (b : Buffer (List ℕ)). b.items) p.queue ∙ (t.items
        ∙ (ap (λ (y : Option Msg). frames_behind y (finds_room old.invoker) old.invoker.queue.items) same
        ∙ (ap (λ (b : Bool). frames_behind x b old.invoker.queue.items) space
        ∙ ap (λ (y : List (List ℕ)). frames_behind x (room at s) y) h.queue))) in
        let capacity : i.queue.capacity ≡ s.bound = ap (λ (b : Buffer (List ℕ)). b.capacity) p.queue ∙ (t.capacity ∙ h.bound) in
        let budget : i.budget ≡ spent =
        p.budget ∙ (t.budget
        ∙ (ap (λ (y : Option Msg). spent_behind y (finds_room old.invoker) at old.invoker.budget) same
        ∙ (ap (λ (b : Bool). spent_behind x b at old.invoker.budget) space
        ∙ ap (λ (y : Spending). spent_behind x (room at s) at y) h.budget))) in
        let idle : i.idle_timeout ≡ timeout = p.idle_timeout ∙ (t.idle ∙ ap (answer_timeout a) h.idle_timeout) in
        let was_in : was ≡ in_transaction r = before ∙ (ap is_in_transaction going.status ∙ ap (λ (b : Bool). not b && is_in_transaction r.status) (sym going.going)) in
        let now_in : now ≡ in_transaction r' = behind ∙ (ap (λ (b : Bool). not b && is_in_transaction after.status) p.ended ∙ ap (λ (y : InvokerStatus). not (ends a) && is_in_transaction y) far) in
        let keeps = kept_after answer answers q after r held (answer_status a r.status) (request_at m k) (ends a) (subst (λ (b : Bool). LetGo answer b after (request_at m k)) p.ended left) p.polled p.message going holds far in
        let open_now = with_turn answer answers client old m i n k r r' frames spent timeout s h is others keeps (recount_one in_transaction s.requests k r r' was now old.unfinished.count n old.transactions is was_in now_in h.requests.made h.requests.held_open count) idle items capacity (budget ∙ spent_within x (room at s) at (spending s)) in
        subst (λ (u : Slate). IsOpen answer answers client (record old { unfinished = m; invoker = i; transactions = n }) u) (sym (polled_slate answers at k r s a is going.going empty e)) open_now

    held_open : (client : ℕ) (old : OpenConnection W R F) (m : Unfinished (ConnectionRequest F R)) (i : ConnectionInvoker) (n k : ℕ) (was now done : Bool) (f : List ℕ) (q after : ConnectionRequest F R) (r : SlateRequest) (s : Slate) (space : Bool)
        → IsOpen answer answers client old s → slice_get s.requests k ≡ Some r → IsGoing answer answers q r → q.held ≡ Some f
        → request_at old.unfinished k ≡ Some q
        → room old.invoker.at s ≡ space
        → after ≡ (if space then record q { held = None } else q)
        → i ≡ (if space then queued_behind old.invoker f else old.invoker)
        → request_at m k ≡ Some after
        → ChangesAt k old.unfinished m
        → was ≡ is_in_transaction q.status → now ≡ is_in_transaction after.status
        → n ≡ counted_by was now old.unfinished.count old.transactions
        → IsOpen answer answers client (record old { unfinished = m; invoker = i; transactions = n }) (turn answers old.invoker.at k (slice_get s.requests k) s)
    held_open client old m i n k was now done f q after r s true h is going held kept here_room e invoker here others before behind count =
        let r' : SlateRequest = record r { held = None } in
        let keeps : KeepsGoing answer answers (request_at m k) (Some r') = rw here (going_on q after r e going) in
        let was_in : was ≡ in_transaction r = before ∙ (ap is_in_transaction going.status ∙ ap (λ (b : Bool). not b && is_in_transaction r.status) (sym going.going)) in
        let status : after.status ≡ r.status = ap (λ (c : ConnectionRequest F R). c.status) e ∙ going.status in
        let now_in : now ≡ in_transaction r' = behind ∙ (ap is_in_transaction status ∙ ap (λ (b : Bool). not b && is_in_transaction r.status) (sym going.going)) in
        let open_now = with_turn answer answers client old m i n k r r' (s.queue ++ f ∷ []) (spend old.invoker.at (spending s)) s.connection.idle_timeout s h is others keeps
        (recount_one in_transaction s.requests k r r' was now old.unfinished.count n old.transactions is was_in now_in h.requests.made h.requests.held_open count)
        (ap (λ (x : ConnectionInvoker). x.idle_timeout) invoker ∙ h.idle_timeout)
        (ap (λ (x : ConnectionInvoker). x.queue.items) invoker ∙ ap (λ (x : List (List ℕ)). x ++ f ∷ []) h.queue)
        (ap (λ (x : ConnectionInvoker). x.queue.capacity) invoker ∙ h.bound)
        (ap (λ (x : ConnectionInvoker). x.budget) invoker ∙ ap (spend old.invoker.at) h.budget) in
        subst (λ (u : Slate). IsOpen answer answers client (record old { unfinished = m; invoker = i; transactions = n }) u) (sym (held_slate answers old.invoker.at k f r s true is going.going (sym going.held ∙ held) here_room)) open_now
    held_open client old m i n k was now done f q after r s false h is going held kept no_room e invoker here others before behind count =
        let same : (j : ℕ) → request_at m j ≡ request_at old.unfinished j =
        λ j. ⊎_elim (λ (at : j ≡ k). rw at (here ∙ (ap Some e ∙ sym kept))) (λ (apart : j ≢ k). others.others j apart) (cases_eq j k) in
        let status : now ≡ was = behind ∙ (ap (λ (c : ConnectionRequest F R). is_in_transaction c.status) e ∙ sym before) in
        subst (λ (u : Slate). IsOpen answer answers client (record old { unfinished = m; invoker = i; transactions = n }) u) (sym (held_slate answers old.invoker.at k f r s false is going.going (sym going.held ∙ held) no_room))
        (same_requests answer answers client old m i n k s others same invoker (count ∙ unmoved was now old.unfinished.count old.transactions status) h)

    turned_by : (client : ℕ) (old : OpenConnection W R F) (m : Unfinished (ConnectionRequest F R)) (i : ConnectionInvoker) (n k : ℕ) (was now : Bool) (q : ConnectionRequest F R) (t : TurnsTo answer q old.invoker was now (request_at m k) i) (held : Option (List ℕ)) (r : SlateRequest) (s : Slate)
        → IsOpen answer answers client old s → slice_get s.requests k ≡ Some r → IsGoing answer answers q r → q.held ≡ held
        → request_at old.unfinished k ≡ Some q
        → TurnsBy answer held q old.invoker t.done t.after i
        → ChangesAt k old.unfinished m
        → n ≡ counted_by was now old.unfinished.count old.transactions
        → IsOpen answer answers client (record old { unfinished = m; invoker = i; transactions = n }) (turn answers old.invoker.at k (slice_get s.requests k) s)
    turned_by client old m i n k was now q t None r s h is going holds kept turns others count =
        polled_open client old m i n k was now t.done q t.after r s h is going holds turns t.left others t.before t.behind count
    turned_by client old m i n k was now q t (Some f) r s h is going holds kept turns others count =
        let space = same_room answer answers client old s h in
        held_open client old m i n k was now t.done f q t.after r s (room old.invoker.at s) h is going holds kept refl
        (turns.request ∙ ap (λ (b : Bool). if b then record q { held = None } else q) space)
        (turns.invoker ∙ ap (λ (b : Bool). if b then queued_behind old.invoker f else old.invoker) space)
        (stays (request_at m k) t.after t.done turns.ended t.left)
        others t.before (t.behind ∙ not_ended t.done (is_in_transaction t.after.status) turns.ended) count

    turned_some : (client : ℕ) (old : OpenConnection W R F) (m : Unfinished (ConnectionRequest F R)) (i : ConnectionInvoker) (n k : ℕ) (was now : Bool) (q : ConnectionRequest F R) (x : Option SlateRequest) (s : Slate)
        → IsOpen answer answers client old s → slice_get s.requests k ≡ x → KeepsGoing answer answers (Some q) x
        → request_at old.unfinished k ≡ Some q
        → TurnsTo answer q old.invoker was now (request_at m k) i
        → ChangesAt k old.unfinished m
        → n ≡ counted_by was now old.unfinished.count old.transactions
        → IsOpen answer answers client (record old { unfinished = m; invoker = i; transactions = n }) (turn answers old.invoker.at k (slice_get s.requests k) s)
    turned_some client old m i n k was now q None s h is keeps kept t others count = absurd keeps
    turned_some client old m i n k was now q (Some r) s h is keeps kept t others count =
        turned_by client old m i n k was now q t q.held r s h is keeps refl kept t.turns others count

    turned_kept : (client : ℕ) (old : OpenConnection W R F) (m : Unfinished (ConnectionRequest F R)) (i : ConnectionInvoker) (n k : ℕ) (was now : Bool) (g : Option (ConnectionRequest F R)) (s : Slate)
        → IsOpen answer answers client old s → request_at old.unfinished k ≡ g → KeepsGoing answer answers g (slice_get s.requests k)
        → TurnedAt answer g old.invoker was now (request_at m k) i
        → ChangesAt k old.unfinished m
        → n ≡ counted_by was now old.unfinished.count old.transactions
        → IsOpen answer answers client (record old { unfinished = m; invoker = i; transactions = n }) (turn answers old.invoker.at k (slice_get s.requests k) s)
    turned_kept client old m i n k was now None s h kept keeps t others count =
        let same : (j : ℕ) → request_at m j ≡ request_at old.unfinished j =
        λ j. ⊎_elim (λ (at : j ≡ k). rw at (t.2 ∙ sym kept)) (λ (apart : j ≢ k). others.others j apart) (cases_eq j k) in
        subst (λ (u : Slate). IsOpen answer answers client (record old { unfinished = m; invoker = i; transactions = n }) u) (sym (nothing_turned answer answers old.invoker.at k (slice_get s.requests k) s keeps))
        (same_requests answer answers client old m i n k s others same t.3 (count ∙ unmoved was now old.unfinished.count old.transactions (t.1 ∙ sym t.0)) h)
    turned_kept client old m i n k was now (Some q) s h kept keeps t others count =
        turned_some client old m i n k was now q (slice_get s.requests k) s h refl keeps kept t others count

    -- what the code's turn leaves, at the moment of its event, stands for the slate after the turn
    pub turned : (client at : ℕ) (old : OpenConnection W R F) (m : Unfinished (ConnectionRequest F R)) (i : ConnectionInvoker) (n k : ℕ) (was now : Bool) (s : Slate)
        → (IsInOrder old.unfinished → TurnedAt answer (request_at old.unfinished k) (record old.invoker { at = at }) was now (request_at m k) i)
        → (IsInOrder old.unfinished → ChangesAt k old.unfinished m)
        → n ≡ counted_by was now m.count old.transactions
        → IsOpen answer answers client old s
        → IsOpen answer answers client (record old { unfinished = m; invoker = i; transactions = n }) (turn answers at k (slice_get s.requests k) s)
    turned client at old m i n k was now s t others count h =
        let o = h.requests.in_order in
        let c = others o in
        turned_kept client (record old { invoker = record old.invoker { at = at } }) m i n k was now (request_at old.unfinished k) s (moved_open answer answers client at old s h) refl (h.requests.each k) (t o) c (count ∙ ap (λ (x : ℕ). counted_by was now x old.transactions) c.count)

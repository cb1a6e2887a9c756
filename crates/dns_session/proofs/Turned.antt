-- What a connection is after a turn of one of its requests.
use Rattle.dns_session.specs.Serving.{Serving}
use Rattle.std.proofs.Common.{◌≡◌, ℕ, suc, ◌+◌, List, [], ◌∷◌, ◌++◌, length, Option, Some, None, Bool, true, false, refl, ap, sym, ◌∙◌, arith, set, length-set, subst}
use Rattle.std.specs.Arc.{arc_value}
use Rattle.std.specs.Prelude.{slice_get, nat_lt, ◌&&◌, if◌then◌else◌}
use Rattle.dns_framing.specs.Answer.{Answer}
use Rattle.dns_framing.specs.InvokerStatus.{InvokerStatus}
use Rattle.dns_framing.specs.Polls.{PolledRequest}
use Rattle.dns_session.specs.Budget.{Spending, allows, spend}
use Rattle.dns_session.specs.Connections.{append_frame, enqueue_or_drop, in_transaction, room, spending}
use Rattle.dns_session.specs.Invoker.{finds_room, offered, queued_behind}
use Rattle.dns_session.specs.Slate.{Slate, SlateRequest}
use Rattle.dns_session.specs.Stands.{IsGoing, IsOpen, KeepsAll, KeepsGoing}
use Rattle.dns_session.specs.TurnedAt.{LetGo}
use Rattle.dns_session.specs.Turns.{turn}
use Rattle.dns_session.specs.Unfinished.{ChangesAt, request_at}
use Rattle.dns_session.specs.declared.connection.OpenConnection.{OpenConnection}
use Rattle.dns_session.specs.declared.connection_request.ConnectionRequest.{ConnectionRequest}
use Rattle.dns_framing.specs.declared.invoker.ConnectionInvoker.{ConnectionInvoker}
use Rattle.dns_session.specs.declared.unfinished.Unfinished.{Unfinished}
use Rattle.dns_session.proofs.Keeping.{keeps_set}
use Rattle.dns_session.proofs.Opens.{open_on}
use Rattle.dns_session.proofs.Transactions.{passing}

-- a request past one poll more
abbrev pub past_poll : SlateRequest → Option (List ℕ) → InvokerStatus → Bool → SlateRequest
past_poll r held status done = record { request = r.request; polls = r.polls + 1; held = held; status = status; done = done }

module _ {R F : Type 0} (answer : PolledRequest F R → ℕ → Answer) (answers : Serving) where
  -- a turn of a request of which nothing is kept
  pub nothing_turned : (at k : ℕ) (x : Option SlateRequest) (s : Slate) → KeepsGoing answer answers None x → turn answers at k x s ≡ s
  nothing_turned at k None s h = refl
  nothing_turned at k (Some r) s h = rw h refl

  later : (q q' : ConnectionRequest F R) (r : SlateRequest) → ((k : ℕ) → answer q'.polled k ≡ answer q.polled (suc k)) → IsGoing answer answers q r → (j : ℕ) → answer q'.polled j ≡ answers.answer r.request (r.polls + 1 + j)
  later q q' r p h j = let e : r.polls + suc j ≡ r.polls + 1 + j = omega arith in p j ∙ h.polled (suc j) ∙ ap (answers.answer r.request) e

  pub first_answer : (q : ConnectionRequest F R) (r : SlateRequest) → IsGoing answer answers q r → answer q.polled 0 ≡ answers.answer r.request r.polls
  first_answer q r h = let e : r.polls + 0 ≡ r.polls = omega arith in h.polled 0 ∙ ap (answers.answer r.request) e

  -- what is kept of it, which is nothing if it is done
  pub kept_after : (q after : ConnectionRequest F R) (r : SlateRequest) (held : Option (List ℕ)) (status : InvokerStatus) (g : Option (ConnectionRequest F R)) (done : Bool)
      → LetGo answer done after g
      → ((k : ℕ) → answer after.polled k ≡ answer q.polled (suc k)) → after.message ≡ q.message
      → IsGoing answer answers q r → after.held ≡ held → after.status ≡ status
      → KeepsGoing answer answers g (Some (past_poll r held status done))
  kept_after q after r held status None true l polled message h a b = refl
  kept_after q after r held status (Some g) true l polled message h a b = let none : Some g ≡ None = l in cc
  kept_after q after r held status None false l polled message h a b = absurd l
  kept_after q after r held status (Some g) false l polled message h a b =
      rw l (record { going = refl; polled = later q after r polled h; message = ap arc_value message ∙ h.message; held = a; status = b })

  module _ {W : Type 0} where
    -- one request, the queue, what is spent and the time that it may be idle are others
    pub with_turn : (client : ℕ) (old : OpenConnection W R F) (m : Unfinished (ConnectionRequest F R)) (i : ConnectionInvoker) (n k : ℕ) (r r' : SlateRequest) (frames : List (List ℕ)) (b : Spending) (timeout : ℕ) (s : Slate)
        → IsOpen answer answers client old s
        → slice_get s.requests k ≡ Some r
        → ChangesAt k old.unfinished m
        → KeepsGoing answer answers (request_at m k) (Some r')
        → n ≡ passing in_transaction (set s.requests k r')
        → i.idle_timeout ≡ timeout → i.queue.items ≡ frames → i.queue.capacity ≡ s.bound
        → i.budget ≡ record (spending s) { mark = b.mark; spent = b.spent }
        → IsOpen answer answers client (record old { unfinished = m; invoker = i; transactions = n }) (record s { requests = set s.requests k r'; queue = frames; mark = b.mark; spent = b.spent; connection = record s.connection { idle_timeout = timeout } })
    with_turn client old m i n k r r' frames b timeout s h is others keeps count idle items capacity budget =
        let requests : KeepsAll answer answers n m (set s.requests k r') = record {
          made = others.count ∙ (h.requests.made ∙ sym (length-set s.requests k r'));
          held_open = count;
          in_order = others.in_order;
          each = keeps_set answer answers old.unfinished m s.requests k r r' is h.requests.each others.others keeps;
        } in
        open_on answer answers refl h.not_over idle h.timer h.kept h.within requests items capacity budget h

    -- there is room at the slate if the connection has room, at the moment that it is at
    pub same_room : (client : ℕ) (old : OpenConnection W R F) (s : Slate) → IsOpen answer answers client old s → finds_room old.invoker ≡ room old.invoker.at s
    same_room client old s h =
        ap (λ (xs : List (List ℕ)). nat_lt (length xs) old.invoker.queue.capacity && allows old.invoker.at old.invoker.budget) h.queue
        ∙ (ap (λ (n : ℕ). nat_lt (length s.queue) n && allows old.invoker.at old.invoker.budget) h.bound
        ∙ ap (λ (b : Spending). nat_lt (length s.queue) s.bound && allows old.invoker.at b) h.budget)

    -- it is at another moment
    pub moved_open : (client at : ℕ) (c : OpenConnection W R F) (s : Slate) → IsOpen answer answers client c s → IsOpen answer answers client (record c { invoker = record c.invoker { at = at } }) s
    moved_open client at c s h = open_on answer answers refl h.not_over h.idle_timeout h.timer h.kept h.within h.requests h.queue h.bound h.budget h

    -- a frame is queued
    queued_open : (client : ℕ) (c : OpenConnection W R F) (m : List ℕ) (s : Slate) → IsOpen answer answers client c s
        → IsOpen answer answers client (record c { invoker = queued_behind c.invoker m }) (append_frame c.invoker.at m s)
    queued_open client c m s h =
        open_on answer answers refl h.not_over h.idle_timeout h.timer h.kept h.within h.requests (ap (λ (xs : List (List ℕ)). xs ++ m ∷ []) h.queue) h.bound (ap (spend c.invoker.at) h.budget) h

    -- a frame is queued if there is room
    pub offered_open : (client : ℕ) (c : OpenConnection W R F) (m : List ℕ) (s : Slate) → IsOpen answer answers client c s
        → IsOpen answer answers client (record c { invoker = offered c.invoker m }) (enqueue_or_drop c.invoker.at m s)
    offered_open client c m s h =
        let P : Bool → Type 0 = λ b. IsOpen answer answers client (record c { invoker = (if b then queued_behind c.invoker m else c.invoker) }) (if b then append_frame c.invoker.at m s else s) in
        let Q : Bool → Type 0 = λ b. IsOpen answer answers client (record c { invoker = (if b then queued_behind c.invoker m else c.invoker) }) (enqueue_or_drop c.invoker.at m s) in
        subst Q (sym (same_room client c s h)) (elim (room c.invoker.at s) as P [ true ↦ queued_open client c m s h | false ↦ h ])

    -- the same requests, kept in another way, and the same invoker
    pub same_requests : (client : ℕ) (old : OpenConnection W R F) (m : Unfinished (ConnectionRequest F R)) (i : ConnectionInvoker) (n k : ℕ) (s : Slate)
        → ChangesAt k old.unfinished m
        → ((q : ℕ) → request_at m q ≡ request_at old.unfinished q)
        → i ≡ old.invoker → n ≡ old.transactions
        → IsOpen answer answers client old s → IsOpen answer answers client (record old { unfinished = m; invoker = i; transactions = n }) s
    same_requests client old m i n k s others same invoker count h =
        let requests : KeepsAll answer answers n m s.requests = record { made = others.count ∙ h.requests.made; held_open = count ∙ h.requests.held_open; in_order = others.in_order; each = λ q. rw (same q) (h.requests.each q) } in
        let P : ConnectionInvoker → Type 0 = λ x. IsOpen answer answers client (record old { unfinished = m; invoker = x; transactions = n }) s in
        subst P (sym invoker) (open_on answer answers refl h.not_over h.idle_timeout h.timer h.kept h.within requests h.queue h.bound h.budget h)

-- Frames are taken one at a time.
use Rattle.dns_session.specs.Serving.{Serving}
use Rattle.std.proofs.Common.{◌≡◌, ℕ, ◌+◌, ◌<◌, ◌≤◌, List, [], ◌∷◌, ◌++◌, length, Option, Some, None, Bool, true, false, refl, ap, sym, ◌∙◌, subst, lt-ltb, arith, length-append}
use Rattle.std.specs.Prelude.{nat_lt, if◌then◌else◌, slice_get, MatchOption, Result, Ok, Err, OnErr}
use Rattle.std.proofs.lemmas.Bool.{false≢true, le-ltb}
use Rattle.dns_name.specs.declared.address.SocketAddr.{SocketAddr}
use Rattle.dns_base.specs.Header.{header_of}
use Rattle.dns_base.specs.Wire.{wire}
use Rattle.dns_framing.specs.Answer.{Answer}
use Rattle.dns_framing.specs.ErrorReply.{error_reply}
use Rattle.dns_framing.specs.Req.{Req}
use Rattle.dns_events.specs.declared.event.Output.TheVariants.{Closed as Closed_output}
use Rattle.dns_events.specs.declared.event.Why.TheVariants.{Short}
use Rattle.dns_session.specs.Frames.{first_frame, framed, frames, past}
use Rattle.dns_session.specs.Slate.{Slate, SlateRequest, Effect}
use Rattle.dns_session.specs.Requests.{header_size, most_requests, request_of_frame, unpolled}
use Rattle.dns_session.specs.Connections.{enqueue_or_drop, take_frames, take_frame, piece}
use Rattle.dns_session.specs.Invoker.{finds_room, offered, queued_behind}
use Rattle.dns_session.specs.Goings.{Leads, Asks, TakesFrame, TakesMessage, outputs_of, refusing, state_behind}
use Rattle.dns_session.specs.Stands.{IsGoing, IsOpen, KeepsAll, KeepsGoing, StandsIn}
use Rattle.dns_session.specs.Unfinished.{Enters, IsInOrder, request_at}
use Rattle.dns_session.specs.declared.spares.Spares.{Spares}
use Rattle.dns_session.specs.declared.unfinished.Unfinished.{Unfinished}
use Rattle.dns_session.specs.declared.client.State.TheVariants.{Open as Is_open}
use Rattle.dns_session.specs.declared.connection.OpenConnection.{OpenConnection}
use Rattle.dns_session.specs.declared.outcome.Outcome.{Outcome}
use Rattle.dns_session.specs.declared.outcome.Outcome.TheVariants.{Nothing, Ends}
use Rattle.dns_framing.specs.Polls.{PolledRequest}
use Rattle.dns_session.specs.declared.connection_request.ConnectionRequest.{ConnectionRequest}
use Rattle.dns_framing.specs.declared.invoker.ConnectionInvoker.{ConnectionInvoker}
use Rattle.dns_session.proofs.Keeping.{keeps_push}
use Rattle.dns_session.proofs.Opens.{open_on}
use Rattle.dns_session.proofs.Transactions.{one_idle}
use Rattle.dns_session.proofs.Turned.{moved_open, offered_open}
use Rattle.dns_framing.proofs.FramesLemmas.{first_shorter, frames_some, past_next, within_next, past-append, within-append, new_frames_by_kept}

-- a request that was called is kept under its number
pub asks_by : {W R F : Type 0} (answer : PolledRequest F R → ℕ → Answer) (answers : Serving) (old new : OpenConnection W R F) (r : Req (Unit {0})) (q : ConnectionRequest F R)
    → old.unfinished.count < most_requests
    → Enters old.unfinished q new.unfinished
    → new ≡ record old { unfinished = new.unfinished }
    → IsGoing answer answers q (unpolled r)
    → Asks answer answers old new r
asks_by {W} {R} {F} answer answers old new r q few enters rest kept =
    let same : new.transactions ≡ old.transactions = ap (λ (c : OpenConnection W R F). c.transactions) rest in
    record {
      others = rest;
      made = λ rs h.
          let less : nat_lt (length rs) most_requests ≡ true = rw (← h.made) (lt-ltb old.unfinished.count most_requests few) in
          let e = enters.entered h.in_order in
          rw less (record {
            made = enters.count ∙ omega (arith, h.made, length-append rs (unpolled r ∷ []));
            held_open = same ∙ h.held_open ∙ sym (one_idle rs r);
            in_order = e.in_order;
            each = keeps_push answer answers old.unfinished new.unfinished rs old.unfinished.count (unpolled r) q h.made h.each e.others e.here kept;
          });
    }

-- the messages that are kept for the next requests say nothing of those that aren't done
module _ {Q : Type 0} (u : Unfinished Q) (s : Spares) where
  abbrev beside : Unfinished Q
  beside = record u { spares = s }

  same_request : (k : ℕ) → request_at beside k ≡ request_at u k
  unfolding request_at
  same_request k = refl

  same_order : IsInOrder u → IsInOrder beside
  same_order h = record { row = h.row; passed = h.passed }

pub asks_beside : {W R F : Type 0} (answer : PolledRequest F R → ℕ → Answer) (answers : Serving) (old new : OpenConnection W R F) (r : Req (Unit {0})) (s : Spares)
    → Asks answer answers (record old { unfinished = record old.unfinished { spares = s } }) new r
    → Asks answer answers old new r
asks_beside {W} {R} {F} answer answers old new r s asks = record {
  others = asks.others;
  made = λ rs h. asks.made rs (record {
    made = h.made;
    held_open = h.held_open;
    in_order = same_order old.unfinished s h.in_order;
    each = λ k. subst (λ q. KeepsGoing answer answers q (slice_get rs k)) (sym (same_request old.unfinished s k)) (h.each k);
  });
}

pub on_each_err : {T E P : Type 0} (r : Result T E) → P → OnErr r P
on_each_err (Ok x) p = tt
on_each_err (Err e) p = p

-- a response for whose reply there is no room leaves all but the moment
pub unanswered : {W R F : Type 0} (at : ℕ) (c : OpenConnection W R F) (i : ConnectionInvoker) (o : List ℕ) → i ≡ record c.invoker { at = at } → finds_room i ≡ false → record c { invoker = i } ≡ refusing at c o
unanswered at c i o moved full =
    let m = framed (wire (error_reply o 1)) in
    let stays : offered i m ≡ i = ap (λ (b : Bool). if b then queued_behind i m else i) full in
    ap (λ (x : ConnectionInvoker). record c { invoker = x }) (sym stays ∙ ap (λ (x : ConnectionInvoker). offered x m) moved)

module _ {W R F : Type 0} (answer : PolledRequest F R → ℕ → Answer) (answers : Serving) (at secs : ℕ) where
  pub refuses_message : (old new : OpenConnection W R F) (o : List ℕ) → (header_of o).qr ≡ true → new ≡ refusing at old o → TakesMessage answer answers at secs old new o
  refuses_message old new o response is = record { response = λ _. is; query = λ query. absurd (false≢true (sym query ∙ response)) }

  pub none_left : (c : OpenConnection W R F) → frames c.framer ≡ [] → Leads answer answers c c Nothing (λ s. take_frames at secs (frames c.framer) s)
  none_left c e client s h = rw e (refl, h)

  short : (c new : OpenConnection W R F) (f r : List ℕ) → first_frame c.framer ≡ Some (f, r) → length f < 12
      → Leads answer answers c new (Ends Short) (λ s. take_frames at secs (frames c.framer) s)
  short c new f r e l client s h =
      let t : nat_lt (length f) header_size ≡ true = lt-ltb (length f) 12 l in
      rw (frames_some c.framer f r e, t) (
        ap (λ n. Closed_output n Short ∷ []) h.client,
        record { client = h.client; freed = h.freed; phase = refl; requests = refl; queue = refl },
      )

  -- what is kept of a connection that took a frame
  abbrev timed : OpenConnection W R F → List ℕ → OpenConnection W R F
  timed c r = record c { framer = r; timer = at }

  -- it stands for the slate that counts the frame, with the requests that it keeps then
  timed_open : (c new : OpenConnection W R F) (f r : List ℕ) (client : ℕ) (s : Slate) (rs : List SlateRequest) → IsOpen answer answers client c s → first_frame c.framer ≡ Some (f, r)
      → new ≡ record (timed c r) { unfinished = new.unfinished }
      → KeepsAll answer answers new.transactions new.unfinished rs
      → IsOpen answer answers client new (record s { taken = s.taken + 1; reset_at = at; requests = rs })
  timed_open c new f r client s rs h e others =
      let e' = rw h.kept at e in
      let P : OpenConnection W R F → Type 0 = λ x. KeepsAll answer answers x.transactions x.unfinished rs → IsOpen answer answers client x (record s { taken = s.taken + 1; reset_at = at; requests = rs }) in
      subst P (sym others) (λ k. open_on answer answers refl h.not_over h.idle_timeout refl (sym (past_next s.taken s.received f r h.within e')) (within_next s.taken s.received f r h.within e') k h.queue h.bound h.budget h)

  asked_open : (c new : OpenConnection W R F) (f r : List ℕ) (client : ℕ) (s : Slate) (q : SlateRequest) → IsOpen answer answers client c s → first_frame c.framer ≡ Some (f, r)
      → new ≡ record (timed c r) { unfinished = new.unfinished }
      → (b : Bool) → KeepsAll answer answers new.transactions new.unfinished (if b then s.requests ++ q ∷ [] else s.requests)
      → IsOpen answer answers client new (if b then record s { taken = s.taken + 1; reset_at = at; requests = s.requests ++ q ∷ [] } else record s { taken = s.taken + 1; reset_at = at })
  asked_open c new f r client s q h e others true k = timed_open c new f r client s (s.requests ++ q ∷ []) h e others k
  asked_open c new f r client s q h e others false k = timed_open c new f r client s s.requests h e others k

  taken : (c new : OpenConnection W R F) (f r : List ℕ) (q : Req (Unit {0})) → first_frame c.framer ≡ Some (f, r) → 12 ≤ length f
      → (header_of f).qr ≡ false
      → q ≡ request_of_frame c.invoker.idle_timeout c.addr at secs f
      → Asks answer answers (timed c r) new q → TakesFrame answer answers at secs c new
  taken c new f r q e l query is a =
      let n : nat_lt (length f) header_size ≡ false = le-ltb (length f) 12 l in
      let a' = rw is at a in
      let framer : new.framer ≡ r = ap (λ (x : OpenConnection W R F). x.framer) a.others in
      record {
        less = rw framer (first_shorter c.framer f r e);
        goes = λ client s h.
            let same : request_of_frame c.invoker.idle_timeout c.addr at secs f ≡ request_of_frame s.connection.idle_timeout s.addr at secs f = ap (λ (x : ℕ). request_of_frame x c.addr at secs f) h.idle_timeout ∙ ap (λ (x : SocketAddr). request_of_frame s.connection.idle_timeout x at secs f) h.addr in
            let k = rw same at (a'.made s.requests h.requests) in
            (take_frame at secs f s, rw query (asked_open c new f r client s (unpolled (request_of_frame s.connection.idle_timeout s.addr at secs f)) h e a'.others (nat_lt (length s.requests) most_requests) k), rw (framer, frames_some c.framer f r e, n) refl);
      }

  -- a response is taken
  refused : (c new : OpenConnection W R F) (f r : List ℕ) → first_frame c.framer ≡ Some (f, r) → 12 ≤ length f → (header_of f).qr ≡ true
      → new ≡ refusing at (timed c r) f → TakesFrame answer answers at secs c new
  refused c new f r e l response is =
      let n : nat_lt (length f) header_size ≡ false = le-ltb (length f) 12 l in
      let framer : new.framer ≡ r = ap (λ (x : OpenConnection W R F). x.framer) is in
      let m = framed (wire (error_reply f 1)) in
      record {
        less = rw framer (first_shorter c.framer f r e);
        goes = λ client s h.
            let t : Slate = record s { taken = s.taken + 1; reset_at = at } in
            let timed_now = moved_open answer answers client at (timed c r) t (timed_open c (timed c r) f r client s s.requests h e refl h.requests) in
            let open_now = offered_open answer answers client (record (timed c r) { invoker = record c.invoker { at = at } }) m t timed_now in
            let P : OpenConnection W R F → Type 0 = λ x. IsOpen answer answers client x (enqueue_or_drop at m t) in
            (take_frame at secs f s, rw response (subst P (sym is) open_now), rw (framer, frames_some c.framer f r e, n) refl);
      }

  taken_by : (c new : OpenConnection W R F) (f r : List ℕ) → first_frame c.framer ≡ Some (f, r) → 12 ≤ length f
      → TakesMessage answer answers at secs (timed c r) new f → (b : Bool) → (header_of f).qr ≡ b → TakesFrame answer answers at secs c new
  taken_by c new f r e l h true is = refused c new f r e l is (h.response is)
  taken_by c new f r e l h false is = taken c new f r (request_of_frame c.invoker.idle_timeout c.addr at secs f) e l is refl (h.query is)

  -- a frame is taken, or ends the connection
  pub taken_or_short : (c new : OpenConnection W R F) (f r : List ℕ) (outcome : Option Outcome) → first_frame c.framer ≡ Some (f, r)
      → MatchOption outcome ((12 ≤ length f) × TakesMessage answer answers at secs (timed c r) new f) (λ outcome. (outcome ≡ Ends Short) × (length f < 12))
      → MatchOption outcome (TakesFrame answer answers at secs c new) (λ outcome. Leads answer answers c new outcome (λ s. take_frames at secs (frames c.framer) s))
  taken_or_short c new f r None e h = taken_by c new f r e h.0 h.1 (header_of f).qr refl
  taken_or_short c new f r (Some outcome) e h = rw h.0 (short c new f r e h.1)

  pub fed : (c new : OpenConnection W R F) (p : List ℕ) (outcome : Outcome)
      → Leads answer answers (record c { framer = c.framer ++ p }) new outcome (λ s. take_frames at secs (frames (c.framer ++ p)) s)
      → Leads answer answers c new outcome (λ s. piece at secs p s)
  fed c new p outcome all client s h =
      let fs = new_frames_by_kept s.taken s.received p h.within ∙ ap (λ k. frames (k ++ p)) (sym h.kept) in
      let kept : c.framer ++ p ≡ past s.taken (s.received ++ p) = ap (λ k. k ++ p) h.kept ∙ sym (past-append s.taken s.received p h.within) in
      let within = within-append s.taken s.received p h.within in
      rw fs (all client (record s { received = s.received ++ p }) (open_on answer answers refl h.not_over h.idle_timeout h.timer kept within h.requests h.queue h.bound h.budget h))

  -- what is left to be taken, at some slate of the connection, is all that was
  abbrev pub TakesOn : OpenConnection W R F → OpenConnection W R F → Type 0
  TakesOn c l = (client : ℕ) (s : Slate) → IsOpen answer answers client c s → (t : Slate) × IsOpen answer answers client l t × (take_frames at secs (frames l.framer) t ≡ take_frames at secs (frames c.framer) s)

  pub one_more : (c l new : OpenConnection W R F) → TakesOn c l → TakesFrame answer answers at secs l new → TakesOn c new
  one_more c l new left t client s h =
      let r = left client s h in
      let u = t.goes client r.0 r.1 in (u.0, u.1, u.2 ∙ r.2)

  pub no_more : (c l new : OpenConnection W R F) (outcome : Outcome) → TakesOn c l
      → Leads answer answers l new outcome (λ s. take_frames at secs (frames l.framer) s)
      → Leads answer answers c new outcome (λ s. take_frames at secs (frames c.framer) s)
  no_more c l new outcome left f client s h =
      let r = left client s h in
      let P : Effect → Type 0 = λ t. (outputs_of client outcome ≡ t.1) × StandsIn answer answers client (state_behind (Is_open new) outcome) t.0 in
      subst P r.2 (f client r.0 r.1)

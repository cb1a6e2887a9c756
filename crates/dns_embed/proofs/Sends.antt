-- Whatever calls a caller makes of a connection, what is sent is what the rules for one client give.
use Rattle.std.proofs.Common.{◌≡◌, ℕ, List, [], ◌∷◌, ◌++◌, length, Bool, true, false, Option, Some, None, refl, ap, sym, ◌∙◌, subst, arith}
use Rattle.std.specs.Prelude.{◌==◌, ◌&&◌, nat_lt, not, slice_get, if◌then◌else◌}
use Rattle.std.specs.List.{list_any}
use Rattle.std.proofs.Math.Dec.{eqb-suc-zero}
use Rattle.circular_buffer.specs.Buffer.{Buffer, buffer}
use Rattle.dns_name.specs.declared.address.SocketAddr.{SocketAddr}
use Rattle.dns_events.specs.declared.event.Event.{Event}
use Rattle.dns_events.specs.declared.event.EventKind.{EventKind}
use Rattle.dns_events.specs.declared.event.EventKind.TheVariants.{Offer, Piece, Turn, Write, Tick, End, Fault, Close, Shutdown, Reconfigure, Release}
use Rattle.dns_events.specs.declared.event.Output.{Output}
use Rattle.dns_events.specs.declared.event.Output.TheVariants.{Frame, Closed as Closed_output}
use Rattle.dns_events.specs.declared.event.Why.{Why}
use Rattle.dns_events.specs.declared.event.Why.TheVariants.{Ended, Fault as By_fault, Idle, WriteTimeout, Commanded, Shutdown as By_shutdown}
use Rattle.dns_events.specs.declared.settings.Settings.{Settings}
use Rattle.dns_framing.specs.Budget.{rebudgeted}
use Rattle.dns_framing.specs.Config.{Connection as Config}
use Rattle.dns_framing.specs.Timers.{is_expired}
use Rattle.dns_framing.proofs.FramesLemmas.{frames_none, rest_none}
use Rattle.dns_session.specs.After.{sent_after}
use Rattle.dns_session.specs.Connections.{close, flush, flushed as flush_rest, in_transaction, released, tick, wind_up, write, written as write_rest}
use Rattle.dns_session.specs.Rule.{closed_rule, flushing_rule, in_phase, open_rule, rule}
use Rattle.dns_session.specs.Serving.{Serving}
use Rattle.dns_session.specs.Slate.{Slate, SlateRequest, Phase, Open, Flushing, Closed, conf_rule, fresh, with_conf}
use Rattle.dns_session.specs.Turns.{turn}
use Rattle.dns_session.proofs.Transactions.{none_passes}
use Rattle.dns_embed.specs.declared.connection.Connection.{Connection}
use Rattle.dns_embed.specs.declared.connection.Written.{Written}
use Rattle.dns_embed.specs.declared.connection.Written.TheVariants as Written_as
use Rattle.dns_embed.specs.Caller.{Caller, Sending, Call, FlushingCall, OpenCall, Sends, SendsAsRuled, Turns, Writes, beginning, closed, goes_on, ticked, took, wound_up, wrote, wrote_last}
use Rattle.dns_embed.specs.Connections.{WritesBy, WritesFront, closing, configured, is_idle, popped, timer_behind, unless_closing}
use Rattle.dns_embed.proofs.StandsFor.{Follows, IsFlushingFor, IsOpenFor, StandsFor, StandsIn, conf_flushing, conf_open, feeds, flushing_for, follows_closed, follows_open, goes, open_for}
use Rattle.dns_embed.proofs.TurnsFor.{turns_for}
use Rattle.dns_embed.proofs.Takes.{takes_for}

-- ---- frames that are written

-- a caller whose connection has this queue
abbrev with_items : List (List ℕ) → Caller → Caller
with_items ms k = record k { connection = record k.connection { invoker = record k.connection.invoker { queue = buffer ms k.connection.invoker.queue.capacity } } }

-- the front frame is no longer queued
popped_open : (m : List ℕ) (ms : List (List ℕ)) (t u : ℕ) (k : Caller) (s : Slate) → t ≡ u → IsOpenFor (with_items (m ∷ ms) k) s
    → IsOpenFor (record (with_items ms k) { connection = record (with_items ms k).connection { timer = t } }) (record s { queue = ms; reset_at = u })
popped_open m ms t u k s e h = record {
  here = h.here;
  client = h.client;
  addr = h.addr;
  phase = h.phase;
  is_open = h.is_open;
  shows = record { queue = ap (λ (b : Buffer (List ℕ)). buffer ms b.capacity) h.shows.queue; budget = h.shows.budget; idle_timeout = h.shows.idle_timeout };
  timer = e;
  write_timeout = h.write_timeout;
  requests = h.requests;
  transactions = h.transactions;
  few = h.few;
  taken = h.taken;
  whole = h.whole;
}

sent_frame : (m : List ℕ) (k : Caller) (s t : Slate) → k.client ≡ s.client → StandsFor k t → Follows (k, Frame k.client m ∷ []) (t, Frame s.client m ∷ [])
sent_frame m k s t e h = (ap (λ (n : ℕ). Frame n m ∷ []) e, h)

-- the timer is reset if nothing is queued any more
not_last : (n : List ℕ) (ms : List (List ℕ)) (at t : ℕ) → (if length (n ∷ ms) == 0 then at else t) ≡ t
not_last n ms at t = ap (λ (b : Bool). if b then at else t) (eqb-suc-zero (length ms))

written_for : (m : List ℕ) (ms : List (List ℕ)) (at : ℕ) (k : Caller) (s : Slate) → IsOpenFor (with_items (m ∷ ms) k) s
    → let d = record (popped (with_items (m ∷ ms) k).connection) { timer = timer_behind at (popped (with_items (m ∷ ms) k).connection) } in
    Follows (wrote Written_as.Frame (Some m) d (with_items (m ∷ ms) k)) (write_rest at m ms s)
written_for m [] at k s h =
    let l = record (with_items [] k) { connection = record (with_items [] k).connection { timer = at } } in
    sent_frame m l s (record s { queue = []; reset_at = at }) h.client (open_for l (record s { queue = []; reset_at = at }) (popped_open m [] at at k s refl h))
written_for m (n ∷ ms) at k s h =
    let t = timer_behind at (popped (with_items (m ∷ n ∷ ms) k).connection) in
    let l = record (with_items (n ∷ ms) k) { connection = record (with_items (n ∷ ms) k).connection { timer = t } } in
    let u : Slate = record s { queue = n ∷ ms } in
    sent_frame m l s u h.client (open_for l u (popped_open m (n ∷ ms) t s.reset_at k s (not_last n ms at k.connection.timer ∙ h.timer) h))

wrote_by : (m : List ℕ) (ms : List (List ℕ)) (at took : ℕ) (k : Caller) (s : Slate) (d : Connection) (w : Written) (late : Bool) → nat_lt k.connection.write_timeout took ≡ late
    → IsOpenFor (with_items (m ∷ ms) k) s → WritesBy late at (with_items (m ∷ ms) k).connection d w
    → Follows (wrote w (Some m) d (with_items (m ∷ ms) k)) (write at took (m ∷ ms) s)
wrote_by m ms at took k s d w true e h g =
    let late = ap (λ (t : ℕ). nat_lt t took) (sym h.write_timeout) ∙ e in
    let ruled : write at took (m ∷ ms) s ≡ close WriteTimeout s = ap (λ (b : Bool). if b then close WriteTimeout s else write_rest at m ms s) late in
    subst (Follows (wrote w (Some m) d (with_items (m ∷ ms) k))) (sym ruled)
    (subst (λ (x : Written). Follows (wrote x (Some m) d (with_items (m ∷ ms) k)) (close WriteTimeout s)) (sym g.0) (follows_closed WriteTimeout (with_items (m ∷ ms) k) s h.client))
wrote_by m ms at took k s d w false e h g =
    let late = ap (λ (t : ℕ). nat_lt t took) (sym h.write_timeout) ∙ e in
    let ruled : write at took (m ∷ ms) s ≡ write_rest at m ms s = ap (λ (b : Bool). if b then close WriteTimeout s else write_rest at m ms s) late in
    subst (Follows (wrote w (Some m) d (with_items (m ∷ ms) k))) (sym ruled)
    (subst (λ (x : Written). Follows (wrote x (Some m) d (with_items (m ∷ ms) k)) (write_rest at m ms s)) (sym g.0)
    (subst (λ (c : Connection). Follows (wrote Written_as.Frame (Some m) c (with_items (m ∷ ms) k)) (write_rest at m ms s)) (sym g.1) (written_for m ms at k s h)))

wrote_for : (items : List (List ℕ)) (at took : ℕ) (k : Caller) (s : Slate) (d : Connection) (w : Written) → IsOpenFor (with_items items k) s
    → WritesFront (slice_get items 0) at took (with_items items k).connection d w
    → Follows (wrote w (slice_get items 0) d (with_items items k)) (write at took items s)
wrote_for [] at took k s d w h g =
    subst (λ (x : Written). Follows (wrote x None d (with_items [] k)) (s, [])) (sym g.0)
    (subst (λ (c : Connection). Follows (goes_on c (with_items [] k)) (s, [])) (sym g.1) (follows_open (with_items [] k) [] s h))
wrote_for (m ∷ ms) at took k s d w h g = wrote_by m ms at took k s d w (nat_lt k.connection.write_timeout took) refl h g

writes_for : (at took : ℕ) (k : Caller) (s : Slate) (x : Sending) → IsOpenFor k s → Writes wrote at took k x → Follows x (write at took s.queue s)
writes_for at took k s x h g =
    let queue : k.connection.invoker.queue.items ≡ s.queue = ap (λ (b : Buffer (List ℕ)). b.items) h.shows.queue in
    subst (λ (y : Sending). Follows y (write at took s.queue s)) (sym g.3)
    (subst (λ (ms : List (List ℕ)). Follows (wrote g.1 (slice_get k.connection.invoker.queue.items 0) g.0 k) (write at took ms s)) queue
    (wrote_for k.connection.invoker.queue.items at took k s g.0 g.1 h g.2))

-- ---- one that is to be closed

flushed_for : (why : Why) (m : List ℕ) (ms : List (List ℕ)) (at : ℕ) (k : Caller) (s : Slate) → IsFlushingFor why (with_items (m ∷ ms) k) s
    → let d = record (popped (with_items (m ∷ ms) k).connection) { timer = timer_behind at (popped (with_items (m ∷ ms) k).connection) } in
    Follows (wrote_last why Written_as.Frame (Some m) d (with_items (m ∷ ms) k)) (flush_rest why m ms s)
flushed_for why m [] at k s h = (ap (λ (n : ℕ). Frame n m ∷ Closed_output n why ∷ []) h.client, refl)
flushed_for why m (n ∷ ms) at k s h =
    let d = record (popped (with_items (m ∷ n ∷ ms) k).connection) { timer = timer_behind at (popped (with_items (m ∷ n ∷ ms) k).connection) } in
    let l = record (with_items (m ∷ n ∷ ms) k) { connection = d } in
    let u : Slate = record s { queue = n ∷ ms } in
    let on : wrote_last why Written_as.Frame (Some m) d (with_items (m ∷ n ∷ ms) k) ≡ (l, Frame k.client m ∷ []) =
    ap (λ (b : Bool). if b then ((closed why (with_items (m ∷ n ∷ ms) k)).0, Frame k.client m ∷ (closed why (with_items (m ∷ n ∷ ms) k)).1) else (l, Frame k.client m ∷ [])) (eqb-suc-zero (length ms)) in
    subst (λ (x : Sending). Follows x (u, Frame s.client m ∷ [])) (sym on)
    (sent_frame m l s u h.client (flushing_for why l u (record { here = h.here; client = h.client; phase = h.phase; write_timeout = h.write_timeout; queue = refl })))

flushes_by : (why : Why) (m : List ℕ) (ms : List (List ℕ)) (at took : ℕ) (k : Caller) (s : Slate) (d : Connection) (w : Written) (late : Bool) → nat_lt k.connection.write_timeout took ≡ late
    → IsFlushingFor why (with_items (m ∷ ms) k) s → WritesBy late at (with_items (m ∷ ms) k).connection d w
    → Follows (wrote_last why w (Some m) d (with_items (m ∷ ms) k)) (flush why took (m ∷ ms) s)
flushes_by why m ms at took k s d w true e h g =
    let late = ap (λ (t : ℕ). nat_lt t took) (sym h.write_timeout) ∙ e in
    let ruled : flush why took (m ∷ ms) s ≡ close WriteTimeout s = ap (λ (b : Bool). if b then close WriteTimeout s else flush_rest why m ms s) late in
    subst (Follows (wrote_last why w (Some m) d (with_items (m ∷ ms) k))) (sym ruled)
    (subst (λ (x : Written). Follows (wrote_last why x (Some m) d (with_items (m ∷ ms) k)) (close WriteTimeout s)) (sym g.0) (follows_closed WriteTimeout (with_items (m ∷ ms) k) s h.client))
flushes_by why m ms at took k s d w false e h g =
    let late = ap (λ (t : ℕ). nat_lt t took) (sym h.write_timeout) ∙ e in
    let ruled : flush why took (m ∷ ms) s ≡ flush_rest why m ms s = ap (λ (b : Bool). if b then close WriteTimeout s else flush_rest why m ms s) late in
    subst (Follows (wrote_last why w (Some m) d (with_items (m ∷ ms) k))) (sym ruled)
    (subst (λ (x : Written). Follows (wrote_last why x (Some m) d (with_items (m ∷ ms) k)) (flush_rest why m ms s)) (sym g.0)
    (subst (λ (c : Connection). Follows (wrote_last why Written_as.Frame (Some m) c (with_items (m ∷ ms) k)) (flush_rest why m ms s)) (sym g.1) (flushed_for why m ms at k s h)))

flushes_front : (why : Why) (items : List (List ℕ)) (at took : ℕ) (k : Caller) (s : Slate) (d : Connection) (w : Written) → IsFlushingFor why (with_items items k) s
    → WritesFront (slice_get items 0) at took (with_items items k).connection d w
    → Follows (wrote_last why w (slice_get items 0) d (with_items items k)) (flush why took items s)
flushes_front why [] at took k s d w h g =
    subst (λ (x : Written). Follows (wrote_last why x None d (with_items [] k)) (s, [])) (sym g.0)
    (subst (λ (c : Connection). Follows (goes_on c (with_items [] k)) (s, [])) (sym g.1) (refl, flushing_for why (with_items [] k) s h))
flushes_front why (m ∷ ms) at took k s d w h g = flushes_by why m ms at took k s d w (nat_lt k.connection.write_timeout took) refl h g

flushes_for : (why : Why) (at took : ℕ) (k : Caller) (s : Slate) (x : Sending) → IsFlushingFor why k s → Writes (wrote_last why) at took k x → Follows x (flush why took s.queue s)
flushes_for why at took k s x h g =
    subst (λ (y : Sending). Follows y (flush why took s.queue s)) (sym g.3)
    (subst (λ (ms : List (List ℕ)). Follows (wrote_last why g.1 (slice_get k.connection.invoker.queue.items 0) g.0 k) (flush why took ms s)) h.queue
    (flushes_front why k.connection.invoker.queue.items at took k s g.0 g.1 h g.2))

-- it is to be closed, or closed at once
wound_by : (why : Why) (items : List (List ℕ)) (k : Caller) (s : Slate) → IsOpenFor (with_items items k) s → items ≡ s.queue → Follows (wound_up why (with_items items k)) (wind_up why items s)
wound_by why [] k s h e = follows_closed why (with_items [] k) s h.client
wound_by why (m ∷ ms) k s h e =
    let c = with_items (m ∷ ms) k in
    let l : Caller = record c { phase = Flushing why; connection = closing c.connection; requests = [] } in
    let t : Slate = record s { phase = Flushing why; received = []; taken = 0; requests = [] } in
    let on : wound_up why c ≡ (l, []) = ap (λ (b : Bool). if b then closed why c else (l, [])) (eqb-suc-zero (length ms)) in
    subst (λ (x : Sending). Follows x (t, [])) (sym on) (refl, record { here = refl; client = h.client; phase = refl; write_timeout = h.write_timeout; queue = e })

winds_for : (why : Why) (k : Caller) (s : Slate) (x : Sending) → IsOpenFor k s → x ≡ wound_up why k → Follows x (wind_up why s.queue s)
winds_for why k s x h g =
    let queue : k.connection.invoker.queue.items ≡ s.queue = ap (λ (b : Buffer (List ℕ)). b.items) h.shows.queue in
    subst (λ (y : Sending). Follows y (wind_up why s.queue s)) (sym g)
    (subst (λ (ms : List (List ℕ)). Follows (wound_up why k) (wind_up why ms s)) queue (wound_by why k.connection.invoker.queue.items k s h queue))

-- ---- the timer, and other configurations

swapped : (a b : Bool) → (a && b) ≡ (b && a)
swapped true true = refl
swapped true false = refl
swapped false true = refl
swapped false false = refl

ticked_by : (k : Caller) (s : Slate) (b : Bool) → IsOpenFor k s → Follows (if b then closed Idle k else (k, [])) (if b then close Idle s else (s, []))
ticked_by k s true h = follows_closed Idle k s h.client
ticked_by k s false h = follows_open k [] s h

ticks_for : (at : ℕ) (k : Caller) (s : Slate) (x : Sending) → IsOpenFor k s → x ≡ ticked at k → Follows x (tick at s)
ticks_for at k s x h g =
    let expired = is_expired k.connection.timer k.connection.invoker.idle_timeout at in
    let none : (k.connection.transactions == 0) ≡ not (list_any in_transaction s.requests) = ap (λ (n : ℕ). n == 0) h.transactions ∙ sym (none_passes in_transaction s.requests) in
    let same : is_idle at k.connection ≡ (is_expired s.reset_at s.connection.idle_timeout at && not (list_any in_transaction s.requests)) =
    ap (λ (b : Bool). (not b && (k.connection.transactions == 0)) && expired) h.is_open
    ∙ (swapped (k.connection.transactions == 0) expired
    ∙ (ap (λ (b : Bool). expired && b) none
    ∙ (ap (λ (n : ℕ). is_expired n k.connection.invoker.idle_timeout at && not (list_any in_transaction s.requests)) h.timer
    ∙ ap (λ (n : ℕ). is_expired s.reset_at n at && not (list_any in_transaction s.requests)) h.shows.idle_timeout))) in
    subst (λ (y : Sending). Follows y (tick at s)) (sym g)
    (subst (λ (b : Bool). Follows (ticked at k) (if b then close Idle s else (s, []))) same (ticked_by k s (is_idle at k.connection) h))

configures_for : (config : Config) (k : Caller) (s : Slate) (x : Sending) → IsOpenFor k s → x ≡ goes_on (unless_closing k.connection (configured config k.connection)) k
    → Follows x (record s { connection = config }, [])
configures_for config k s x h g =
    let d = configured config k.connection in
    let t : Slate = record s { connection = config } in
    subst (λ (y : Sending). Follows y (t, [])) (sym (g ∙ ap (λ (c : Connection). goes_on c k) (goes k.connection d h.is_open)))
    (follows_open (record k { connection = d }) [] t (record {
      here = h.here;
      client = h.client;
      addr = h.addr;
      phase = h.phase;
      is_open = h.is_open;
      shows = record { queue = h.shows.queue; budget = ap (rebudgeted config) h.shows.budget; idle_timeout = refl };
      timer = h.timer;
      write_timeout = refl;
      requests = h.requests;
      transactions = h.transactions;
      few = h.few;
      taken = h.taken;
      whole = h.whole;
    }))

-- ---- any event

module _ (answers : Serving) where
  turn_for : (at n : ℕ) (k : Caller) (s : Slate) (x : Sending) → IsOpenFor k s → (x.1 ≡ []) × IsOpenFor x.0 (turn answers at n (slice_get s.requests n) s)
      → Follows x (turn answers at n (slice_get s.requests n) s, [])
  turn_for at n k s x h g = (g.0, open_for x.0 (turn answers at n (slice_get s.requests n) s) g.1)

  open_step : (e : Event) (kind : EventKind) (k : Caller) (s : Slate) (x : Sending) → IsOpenFor k s → OpenCall answers e kind k x → Follows x (open_rule answers e kind s)
  open_step e (Piece o) k s x h g = takes_for e.at e.secs o k s x h g
  open_step e (Turn n) k s x h g =
      let same : slice_get k.requests n ≡ slice_get s.requests n = ap (λ (rs : List SlateRequest). slice_get rs n) h.requests in
      turn_for e.at n k s x h (turns_for answers e.at n k s (slice_get s.requests n) x refl (subst (λ (o : Option SlateRequest). Turns answers e.at n o k x) same g) h)
  open_step e (Write took) k s x h g = writes_for e.at took k s x h g
  open_step e Tick k s x h g = ticks_for e.at k s x h g
  open_step e End k s x h g = subst (λ (y : Sending). Follows y (close Ended s)) (sym g) (follows_closed Ended k s h.client)
  open_step e Fault k s x h g = subst (λ (y : Sending). Follows y (close By_fault s)) (sym g) (follows_closed By_fault k s h.client)
  open_step e Close k s x h g = winds_for Commanded k s x h g
  open_step e Shutdown k s x h g = winds_for By_shutdown k s x h g
  open_step e (Reconfigure dgram stream) k s x h g = configures_for stream.connection_config k s x h g
  open_step e _ k s x h g = subst (λ (y : Sending). Follows y (s, [])) (sym g) (follows_open k [] s h)

  flushing_step : (why : Why) (e : Event) (kind : EventKind) (k : Caller) (s : Slate) (x : Sending) → IsFlushingFor why k s → FlushingCall answers why e kind k x → Follows x (flushing_rule why kind s)
  flushing_step why e (Write took) k s x h g = flushes_for why e.at took k s x h g
  flushing_step why e Fault k s x h g = subst (λ (y : Sending). Follows y (close By_fault s)) (sym g) (follows_closed By_fault k s h.client)
  flushing_step why e _ k s x h g = subst (λ (y : Sending). Follows y (s, [])) (sym g) (refl, flushing_for why k s h)

  -- a closed connection is sent nothing, and stays closed
  closed_step : (kind : EventKind) (k : Caller) (s : Slate) (x : Sending) → k.phase ≡ Closed → s.phase ≡ Closed → x ≡ (k, []) → Follows x (closed_rule kind s)
  closed_step Release k s x here phase g =
      subst (λ (y : Sending). Follows y (released s, [])) (sym g) (refl, subst (λ (p : Phase). StandsIn p k (released s)) (sym here) phase)
  closed_step _ k s x here phase g =
      subst (λ (y : Sending). Follows y (s, [])) (sym g) (refl, subst (λ (p : Phase). StandsIn p k s) (sym here) phase)

  step : (e : Event) (p : Phase) (k : Caller) (s : Slate) (x : Sending) → k.phase ≡ p → StandsIn p k s → Call answers e p k x → Follows x (rule answers e s)
  step e Open k s x here h g =
      let met = with_conf (conf_rule e.kind s.conf) s in
      subst (Follows x) (sym (ap (λ (p : Phase). in_phase answers e p met) h.phase)) (open_step e e.kind k met x (conf_open (conf_rule e.kind s.conf) k s h) g)
  step e (Flushing why) k s x here h g =
      let met = with_conf (conf_rule e.kind s.conf) s in
      subst (Follows x) (sym (ap (λ (p : Phase). in_phase answers e p met) h.phase)) (flushing_step why e e.kind k met x (conf_flushing why (conf_rule e.kind s.conf) k s h) g)
  step e Closed k s x here h g =
      let met = with_conf (conf_rule e.kind s.conf) s in
      subst (Follows x) (sym (ap (λ (p : Phase). in_phase answers e p met) h)) (closed_step e.kind k met x here h g)
  step e _ k s x here h g = absurd h

  sends_on : (es : List Event) (k : Caller) (s : Slate) (outs : List Output) → StandsFor k s → Sends answers es k outs → outs ≡ sent_after answers s es
  sends_on [] k s outs h g = g
  sends_on (e ∷ es) k s outs h g =
      let one : Follows (g.1, g.2) (rule answers e s) = step e k.phase (record k { connection = g.0 }) s (g.1, g.2) refl (feeds g.0 k.phase k s g.4.2 h) g.5 in
      let more : g.3 ≡ sent_after answers (rule answers e s).0 es = sends_on es g.1 (rule answers e s).0 g.3 one.1 g.6 in
      g.7 ∙ (ap (λ (os : List Output). os ++ g.3) one.0 ∙ ap (λ (os : List Output). (rule answers e s).1 ++ os) more)

-- a client that was offered
begun : (at secs client : ℕ) (addr : SocketAddr) (settings : Settings) (answers : Serving)
    → let e : Event = record { at = at; secs = secs; client = client; kind = Offer addr } in
    IsOpenFor (beginning at client addr settings) (rule answers e (fresh (record { dgram = settings.dgram; stream = settings.stream; over = false }))).0
begun at secs client addr settings answers = record {
  here = refl;
  client = refl;
  addr = refl;
  phase = refl;
  is_open = refl;
  shows = record { queue = refl; budget = refl; idle_timeout = refl };
  timer = refl;
  write_timeout = refl;
  requests = refl;
  transactions = refl;
  few = omega arith;
  taken = sym (ap length (frames_none [] refl));
  whole = rest_none [] refl;
}

pub sends-as-ruled : SendsAsRuled
sends-as-ruled answers settings at secs client addr es outs g =
    let e : Event = record { at = at; secs = secs; client = client; kind = Offer addr } in
    let s = (rule answers e (fresh (record { dgram = settings.dgram; stream = settings.stream; over = false }))).0 in
    let k = beginning at client addr settings in
    sends_on answers es k s outs (open_for k s (begun at secs client addr settings answers)) g

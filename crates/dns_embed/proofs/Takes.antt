-- A frame that is taken follows the rules.
use Rattle.std.proofs.Common.{◌≡◌, ℕ, ◌+◌, ◌<◌, ◌≤◌, List, [], ◌∷◌, ◌++◌, length, drop, Bool, true, false, Option, refl, ap, sym, ◌∙◌, subst, arith, append-nil, length-append, lt-ltb}
use Rattle.std.specs.Prelude.{nat_lt, if◌then◌else◌}
use Rattle.std.proofs.lemmas.Bool.{le-ltb}
use borrow.Author.Tests.{ltb-true}
use Rattle.circular_buffer.specs.Buffer.{Buffer, buffer}
use Rattle.dns_name.specs.declared.address.SocketAddr.{SocketAddr}
use Rattle.dns_base.specs.Header.{header_of}
use Rattle.dns_base.specs.Wire.{wire}
use Rattle.dns_replies.specs.ErrorReply.{error_reply}
use Rattle.dns_events.specs.declared.event.Why.TheVariants.{Short as By_short}
use Rattle.dns_framing.specs.Budget.{Spending, spend}
use Rattle.dns_framing.specs.Frames.{behind_frames, framed, frames}
use Rattle.dns_framing.specs.Invoker.{offered}
use Rattle.dns_framing.specs.declared.invoker.ConnectionInvoker.{ConnectionInvoker}
use Rattle.dns_framing.proofs.FramesLemmas.{first-framed, frames-framed, frames_none, goes as frames_go, new_frames, rest_none, rest_some}
use Rattle.dns_session.specs.Connections.{append_frame, close, enqueue_or_drop, in_transaction, piece, room, spending, take_frames, take_request}
use Rattle.dns_session.specs.Requests.{header_size, most_requests, request_of_frame, unpolled}
use Rattle.dns_session.specs.Slate.{Slate, SlateRequest}
use Rattle.dns_session.proofs.Transactions.{one_idle, passing}
use Rattle.dns_embed.specs.declared.connection.Connection.{Connection}
use Rattle.dns_embed.specs.declared.connection.Next.{Next}
use Rattle.dns_embed.specs.declared.connection.Next.TheVariants.{Waits, Query, NoRoom, Response, Short}
use Rattle.dns_embed.specs.Caller.{Caller, Sending, Takes, closed, goes_on, took}
use Rattle.dns_embed.specs.Connections.{NextIs, SameQueue, refusing, waiting}
use Rattle.dns_embed.specs.Turned.{ShowsIn}
use Rattle.dns_embed.proofs.StandsFor.{Follows, IsOpenFor, follows_closed, follows_open}

-- of octets of whole frames, and a frame more
record Grown (o f : List ℕ) : Type 0 where
  fresh_frames : drop (length (frames o)) (frames (o ++ framed f)) ≡ f ∷ []
  count : length (frames (o ++ framed f)) ≡ length (frames o) + 1
  behind : behind_frames (o ++ framed f) ≡ []

grown : (o f : List ℕ) → behind_frames o ≡ [] → Grown o f
grown o f whole =
    let alone : framed f ++ [] ≡ framed f = append-nil (framed f) in
    let one : frames (framed f) ≡ f ∷ [] = ap frames (sym alone) ∙ (frames-framed f [] ∙ ap (λ (fs : List (List ℕ)). f ∷ fs) (frames_none [] refl)) in
    let none : behind_frames (framed f) ≡ [] = ap behind_frames (sym alone) ∙ (rest_some (framed f ++ []) f [] (first-framed f []) ∙ rest_none [] refl) in
    let by : frames (behind_frames o ++ framed f) ≡ f ∷ [] = ap (λ (l : List ℕ). frames (l ++ framed f)) whole ∙ one in
    let all : length (frames (o ++ framed f)) ≡ length (frames o ++ f ∷ []) = ap length ((frames_go o (framed f)).all ∙ ap (λ (fs : List (List ℕ)). frames o ++ fs) by) in
    let many = length-append (frames o) (f ∷ []) in
    record {
      fresh_frames = new_frames o (framed f) ∙ by;
      count = omega (arith, all, many);
      behind = (frames_go o (framed f)).left ∙ (ap (λ (l : List ℕ). behind_frames (l ++ framed f)) whole ∙ none);
    }

-- the requests that there are once a query was taken
abbrev asked_of : ℕ → SocketAddr → ℕ → ℕ → List ℕ → List SlateRequest → List SlateRequest
asked_of timeout addr at secs f rs = if nat_lt (length rs) most_requests then rs ++ unpolled (request_of_frame timeout addr at secs f) ∷ [] else rs

request_taken : (at secs : ℕ) (f : List ℕ) (s : Slate) (b : Bool)
    → (if b then record s { requests = s.requests ++ unpolled (request_of_frame s.connection.idle_timeout s.addr at secs f) ∷ [] } else s)
    ≡ record s { requests = (if b then s.requests ++ unpolled (request_of_frame s.connection.idle_timeout s.addr at secs f) ∷ [] else s.requests) }
request_taken at secs f s true = refl
request_taken at secs f s false = refl

asked_idle : (timeout : ℕ) (addr : SocketAddr) (at secs : ℕ) (f : List ℕ) (rs : List SlateRequest) (b : Bool)
    → passing in_transaction (if b then rs ++ unpolled (request_of_frame timeout addr at secs f) ∷ [] else rs) ≡ passing in_transaction rs
asked_idle timeout addr at secs f rs true = one_idle rs (request_of_frame timeout addr at secs f)
asked_idle timeout addr at secs f rs false = refl

asked_few : (timeout : ℕ) (addr : SocketAddr) (at secs : ℕ) (f : List ℕ) (rs : List SlateRequest) (b : Bool) → nat_lt (length rs) most_requests ≡ b → length rs ≤ most_requests
    → length (if b then rs ++ unpolled (request_of_frame timeout addr at secs f) ∷ [] else rs) ≤ most_requests
asked_few timeout addr at secs f rs true e h =
    let many = length-append rs (unpolled (request_of_frame timeout addr at secs f) ∷ []) in
    let below : length rs < most_requests = ltb-true (length rs) most_requests e in
    omega (arith, many, below)
asked_few timeout addr at secs f rs false e h = h

-- the slate past a frame, except for what the frame asks
abbrev past_frame : ℕ → List ℕ → Slate → Slate
past_frame at f s = record s { received = s.received ++ framed f; taken = s.taken + 1; reset_at = at }

-- what the rules do with the one frame that came
one_frame : (at secs : ℕ) (f : List ℕ) (s : Slate) → s.taken ≡ length (frames s.received) → behind_frames s.received ≡ []
    → piece at secs (framed f) s ≡ take_frames at secs (f ∷ []) (record s { received = s.received ++ framed f })
one_frame at secs f s taken whole =
    ap (λ (fs : List (List ℕ)). take_frames at secs fs (record s { received = s.received ++ framed f }))
    (ap (λ (n : ℕ). drop n (frames (s.received ++ framed f))) taken ∙ (grown s.received f whole).fresh_frames)

taken_by : (at secs : ℕ) (f : List ℕ) (s : Slate) (short qr : Bool) → nat_lt (length f) header_size ≡ short → (header_of f).qr ≡ qr
    → take_frames at secs (f ∷ []) (record s { received = s.received ++ framed f })
    ≡ (if short then close By_short (record s { received = s.received ++ framed f })
    else ((if qr then enqueue_or_drop at (framed (wire (error_reply f 1))) (past_frame at f s) else take_request at secs f (past_frame at f s)), []))
taken_by at secs f s true qr e q = rw (e) refl
taken_by at secs f s false true e q = rw (e, q) refl
taken_by at secs f s false false e q = rw (e, q) refl

module _ (at secs : ℕ) (f : List ℕ) (k : Caller) (s : Slate) (d : Connection) where
  -- of a connection that took it, and of the slate past it with other requests, queue and budget
  past_open : (rs : List SlateRequest) (queue : List (List ℕ)) (mark : Option ℕ) (spent : ℕ) → IsOpenFor k s → d.timer ≡ at → d.write_timeout ≡ k.connection.write_timeout
      → d.transactions ≡ k.connection.transactions → d.is_closing ≡ k.connection.is_closing
      → passing in_transaction rs ≡ passing in_transaction s.requests → length rs ≤ most_requests
      → ShowsIn d.invoker (record (past_frame at f s) { requests = rs; queue = queue; mark = mark; spent = spent })
      → IsOpenFor (record k { connection = d; requests = rs }) (record (past_frame at f s) { requests = rs; queue = queue; mark = mark; spent = spent })
  past_open rs queue mark spent h timer write_timeout transactions is_closing idle few shows = record {
    here = h.here;
    client = h.client;
    addr = h.addr;
    phase = h.phase;
    is_open = is_closing ∙ h.is_open;
    shows = shows;
    timer = timer;
    write_timeout = write_timeout ∙ h.write_timeout;
    requests = refl;
    transactions = transactions ∙ (h.transactions ∙ sym idle);
    few = few;
    taken = ap (λ (n : ℕ). n + 1) h.taken ∙ sym (grown s.received f h.whole).count;
    whole = (grown s.received f h.whole).behind;
  }

  query_taken : (n : ℕ) → IsOpenFor k s → SameQueue (record k.connection { timer = at }) d → (header_of f).qr ≡ false → 12 ≤ length f
      → Follows (took (Query n) at secs f d k) (piece at secs (framed f) s)
  query_taken n h same qr long =
      let b = nat_lt (length s.requests) most_requests in
      let rs = asked_of s.connection.idle_timeout s.addr at secs f s.requests in
      let t : Slate = record (past_frame at f s) { requests = rs } in
      let ruled : piece at secs (framed f) s ≡ (t, []) =
      one_frame at secs f s h.taken h.whole
      ∙ (taken_by at secs f s false false (le-ltb (length f) 12 long) qr
      ∙ ap (λ (u : Slate). (u, [])) (request_taken at secs f (past_frame at f s) b)) in
      let knows : asked_of k.connection.invoker.idle_timeout k.addr at secs f k.requests ≡ rs =
      ap (λ (x : ℕ). asked_of x k.addr at secs f k.requests) h.shows.idle_timeout
      ∙ (ap (λ (x : SocketAddr). asked_of s.connection.idle_timeout x at secs f k.requests) h.addr
      ∙ ap (λ (x : List SlateRequest). asked_of s.connection.idle_timeout s.addr at secs f x) h.requests) in
      let shows : ShowsIn d.invoker t =
      subst (λ (i : ConnectionInvoker). ShowsIn i t) (sym same.invoker) (record { queue = h.shows.queue; budget = h.shows.budget; idle_timeout = h.shows.idle_timeout }) in
      let stands = past_open rs s.queue s.mark s.spent h same.timer same.write_timeout same.transactions same.is_closing
      (asked_idle s.connection.idle_timeout s.addr at secs f s.requests b) (asked_few s.connection.idle_timeout s.addr at secs f s.requests b refl h.few) shows in
      subst (Follows (took (Query n) at secs f d k)) (sym ruled)
      (subst (λ (x : List SlateRequest). Follows (record k { connection = d; requests = x }, []) (t, [])) (sym knows) (follows_open (record k { connection = d; requests = rs }) [] t stands))

-- the answer to a response is queued, if there is room
abbrev as_shown : ConnectionInvoker → Slate → ConnectionInvoker
as_shown i s = record i { idle_timeout = s.connection.idle_timeout; budget = spending s; queue = buffer s.queue s.bound }

shown : (i : ConnectionInvoker) (s : Slate) → ShowsIn i s → i ≡ as_shown i s
shown i s h =
    ap (λ (x : Buffer (List ℕ)). record i { queue = x }) h.queue
    ∙ (ap (λ (x : Spending). record i { budget = x; queue = buffer s.queue s.bound }) h.budget
    ∙ ap (λ (x : ℕ). record i { idle_timeout = x; budget = spending s; queue = buffer s.queue s.bound }) h.idle_timeout)

refused_shown : (at : ℕ) (m : List ℕ) (i : ConnectionInvoker) (s : Slate) (space : Bool) → room at s ≡ space
    → ShowsIn (offered (record (as_shown i s) { at = at }) m) (if space then append_frame at m s else s)
refused_shown at m i s true e = rw (e) (record { queue = refl; budget = refl; idle_timeout = refl })
refused_shown at m i s false e = rw (e) (record { queue = refl; budget = refl; idle_timeout = refl })

module _ (at secs : ℕ) (f : List ℕ) (k : Caller) (s : Slate) (d : Connection) where
  refused_by : (space : Bool) → IsOpenFor k s → SameQueue (refusing at k.connection f) d
      → ShowsIn d.invoker (if space then append_frame at (framed (wire (error_reply f 1))) (past_frame at f s) else past_frame at f s)
      → IsOpenFor (record k { connection = d }) (if space then append_frame at (framed (wire (error_reply f 1))) (past_frame at f s) else past_frame at f s)
  refused_by true h same shows =
      let after = spend at (spending s) in
      subst (λ (x : List SlateRequest). IsOpenFor (record k { connection = d; requests = x }) (append_frame at (framed (wire (error_reply f 1))) (past_frame at f s))) (sym h.requests)
      (past_open at secs f k s d s.requests (s.queue ++ framed (wire (error_reply f 1)) ∷ []) after.mark after.spent h same.timer same.write_timeout same.transactions same.is_closing refl h.few shows)
  refused_by false h same shows =
      subst (λ (x : List SlateRequest). IsOpenFor (record k { connection = d; requests = x }) (past_frame at f s)) (sym h.requests)
      (past_open at secs f k s d s.requests s.queue s.mark s.spent h same.timer same.write_timeout same.transactions same.is_closing refl h.few shows)

  refused_open : (space : Bool) → room at s ≡ space → IsOpenFor k s → SameQueue (refusing at k.connection f) d
      → IsOpenFor (record k { connection = d }) (if space then append_frame at (framed (wire (error_reply f 1))) (past_frame at f s) else past_frame at f s)
  refused_open space e h same =
      let m = framed (wire (error_reply f 1)) in
      let t : Slate = past_frame at f s in
      let here : ShowsIn k.connection.invoker t = record { queue = h.shows.queue; budget = h.shows.budget; idle_timeout = h.shows.idle_timeout } in
      let shows : ShowsIn d.invoker (if space then append_frame at m t else t) =
      subst (λ (i : ConnectionInvoker). ShowsIn i (if space then append_frame at m t else t)) (sym same.invoker)
      (subst (λ (i : ConnectionInvoker). ShowsIn (offered (record i { at = at }) m) (if space then append_frame at m t else t)) (sym (shown k.connection.invoker t here))
      (refused_shown at m k.connection.invoker t space e)) in
      refused_by space h same shows

  response_taken : IsOpenFor k s → SameQueue (refusing at k.connection f) d → (header_of f).qr ≡ true → 12 ≤ length f
      → Follows (goes_on d k) (piece at secs (framed f) s)
  response_taken h same qr long =
      let t = enqueue_or_drop at (framed (wire (error_reply f 1))) (past_frame at f s) in
      let ruled : piece at secs (framed f) s ≡ (t, []) =
      one_frame at secs f s h.taken h.whole ∙ taken_by at secs f s false true (le-ltb (length f) 12 long) qr in
      subst (Follows (goes_on d k)) (sym ruled) (follows_open (record k { connection = d }) [] t (refused_open (room at s) refl h same))

  short_taken : IsOpenFor k s → length f < 12 → Follows (closed By_short k) (piece at secs (framed f) s)
  short_taken h short =
      let ruled : piece at secs (framed f) s ≡ close By_short (record s { received = s.received ++ framed f }) =
      one_frame at secs f s h.taken h.whole ∙ taken_by at secs f s true (header_of f).qr (lt-ltb (length f) 12 short) refl in
      subst (Follows (closed By_short k)) (sym ruled) (follows_closed By_short k (record s { received = s.received ++ framed f }) h.client)

  taken_as : (before after : List ℕ) (n : Next) → IsOpenFor k s → waiting k.connection ≡ f ∷ waiting d → NextIs at k.connection d before after n
      → Follows (took n at secs f d k) (piece at secs (framed f) s)
  taken_as before after Waits h first g =
      let none : f ∷ waiting d ≡ [] = sym first ∙ g.0 in
      absurd (cc)
  taken_as before after (NoRoom n) h first g =
      let more : waiting k.connection ≡ f ∷ waiting k.connection = first ∙ ap (λ (fs : List (List ℕ)). f ∷ fs) g.3.0 in
      absurd (omega (arith, ap length more))
  taken_as before after (Query n) h first g =
      let both : g.0 ∷ waiting d ≡ f ∷ waiting d = sym g.1.0 ∙ first in
      let same : g.0 ≡ f = cc in
      query_taken at secs f k s d n h g.6 (ap (λ (o : List ℕ). (header_of o).qr) (sym same) ∙ g.2.1) (subst (λ (o : List ℕ). 12 ≤ length o) same g.2.0)
  taken_as before after Response h first g =
      let both : g.0 ∷ waiting d ≡ f ∷ waiting d = sym g.1.0 ∙ first in
      let same : g.0 ≡ f = cc in
      response_taken h (subst (λ (o : List ℕ). SameQueue (refusing at k.connection o) d) same g.3)
      (ap (λ (o : List ℕ). (header_of o).qr) (sym same) ∙ g.2.1) (subst (λ (o : List ℕ). 12 ≤ length o) same g.2.0)
  taken_as before after Short h first g =
      let both : g.0 ∷ waiting d ≡ f ∷ waiting d = sym g.1.0 ∙ first in
      let same : g.0 ≡ f = cc in
      short_taken h (subst (λ (o : List ℕ). length o < 12) same g.2)

pub takes_for : (at secs : ℕ) (o : List ℕ) (k : Caller) (s : Slate) (x : Sending) → IsOpenFor k s → Takes at secs o k x → Follows x (piece at secs o s)
takes_for at secs o k s x h g =
    subst (λ (y : Sending). Follows y (piece at secs o s)) (sym g.sending)
    (subst (λ (p : List ℕ). Follows (took g.next at secs g.frame g.connection k) (piece at secs p s)) (sym g.octets)
    (taken_as at secs g.frame k s g.connection g.room g.buffer g.next h g.first g.is))

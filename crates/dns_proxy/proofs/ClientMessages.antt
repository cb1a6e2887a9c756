-- What a client's message begins: a query, or a reply that is sent at once.
use Rattle.std.proofs.Common.{◌≡◌, ◌≤◌, ◌<◌, ℕ, Bool, true, false, List, [], ◌∷◌, ◌++◌, ◌+◌, cond, refl, ap, sym, subst, ◌∙◌, Some, None, Option, Result, Ok, Err, length, lt-ltb}
use Rattle.std.specs.Prelude.{◌||◌, OnOk, nat_lt, option_map}
use Rattle.std.proofs.lemmas.List.{append-nil}
use Rattle.std.proofs.lemmas.Bool.{le-ltb}
use Rattle.dns_base.specs.Header.{header_of}
use Rattle.dns_base.specs.Msg.{Msg}
use Rattle.dns_base.specs.Wire.{wire}
use Rattle.dns_events.specs.Config.{Dgram}
use Rattle.dns_events.specs.declared.event.EventKind.TheVariants as Kind
use Rattle.dns_events.specs.declared.event.Output.{Output}
use Rattle.dns_events.specs.declared.event.Why.TheVariants as Why
use Rattle.dns_framing.proofs.FramesLemmas.{frames-framed, frames_none}
use Rattle.dns_layers.specs.Rewritten.{rewritten}
use Rattle.dns_service.specs.Answer.{Answer, Item}
use Rattle.dns_service.specs.ErrorReply.{error_reply}
use Rattle.dns_service.specs.Once.{once}
use Rattle.dns_service.specs.Req.{Req}
use Rattle.dns_service.specs.Transport.{hint_of, hinted, limit, limit_over}
use Rattle.dns_service.specs.declared.message.TransportSpecificContext.{TransportSpecificContext}
use Rattle.dns_service.specs.declared.message.TransportSpecificContext.TheVariants.{Udp, NonUdp}
use Rattle.dns_service.specs.declared.service.Polled.TheVariants.{Ready}
use Rattle.dns_session.specs.After.{sent_after}
use Rattle.dns_session.specs.Connections.{close, enqueue_or_drop, opened, take_frame, take_frames, take_request}
use Rattle.dns_session.specs.Datagrams.{asks_nothing, datagrams_to}
use Rattle.dns_session.specs.Frames.{framed, frames}
use Rattle.dns_session.specs.Requests.{header_size, unpolled}
use Rattle.dns_session.specs.Serving.{Serving, serving}
use Rattle.dns_session.specs.Slate.{Effect, Slate, fresh}
use Rattle.dns_session.specs.Turns.{answered as answered_by, limit_for, queue_reply, reply_to, retimed, sent_at_once}
use Rattle.dns_lookup.specs.declared.lookup_event.UpstreamConfig.{UpstreamConfig}
use Rattle.dns_lookup.specs.Lookups.{InDatagrams}
use Rattle.dns_lookup.specs.Stages.{IsAt}
use Rattle.dns_proxy.specs.declared.query_event.ClientMessage.{ClientMessage}
use Rattle.dns_proxy.specs.declared.query_event.ClientTransport.{ClientTransport}
use Rattle.dns_proxy.specs.declared.query_event.ClientTransport.TheVariants.{Datagram, Connection}
use Rattle.dns_proxy.specs.declared.beginning.BegunQuery.{BegunQuery}
use Rattle.dns_proxy.specs.declared.beginning.BegunQuery.TheVariants as Begun
use Rattle.dns_proxy.specs.declared.beginning.TakenMessage.{TakenMessage}
use Rattle.dns_proxy.specs.declared.beginning.TakenMessage.TheVariants as Taken_as
use Rattle.dns_proxy.specs.declared.query.Query.{Query}
use Rattle.dns_proxy.specs.Coming.{closed_by, message_of, octets_read, outputs_by, outputs_to, refused_by, request_by, request_of}
use Rattle.dns_proxy.specs.Fronts.{Fronting}
use Rattle.dns_proxy.specs.Proxied.{asked_for, event_of, running, sent_by, sent_over}
use Rattle.dns_proxy.specs.Queries.{Begins, IsAsked, Stands, Takes, front_taken, replied}

or_first : (a b : Bool) → (a || b) ≡ false → a ≡ false
or_first true b h = h
or_first false b h = refl

or_second : (a b : Bool) → (a || b) ≡ false → b ≡ false
or_second true b h = absurd (cc)
or_second false b h = h

at_once_so : (client : ℕ) (m : Option Msg) → datagrams_to client (option_map wire m) ≡ sent_at_once client m
at_once_so client None = refl
at_once_so client (Some m) = refl

pub as_request : (o : List ℕ) → 12 ≤ length o → (header_of o).qr ≡ false → asks_nothing o ≡ false
as_request o long query = let l : nat_lt (length o) header_size ≡ false = le-ltb (length o) 12 long in rw (l, query) refl

pub as_short : (o : List ℕ) → length o < 12 → asks_nothing o ≡ true
as_short o s = let l : nat_lt (length o) header_size ≡ true = lt-ltb (length o) 12 s in rw l refl

pub as_response : (o : List ℕ) → 12 ≤ length o → (header_of o).qr ≡ true → asks_nothing o ≡ true
as_response o long qr = let l : nat_lt (length o) header_size ≡ false = le-ltb (length o) 12 long in rw (l, qr) refl

module _ {F : Type 0} (after_take : F → Req (Unit {0}) → F) (dgram : Dgram) (c : ClientMessage) (front : F) where
  -- what stands before the upstreams is left by what makes no request
  pub front_left : asks_nothing (message_of c) ≡ true → front ≡ front_taken after_take dgram c front
  front_left h = sym (ap (λ (b : Bool). cond b front (after_take front (request_of dgram c))) h)

  pub front_after : (r : Req (Unit {0})) (new : F) → asks_nothing (message_of c) ≡ false → r ≡ request_of dgram c → new ≡ after_take front r → new ≡ front_taken after_take dgram c front
  front_after r new h e is = is ∙ (ap (after_take front) e ∙ sym (ap (λ (b : Bool). cond b front (after_take front (request_of dgram c))) h))

-- what was read of a message makes its request
pub request_read : (dgram : Dgram) (c : ClientMessage) (m : List ℕ) (r : Req (Unit {0})) → m ≡ message_of c → r ≡ request_by c.transport dgram c.addr c.at c.secs m → r ≡ request_of dgram c
request_read dgram c m r e is = is ∙ ap (λ (x : List ℕ). request_by c.transport dgram c.addr c.at c.secs x) e

limit_hinted : (h : Option ℕ) (t : TransportSpecificContext) → limit_over (hinted h t) (limit (hint_of (hinted h t))) ≡ limit_over t (limit h)
limit_hinted h (Udp d) = refl
limit_hinted h (NonUdp d) = refl

-- the limit of a request after its call
pub limit_left : (n : Option ℕ) (old new : Req (Unit {0})) (h : Option ℕ) (reserved : ℕ) → n ≡ limit_over new.transport (limit (hint_of new.transport)) → new ≡ record old { transport = hinted h old.transport; reserved = reserved }
    → n ≡ limit_over old.transport (limit h)
limit_left n old new h reserved e kept = e ∙ (ap (λ (x : Req (Unit {0})). limit_over x.transport (limit (hint_of x.transport))) kept ∙ limit_hinted h old.transport)

-- ---- the exchange of a datagram

module _ (f : Fronting) (dgram : Dgram) (c : ClientMessage) (i : Item) where
  datagram_short : nat_lt (length (octets_read Datagram c.octets)) header_size ≡ true → [] ≡ sent_by Datagram f dgram c i
  datagram_short l = rw l refl

  datagram_response : nat_lt (length (octets_read Datagram c.octets)) header_size ≡ false → (header_of (octets_read Datagram c.octets)).qr ≡ true
      → datagrams_to c.client (Some (refused_by Datagram dgram (octets_read Datagram c.octets))) ≡ sent_by Datagram f dgram c i
  datagram_response l qr = rw (l, qr) refl

  -- one that makes a request is sent the first answer to it
  datagram_first : nat_lt (length (octets_read Datagram c.octets)) header_size ≡ false → (header_of (octets_read Datagram c.octets)).qr ≡ false
      → sent_by Datagram f dgram c i ≡ sent_at_once c.client (reply_to (limit_for (serving (f.over i) f.hint) (request_by Datagram dgram c.addr c.at c.secs (octets_read Datagram c.octets)))
      (octets_read Datagram c.octets) (f.over i (request_by Datagram dgram c.addr c.at c.secs (octets_read Datagram c.octets)) 0))
  datagram_first l q = rw (l, q) (append-nil _)

-- ---- the exchange of a message over a connection

-- a message after its length is one frame
one_frame : (o : List ℕ) → frames (framed o) ≡ o ∷ []
one_frame o = ap frames (sym (append-nil (framed o))) ∙ (frames-framed o [] ∙ ap (λ (fs : List (List ℕ)). o ∷ fs) (frames_none [] refl))

module _ (f : Fronting) (dgram : Dgram) (c : ClientMessage) (i : Item) (idle : ℕ) where
  abbrev answers : Serving
  answers = serving (f.over i) f.hint

  -- the connection before the frame is taken, when it was counted, and with its request
  abbrev before : Slate
  before = record (opened c.client c.addr c.at (fresh (running (Connection idle) dgram))) { received = framed c.octets }

  abbrev counted : Slate
  counted = record before { taken = before.taken + 1; reset_at = c.at }

  abbrev requested : Slate
  requested = take_request c.at c.secs c.octets counted

  abbrev refused_slate : Slate
  refused_slate = enqueue_or_drop c.at (framed (wire (error_reply c.octets 1))) counted

  -- what is sent from there on
  abbrev sent_from : Effect → List Output
  sent_from e = e.1 ++ sent_after answers e.0 (event_of c (Kind.Turn 0) ∷ event_of c (Kind.Write 0) ∷ [])

  sent_taken : sent_by (Connection idle) f dgram c i ≡ sent_from (take_frames c.at c.secs (c.octets ∷ []) before)
  sent_taken = ap (λ (fs : List (List ℕ)). sent_from (take_frames c.at c.secs fs before)) (one_frame c.octets)

  sent_behind : (b : Bool) → nat_lt (length c.octets) header_size ≡ b → sent_by (Connection idle) f dgram c i ≡ sent_from (cond b (close Why.Short before) (take_frame c.at c.secs c.octets before, []))
  sent_behind b l = sent_taken ∙ ap (λ (x : Bool). sent_from (cond x (close Why.Short before) (take_frame c.at c.secs c.octets before, []))) l

  frame_short : nat_lt (length c.octets) header_size ≡ true → closed_by (Connection idle) c.client ≡ sent_by (Connection idle) f dgram c i
  frame_short l = sym (sent_behind true l)

  frame_response : nat_lt (length c.octets) header_size ≡ false → (header_of c.octets).qr ≡ true
      → outputs_by (Connection idle) c.client (Some (refused_by (Connection idle) dgram c.octets)) ≡ sent_by (Connection idle) f dgram c i
  frame_response l qr = sym (sent_behind false l ∙ ap (λ (x : Bool). sent_from (cond x refused_slate requested, [])) qr)

  -- its request, and the first answer to it
  abbrev request : Req (Unit {0})
  request = request_by (Connection idle) dgram c.addr c.at c.secs c.octets

  abbrev first : Answer
  first = f.over i request 0

  -- a reply that is queued is written
  written_so : (m : Option Msg) → sent_after answers (queue_reply c.at 0 m (answered_by first (unpolled request)) (retimed first requested)) (event_of c (Kind.Write 0) ∷ [])
      ≡ outputs_by (Connection idle) c.client (option_map wire m)
  written_so None = refl
  written_so (Some m) = refl

  frame_first : nat_lt (length c.octets) header_size ≡ false → (header_of c.octets).qr ≡ false
      → sent_by (Connection idle) f dgram c i ≡ outputs_by (Connection idle) c.client (option_map wire (reply_to None c.octets first))
  frame_first l q = sent_behind false l ∙ (ap (λ (x : Bool). sent_from (cond x refused_slate requested, [])) q ∙ written_so (reply_to None c.octets first))

-- ---- however it came

module _ (f : Fronting) (dgram : Dgram) (c : ClientMessage) (i : Item) where
  short_by : (t : ClientTransport) → nat_lt (length (octets_read t c.octets)) header_size ≡ true → closed_by t c.client ≡ sent_by t f dgram c i
  short_by Datagram l = datagram_short f dgram c i l
  short_by (Connection idle) l = frame_short f dgram c i idle l

  response_by : (t : ClientTransport) → nat_lt (length (octets_read t c.octets)) header_size ≡ false → (header_of (octets_read t c.octets)).qr ≡ true
      → outputs_by t c.client (Some (refused_by t dgram (octets_read t c.octets))) ≡ sent_by t f dgram c i
  response_by Datagram l qr = datagram_response f dgram c i l qr
  response_by (Connection idle) l qr = frame_response f dgram c i idle l qr

  -- one that makes a request is sent the first answer to it
  first_by : (t : ClientTransport) → nat_lt (length (octets_read t c.octets)) header_size ≡ false → (header_of (octets_read t c.octets)).qr ≡ false
      → sent_by t f dgram c i ≡ outputs_by t c.client (option_map wire (reply_to (limit_for (serving (f.over i) f.hint) (request_by t dgram c.addr c.at c.secs (octets_read t c.octets)))
      (octets_read t c.octets) (f.over i (request_by t dgram c.addr c.at c.secs (octets_read t c.octets)) 0)))
  first_by Datagram l q = datagram_first f dgram c i l q ∙ sym (at_once_so c.client _)
  first_by (Connection idle) l q = frame_first f dgram c i idle l q

module _ (f : Fronting) (dgram : Dgram) (c : ClientMessage) where
  -- a message that makes no request
  pub short : length (message_of c) < 12 → (asked_for f dgram c ≡ None) × ((i : Item) → closed_by c.transport c.client ≡ sent_over f dgram c i)
  short s =
      let l : nat_lt (length (message_of c)) header_size ≡ true = lt-ltb (length (message_of c)) 12 s in
      (rw l refl, λ i. short_by f dgram c i c.transport l)

  pub response : 12 ≤ length (message_of c) → (header_of (message_of c)).qr ≡ true
      → (asked_for f dgram c ≡ None) × ((i : Item) → outputs_to c (Some (refused_by c.transport dgram (message_of c))) ≡ sent_over f dgram c i)
  response long qr =
      let l : nat_lt (length (message_of c)) header_size ≡ false = le-ltb (length (message_of c)) 12 long in
      (rw (l, qr) refl, λ i. response_by f dgram c i c.transport l qr)

  -- one that makes a request is sent the first answer to it
  sent_first : (i : Item) → asks_nothing (message_of c) ≡ false
      → sent_over f dgram c i ≡ outputs_to c (option_map wire (reply_to (limit_for (serving (f.over i) f.hint) (request_of dgram c)) (message_of c) (f.over i (request_of dgram c) 0)))
  sent_first i asks = first_by f dgram c i c.transport (or_first _ _ asks) (or_second (nat_lt (length (message_of c)) header_size) _ asks)

  sent_once : (i own : Item) (n : Option ℕ) → asks_nothing (message_of c) ≡ false → f.over i (request_of dgram c) 0 ≡ once own 0 → n ≡ limit_for (serving (f.over i) f.hint) (request_of dgram c)
      → outputs_to c (replied n (message_of c) own) ≡ sent_over f dgram c i
  sent_once i own n asks h l =
      ap (λ (m : Option ℕ). outputs_to c (option_map wire (reply_to m (message_of c) (Ready (Some own))))) l
      ∙ (ap (λ (a : Answer). outputs_to c (option_map wire (reply_to (limit_for (serving (f.over i) f.hint) (request_of dgram c)) (message_of c) a))) (sym h)
      ∙ sym (sent_first i asks))

  asked_so : asks_nothing (message_of c) ≡ false → (m : Option (List ℕ)) → f.asks (request_of dgram c) ≡ m → asked_for f dgram c ≡ m
  asked_so asks m h = ap (λ (b : Bool). cond b None (f.asks (request_of dgram c))) asks ∙ h

  -- what is kept of one that is passed on
  pub passed_on : {R : Type 0} (rewriting : R → Msg → Msg) (q : Query R) (r : Req (Unit {0})) (u : UpstreamConfig) (id : ℕ) (m : List ℕ) → r ≡ request_of dgram c → q.client ≡ c.client → asks_nothing (message_of c) ≡ false
      → f.asks r ≡ Some m → ((i : Item) (k : ℕ) → f.over i r k ≡ once (rewritten (rewriting q.rule) i) k) → q.request.octets ≡ r.octets → q.request.received_secs ≡ r.received_secs → q.limit ≡ limit_over r.transport (limit (f.hint r))
      → IsAt (record { upstream = u; message = m; id = id; at = r.received_at }) (InDatagrams []) q.lookup
      → (asked_for f dgram c ≡ Some m) × Stands rewriting q (record { front = f; dgram = dgram; came = c; upstream = u; message = m; id = id; events = [] })
  passed_on rewriting q r u id m e client asks passes over octets secs l at = (
    asked_so asks (Some m) (ap f.asks (sym e) ∙ passes),
    record {
      client = client;
      octets = octets ∙ ap (λ (x : Req (Unit {0})). x.octets) e;
      secs = secs ∙ ap (λ (x : Req (Unit {0})). x.received_secs) e;
      lookup = subst (λ (x : Req (Unit {0})). IsAt (record { upstream = u; message = m; id = id; at = x.received_at }) (InDatagrams []) q.lookup) e at;
      waits = refl;
      replies = λ i. sent_once i (rewritten (rewriting q.rule) i) q.limit asks (subst (λ (x : Req (Unit {0})). f.over i x 0 ≡ once (rewritten (rewriting q.rule) i) 0) e (over i 0)) (l ∙ ap (λ (x : Req (Unit {0})). limit_over x.transport (limit (f.hint x))) e);
    },
  )

  -- and of one that is answered
  pub answered : (own : Item) (n : Option ℕ) (o : Option (List ℕ)) (r : Req (Unit {0})) → r ≡ request_of dgram c → asks_nothing (message_of c) ≡ false
      → f.asks r ≡ None → ((i : Item) (k : ℕ) → f.over i r k ≡ once own k) → n ≡ limit_over r.transport (limit (f.hint r)) → o ≡ replied n r.octets own
      → (asked_for f dgram c ≡ None) × ((i : Item) → outputs_to c o ≡ sent_over f dgram c i)
  answered own n o r e asks passes over l is = (
    asked_so asks None (ap f.asks (sym e) ∙ passes),
    λ i. ap (outputs_to c) (is ∙ ap (λ (x : Req (Unit {0})). replied n x.octets own) e)
        ∙ sent_once i own n asks (subst (λ (x : Req (Unit {0})). f.over i x 0 ≡ once own 0) e (over i 0)) (l ∙ ap (λ (x : Req (Unit {0})). limit_over x.transport (limit (f.hint x))) e),
  )

module _ {R : Type 0} (rewriting : R → Msg → Msg) (f : Fronting) (dgram : Dgram) (c : ClientMessage) (r new : Req (Unit {0})) (reserved : ℕ) (n : Option ℕ) (e : r ≡ request_of dgram c) (asks : asks_nothing (message_of c) ≡ false)
    (kept : new ≡ record r { transport = hinted (f.hint r) r.transport; reserved = reserved }) (left : n ≡ limit_over new.transport (limit (hint_of new.transport))) where
  -- a request that is passed on begins a query
  pub asks_begins : (client : ℕ) (rule : R) (m : List ℕ) (u : UpstreamConfig) (id : ℕ) (b : BegunQuery R) → client ≡ c.client → f.asks r ≡ Some m → ((i : Item) (k : ℕ) → f.over i r k ≡ once (rewritten (rewriting rule) i) k)
      → IsAsked (record { client = client; request = new; limit = n; rule = rule; message = m }) u id b → Begins rewriting f dgram c u id b
  asks_begins client rule m u id (Begun.Sent o) is passes over h = absurd h
  asks_begins client rule m u id Begun.Short is passes over h = absurd h
  asks_begins client rule m u id (Begun.Asks q octets) is passes over h =
      let same : q.request ≡ record r { transport = hinted (f.hint r) r.transport; reserved = reserved } = h.1 ∙ kept in
      let p = passed_on f dgram c rewriting q r u id m e (h.0 ∙ is) asks passes (λ i k. subst (λ (x : R). f.over i r k ≡ once (rewritten (rewriting x) i) k) (sym h.3) (over i k))
      (ap (λ (x : Req (Unit {0})). x.octets) same) (ap (λ (x : Req (Unit {0})). x.received_secs) same) (h.2 ∙ limit_left n r new (f.hint r) reserved left kept)
      (subst (λ (x : Req (Unit {0})). IsAt (record { upstream = u; message = m; id = id; at = x.received_at }) (InDatagrams []) q.lookup) kept h.4) in
      (m, p.0, h.5, p.1)

  -- and one that is answered is sent that
  pub sent_begins : (own : Item) (t : TakenMessage R) → f.asks r ≡ None → ((i : Item) (k : ℕ) → f.over i r k ≡ once own k) → t ≡ Taken_as.Sent (replied n new.octets own) → Takes rewriting f dgram c t
  sent_begins own t passes over is =
      subst (λ (x : TakenMessage R). Takes rewriting f dgram c x) (sym is)
      (λ u id. answered f dgram c own n (replied n new.octets own) r e asks passes over (limit_left n r new (f.hint r) reserved left kept) (ap (λ (x : Req (Unit {0})). replied n x.octets own) kept))

-- what holds anyway
pub on_ok : {T E P : Type 0} (r : Result T E) → P → OnOk r P
on_ok (Ok x) p = p
on_ok (Err e) p = tt

-- Each datagram that an exchange is sent answers the datagram by which it began.
use Rattle.std.proofs.Common.{◌≡◌, ℕ, ◌≤◌, Bool, true, false, List, [], ◌∷◌, ◌++◌, length, Option, Some, None, refl, ap, sym, ◌∙◌, subst, append_assoc}
use Rattle.std.specs.Prelude.{IfSome, if◌then◌else◌, ◌||◌, nat_lt, slice_get}
use Rattle.std.specs.List.{All}
use Rattle.std.proofs.lemmas.List.Elements.{All-nil, All-cons, All-set}
use Rattle.dns_name.specs.declared.address.SocketAddr.{SocketAddr}
use Rattle.dns_base.specs.Header.{header_of}
use Rattle.dns_base.specs.Msg.{Msg}
use Rattle.dns_base.specs.Wire.{wire}
use Rattle.dns_service.specs.Config.{Dgram}
use Rattle.dns_service.specs.Cut.{cut}
use Rattle.dns_service.specs.ErrorReply.{error_reply}
use Rattle.dns_service.specs.Req.{Req}
use Rattle.dns_service.specs.Transport.{hint_of, limit}
use Rattle.dns_events.specs.declared.event.Event.{Event}
use Rattle.dns_events.specs.declared.event.EventKind.TheVariants.{Datagram as Is_datagram}
use Rattle.dns_events.specs.declared.event.Output.{Output}
use Rattle.dns_events.specs.declared.event.Output.TheVariants.{Datagram}
use Rattle.dns_service.specs.declared.message.TransportSpecificContext.TheVariants.{Udp}
use Rattle.dns_session.specs.Datagrams.{at_once, cut_datagram, exchange, refused_datagram}
use Rattle.dns_session.specs.Requests.{unpolled, header_size, request_of_datagram}
use Rattle.dns_session.specs.Serving.{Serving}
use Rattle.dns_session.specs.Slate.{Slate, SlateRequest, Conf, Effect}
use Rattle.dns_session.specs.Turns.{exchange_turn, polled, sent_at_once, sent_for, with_request}
use Rattle.dns_core.specs.Out.{is_new}
use Rattle.dns_core.specs.ReplyTo.{Responds, datagram_limit, AnswersDatagram, IsReply}
use Rattle.dns_core.specs.Sent.{conf}
use Rattle.dns_events.specs.declared.settings.Settings.{Settings}
use Rattle.dns_core.proofs.Listening.{all_at}
use Rattle.dns_core.proofs.Replied.{at_least, refused_responds}

-- a request of an exchange is that of a datagram of these octets, which is no response
abbrev pub Made : Dgram → SocketAddr → Event → List ℕ → SlateRequest → Type 0
Made dgram addr e o x = (x.request ≡ request_of_datagram dgram addr e.at e.secs o) × ((header_of o).qr ≡ false)

first_made : (dgram : Dgram) (addr : SocketAddr) (e : Event) (o : List ℕ) (short qr : Bool) → (header_of o).qr ≡ qr → All (Made dgram addr e o) (if short || qr then [] else unpolled (request_of_datagram dgram addr e.at e.secs o) ∷ [])
first_made dgram addr e o true qr is = All-nil (Made dgram addr e o)
first_made dgram addr e o false true is = All-nil (Made dgram addr e o)
first_made dgram addr e o false false is = All-cons (Made dgram addr e o) (unpolled (request_of_datagram dgram addr e.at e.secs o)) [] (refl, is) (All-nil (Made dgram addr e o))

module _ (answers : Serving) (settings : Settings) where
  -- the requests of an exchange are those of the datagram by which it began, under the configuration that was in force then
  pub record Exchanges (c : ℕ) (q : List Event) (s : Slate) : Type 0 where
    pub before : List Event
    pub event : Event
    pub behind : List Event
    pub addr : SocketAddr
    pub asks : List ℕ
    pub place : q ≡ before ++ event ∷ behind
    pub client : event.client ≡ c
    pub begun : is_new answers settings before event ≡ true
    pub kind : event.kind ≡ Is_datagram addr asks
    pub requests : All (Made (conf settings before).dgram addr event (cut_datagram asks)) s.requests

  later_place : (q before behind r : List Event) (x : Event) → q ≡ before ++ x ∷ behind → q ++ r ≡ before ++ x ∷ (behind ++ r)
  later_place q before behind r x h = ap (λ (es : List Event). es ++ r) h ∙ append_assoc before (x ∷ behind) r

  pub later_exchanges : (c : ℕ) (q : List Event) (e : Event) (s : Slate) → Exchanges c q s → Exchanges c (q ++ e ∷ []) s
  later_exchanges c q e s h = record {
    before = h.before;
    event = h.event;
    behind = h.behind ++ e ∷ [];
    addr = h.addr;
    asks = h.asks;
    place = later_place q h.before h.behind (e ∷ []) h.event h.place;
    client = h.client;
    begun = h.begun;
    kind = h.kind;
    requests = h.requests;
  }

  abbrev Replies : List Event → List Output → Type 0
  Replies es outs = All (IsReply answers settings es) outs

  one_sent : (es : List Event) (c : ℕ) (x : Option Msg) (o : List ℕ) (n : ℕ) → ((m : Msg) → Responds o m → length (wire m) ≤ n → AnswersDatagram answers settings es c (wire m)) → IfSome x (Responds o) → IfSome x (λ m. length (wire m) ≤ n) → Replies es (sent_at_once c x)
  one_sent es c None o n build h k = All-nil (IsReply answers settings es)
  one_sent es c (Some m) o n build h k = All-cons (IsReply answers settings es) (Datagram c (wire m)) [] (build m h k) (All-nil (IsReply answers settings es))

  query_limit : (r : Req (Unit {0})) (size : ℕ) (b : Bool) → (header_of r.octets).qr ≡ b → b ≡ false → size ≤ limit (answers.hint r) → size ≤ datagram_limit answers r
  query_limit r size b is query h = let q : (header_of r.octets).qr ≡ false = is ∙ query in rw q h

  response_limit : (r : Req (Unit {0})) (size : ℕ) → (header_of r.octets).qr ≡ true → size ≤ limit (hint_of r.transport) → size ≤ datagram_limit answers r
  response_limit r size is h = rw is h

  -- ---- a poll

  module _ (respond : (r : Req (Unit {0})) (k : ℕ) → IfSome (sent_for answers r (answers.answer r k)) (Responds r.octets))
      (fit : (r : Req (Unit {0})) (k : ℕ) (hint : Option ℕ) → r.transport ≡ Udp hint → IfSome (sent_for answers r (answers.answer r k)) (λ m. length (wire m) ≤ limit (answers.hint r))) where
    made_sent : (c : ℕ) (q r : List Event) (s : Slate) (h : Exchanges c q s) (x : SlateRequest) (k : ℕ) → Made (conf settings h.before).dgram h.addr h.event (cut_datagram h.asks) x → Replies (q ++ r) (sent_at_once c (sent_for answers x.request (answers.answer x.request k)))
    made_sent c q r s h x k m =
        let o = cut_datagram h.asks in
        let dgram = (conf settings h.before).dgram in
        let d = request_of_datagram dgram h.addr h.event.at h.event.secs o in
        let y = sent_for answers x.request (answers.answer x.request k) in
        one_sent (q ++ r) c y o (limit (answers.hint d))
        (λ message responds fits. record {
          before = h.before;
          event = h.event;
          behind = h.behind ++ r;
          addr = h.addr;
          asks = h.asks;
          message = message;
          place = later_place q h.before h.behind r h.event h.place;
          client = h.client;
          begun = h.begun;
          kind = h.kind;
          is = refl;
          responds = responds;
          fits = query_limit d (length (wire message)) (header_of o).qr refl m.1 fits;
        })
        (subst (λ (z : Req (Unit {0})). IfSome y (Responds z.octets)) m.0 (respond x.request k))
        (subst (λ (z : Req (Unit {0})). IfSome y (λ n. length (wire n) ≤ limit (answers.hint z))) m.0 (fit x.request k dgram.max_response_size (ap (λ (z : Req (Unit {0})). z.transport) m.0)))

    -- what an exchange told, and what it is then
    pub record Polls (c : ℕ) (q : List Event) (s : Slate) (t : Effect) : Type 0 where
      pub phase : t.0.phase ≡ s.phase
      pub exchanges : Exchanges c q t.0
      pub sent : (r : List Event) → Replies (q ++ r) t.1

    stays : (c : ℕ) (q : List Event) (s : Slate) → Exchanges c q s → Polls c q s (s, [])
    stays c q s h = record { phase = refl; exchanges = h; sent = λ r. All-nil (IsReply answers settings (q ++ r)) }

    poll_case : (c : ℕ) (q : List Event) (k : ℕ) (x : SlateRequest) (s : Slate) → s.client ≡ c → (h : Exchanges c q s) → Made (conf settings h.before).dgram h.addr h.event (cut_datagram h.asks) x
        → Polls c q s (with_request k (polled (answers.answer x.request x.polls) x) s, sent_at_once s.client (sent_for answers x.request (answers.answer x.request x.polls)))
    poll_case c q k x s is h m =
        let a = answers.answer x.request x.polls in
        record {
          phase = refl;
          exchanges = record {
            before = h.before;
            event = h.event;
            behind = h.behind;
            addr = h.addr;
            asks = h.asks;
            place = h.place;
            client = h.client;
            begun = h.begun;
            kind = h.kind;
            requests = All-set (Made (conf settings h.before).dgram h.addr h.event (cut_datagram h.asks)) s.requests k (polled a x) m h.requests;
          };
          sent = λ r. subst (λ (n : ℕ). Replies (q ++ r) (sent_at_once n (sent_for answers x.request a))) (sym is) (made_sent c q r s h x x.polls m);
        }

    turn_case : (c : ℕ) (q : List Event) (k : ℕ) (x : Option SlateRequest) (s : Slate) → s.client ≡ c → (h : Exchanges c q s) → IfSome x (Made (conf settings h.before).dgram h.addr h.event (cut_datagram h.asks)) → Polls c q s (exchange_turn answers k x s)
    turn_case c q k None s is h m = stays c q s h
    turn_case c q k (Some x) s is h m =
        let a = answers.answer x.request x.polls in
        (elim x.done as (λ b. let effect : Effect = (if b then (s, []) else (with_request k (polled a x) s, sent_at_once s.client (sent_for answers x.request a))) in Polls c q s effect) [ true ↦ stays c q s h | false ↦ poll_case c q k x s is h m ])

    pub exchange_polls : (c : ℕ) (q : List Event) (k : ℕ) (s : Slate) → s.client ≡ c → Exchanges c q s → Polls c q s (exchange_turn answers k (slice_get s.requests k) s)
    exchange_polls c q k s is h = turn_case c q k (slice_get s.requests k) s is h (all_at (Made (conf settings h.before).dgram h.addr h.event (cut_datagram h.asks)) s.requests k h.requests)

  -- ---- the datagram by which an exchange begins

  pub first_exchanges : (q : List Event) (e : Event) (addr : SocketAddr) (asks : List ℕ) (s : Slate) → e.kind ≡ Is_datagram addr asks → is_new answers settings q e ≡ true → s.conf ≡ conf settings q
      → Exchanges e.client (q ++ e ∷ []) (exchange e.client addr e.at e.secs (cut_datagram asks) s)
  first_exchanges q e addr asks s kind new same =
      let o = cut_datagram asks in
      let requests = first_made s.conf.dgram addr e o (nat_lt (length o) header_size) (header_of o).qr refl in
      record {
        before = q;
        event = e;
        behind = [];
        addr = addr;
        asks = asks;
        place = refl;
        client = refl;
        begun = new;
        kind = kind;
        requests = subst (λ (d : Dgram). All (Made d addr e o) (exchange e.client addr e.at e.secs o s).requests) (ap (λ (x : Conf). x.dgram) same) requests;
      }

  module _ (cut_fits : (n : ℕ) (m : Msg) → 512 ≤ n → length (wire (cut n m)) ≤ n) where
    refused_sent : (q r : List Event) (e : Event) (addr : SocketAddr) (asks : List ℕ) → e.kind ≡ Is_datagram addr asks → is_new answers settings q e ≡ true → (header_of (cut_datagram asks)).qr ≡ true
        → AnswersDatagram answers settings (q ++ e ∷ r) e.client (wire (cut (limit (conf settings q).dgram.max_response_size) (error_reply (cut_datagram asks) 1)))
    refused_sent q r e addr asks kind new is =
        let o = cut_datagram asks in
        let dgram = (conf settings q).dgram in
        let n = limit dgram.max_response_size in
        let m = cut n (error_reply o 1) in
        record {
          before = q;
          event = e;
          behind = r;
          addr = addr;
          asks = asks;
          message = m;
          place = refl;
          client = refl;
          begun = new;
          kind = kind;
          is = refl;
          responds = refused_responds o (Some n) 1;
          fits = response_limit (request_of_datagram dgram addr e.at e.secs o) (length (wire m)) is (cut_fits n (error_reply o 1) (at_least dgram.max_response_size));
        }

    first_case : (q r : List Event) (e : Event) (addr : SocketAddr) (asks : List ℕ) (short qr : Bool) → e.kind ≡ Is_datagram addr asks → is_new answers settings q e ≡ true → (header_of (cut_datagram asks)).qr ≡ qr
        → Replies (q ++ e ∷ r) (if short then [] else (if qr then refused_datagram e.client (conf settings q).dgram (cut_datagram asks) else []))
    first_case q r e addr asks true qr kind new is = All-nil (IsReply answers settings (q ++ e ∷ r))
    first_case q r e addr asks false false kind new is = All-nil (IsReply answers settings (q ++ e ∷ r))
    first_case q r e addr asks false true kind new is =
        All-cons (IsReply answers settings (q ++ e ∷ r)) (Datagram e.client (wire (cut (limit (conf settings q).dgram.max_response_size) (error_reply (cut_datagram asks) 1)))) []
        (refused_sent q r e addr asks kind new is) (All-nil (IsReply answers settings (q ++ e ∷ r)))

    pub first_sent : (q r : List Event) (e : Event) (addr : SocketAddr) (asks : List ℕ) (s : Slate) → e.kind ≡ Is_datagram addr asks → is_new answers settings q e ≡ true → s.conf ≡ conf settings q
        → Replies (q ++ e ∷ r) (at_once e.client s.conf.dgram (cut_datagram asks))
    first_sent q r e addr asks s kind new same =
        let o = cut_datagram asks in
        subst (λ (d : Dgram). Replies (q ++ e ∷ r) (at_once e.client d o)) (ap (λ (x : Conf). x.dgram) (sym same)) (first_case q r e addr asks (nat_lt (length o) header_size) (header_of o).qr kind new refl)

-- What a server says of itself in the replies of a front, and that they fit.
use Rattle.std.proofs.Common.{◌≡◌, ◌≤◌, ◌∙◌, ℕ, Bool, true, false, List, length, Option, Some, None, Result, Ok, Err, refl, ap, sym, subst, arith, rules}
use Rattle.std.proofs.lemmas.Result.{IfOk-weaker}
use Rattle.std.specs.Prelude.{◌||◌, IfOk, if◌then◌else◌, max, nat_lt, option_map}
use Rattle.std.proofs.lemmas.List.{append-nil}
use Rattle.dns_base.specs.Header.{header_of}
use Rattle.dns_base.specs.Msg.{Msg}
use Rattle.dns_base.specs.Wire.{wire}
use Rattle.dns_cookie.specs.Cookies.{Cookie}
use Rattle.dns_events.specs.Config.{Dgram}
use Rattle.dns_events.specs.declared.settings.Settings.{Settings}
use Rattle.dns_service.specs.declared.asked.AskedOpt.{AskedOpt}
use Rattle.dns_service.specs.declared.asked.AskedOpt.TheVariants.{NoItem, One, Faulty}
use Rattle.dns_service.specs.declared.message.TransportSpecificContext.{TransportSpecificContext}
use Rattle.dns_service.specs.declared.message.TransportSpecificContext.TheVariants.{Udp, NonUdp}
use Rattle.dns_service.specs.declared.service.Polled.TheVariants.{Pending, Ready}
use Rattle.dns_service.specs.Answer.{Answer, Item, mapped}
use Rattle.dns_service.specs.Asked.{asked_of, client_size, has_item}
use Rattle.dns_service.specs.Cut.{cut, sized}
use Rattle.dns_service.specs.ErrorReply.{error_reply}
use Rattle.dns_service.specs.Errors.{rcode_of}
use Rattle.dns_service.specs.Once.{once}
use Rattle.dns_service.specs.Req.{Req}
use Rattle.dns_service.specs.Transport.{hint_of, hinted, limit, limit_over}
use Rattle.dns_layers.specs.Edns.{negotiated, transport_by}
use Rattle.dns_layers.specs.Rewritten.{rewritten}
use Rattle.dns_layers.specs.declared.refusal.Refusal.{Refusal}
use Rattle.dns_middleware.specs.Wrapped.{hint_left, left_by, refusal_of}
use Rattle.dns_layers.specs.Refusals.{size_by}
use Rattle.dns_own_opt.specs.OwnOpts.{own_rule}
use Rattle.dns_own_opt.specs.declared.rule.OwnOpt.{OwnOpt}
use Rattle.dns_reply_options.specs.ServerCookies.{cookie_for}
use Rattle.dns_udp_size.specs.UdpSizes.{classic_size, size_of}
use Rattle.dns_session.specs.Datagrams.{asks_nothing}
use Rattle.dns_session.specs.Requests.{header_size}
use Rattle.dns_session.specs.Serving.{serving}
use Rattle.dns_session.specs.Turns.{limit_for, reply_to, sent_at_once}
use Rattle.dns_proxy.specs.declared.front.Taken.{Taken}
use Rattle.dns_proxy.specs.declared.front.Taken.TheVariants.{Own, Passed}
use Rattle.dns_proxy.specs.declared.query_event.ClientMessage.{ClientMessage}
use Rattle.dns_proxy.specs.declared.query_event.ClientTransport.{ClientTransport}
use Rattle.dns_proxy.specs.declared.query_event.ClientTransport.TheVariants.{Datagram, Connection}
use Rattle.dns_proxy.specs.Coming.{message_of, octets_read, request_by, request_of}
use Rattle.dns_proxy.specs.Fronts.{Fronting, IsTaken, fronting}
use Rattle.dns_proxy.specs.Proxied.{sent_by, sent_over}
use Rattle.dns_fronts.specs.declared.server_post.ServerPost.{ServerPost}
use Rattle.dns_fronts.specs.declared.server_post.ServerRule.{ServerRule}
use Rattle.dns_fronts.specs.ServerReplies.{AreWithin, behind, post_of, served, server_by, server_rule, sized_request, taken_behind}
use Rattle.dns_fronts.proofs.LayerDecisions.{mapped-once}

-- ---- how a request is taken

-- two rules, one after the other, are one
composed : (f g : Msg → Msg) (m : Option Msg) → option_map f (option_map g m) ≡ option_map (λ x. f (g x)) m
composed f g None = refl
composed f g (Some m) = refl

rewritten-twice : (f g : Msg → Msg) (i : Item) → rewritten f (rewritten g i) ≡ rewritten (λ m. f (g m)) i
rewritten-twice f g (Ok given) = ap (λ (m : Option Msg). let i : Item = Ok (record given { response = m }) in i) (composed f g given.response)
rewritten-twice f g (Err error) = refl

module _ {R : Type 0} (rewriting : R → Msg → Msg) (over : Item → ℕ → Answer) (asks : Option (List ℕ)) (post : ServerPost) where
  behind-taken : (t : Taken R) → IsTaken rewriting over asks t
      → IsTaken (behind rewriting) (λ i k. mapped (rewritten (server_by post)) (over i k)) asks (taken_behind post t)
  behind-taken (Own item) h = (h.0, λ i k. ap (mapped (rewritten (server_by post))) (h.1 i k) ∙ mapped-once (rewritten (server_by post)) item k)
  behind-taken (Passed rule message) h = (
    h.0,
    λ i k.
        ap (mapped (rewritten (server_by post))) (h.1 i k)
        ∙ (mapped-once (rewritten (server_by post)) (rewritten (rewriting rule) i) k
        ∙ ap (λ (x : Item). once x k) (rewritten-twice (server_by post) (rewriting rule) i)),
  )

limit-hinted : (h : Option ℕ) (t : TransportSpecificContext) → limit_over (hinted h t) (limit (hint_of (hinted h t))) ≡ limit_over t (limit h)
limit-hinted h (Udp d) = refl
limit-hinted h (NonUdp d) = refl

-- what the replies say by the hint that a request has after the call of the front inside
post-left : (cookie : Option Cookie) (opt : OwnOpt) (q new : Req (Unit {0})) (h : Option ℕ) (reserved : ℕ) → new ≡ record q { transport = hinted h q.transport; reserved = reserved }
    → post_of cookie opt (limit_over new.transport (limit (hint_of new.transport))) ≡ post_of cookie opt (limit_over q.transport (limit h))
post-left cookie opt q new h reserved kept =
    ap (λ (x : Req (Unit {0})). post_of cookie opt (limit_over x.transport (limit (hint_of x.transport)))) kept ∙ ap (post_of cookie opt) (limit-hinted h q.transport)

-- the whole step, by what each of its calls ensures
pub taken-so : {R E : Type 0} (rewriting : R → Msg → Msg) (over : Item → Req (Unit {0}) → ℕ → Answer) (hint : Req (Unit {0}) → Option ℕ) (asks : Req (Unit {0}) → Option (List ℕ)) (size : ℕ) (secret : Option (List ℕ))
    (r q new : Req (Unit {0})) (reserved : ℕ) (cookie : Option Cookie) (opt : OwnOpt) (post : ServerPost) (t : Taken R) (result : Result (Taken (ServerRule R)) E) → q ≡ sized_request r
    → IsTaken rewriting (λ i. over i q) (asks q) t
    → new ≡ record q { transport = hinted (hint q) q.transport; reserved = reserved }
    → cookie ≡ cookie_for secret q
    → opt ≡ own_rule size q.octets
    → post ≡ post_of cookie opt (limit_over new.transport (limit (hint_of new.transport)))
    → IfOk result (λ x. x ≡ taken_behind post t)
    → IfOk result (IsTaken (behind rewriting) (λ i. served size secret hint (over i) (sized_request r)) (asks (sized_request r)))
taken-so {R} {E} rewriting over hint asks size secret r q new reserved cookie opt post t result so taken left cookied stated posted given =
    let n : Option ℕ = limit_over q.transport (limit (hint q)) in
    let rule : ServerPost = server_rule size secret (hint q) q in
    let e : post ≡ rule =
    posted
    ∙ (post-left cookie opt q new (hint q) reserved left
    ∙ (ap (λ (x : Option Cookie). post_of x opt n) cookied ∙ ap (λ (x : OwnOpt). post_of (cookie_for secret q) x n) stated)) in
    subst (λ (x : Req (Unit {0})). IfOk result (IsTaken (behind rewriting) (λ i. served size secret hint (over i) x) (asks x))) so
    (IfOk-weaker result _ _ (λ x is.
    subst (IsTaken (behind rewriting) (λ i. served size secret hint (over i) q) (asks q)) (sym (is ∙ ap (λ (p : ServerPost). taken_behind p t) e))
    (behind-taken rewriting (λ i. over i q) (asks q) rule t taken)) given)

-- ---- 512 octets without an OPT record

no-size : (opt : AskedOpt) → has_item opt ≡ false → client_size opt ≡ None
no-size NoItem h = refl
no-size (One r) h = absurd (cc)
no-size (Faulty first) h = absurd (cc)

classic-so : (opt : AskedOpt) → has_item opt ≡ false → classic_size opt ≡ Some 512
classic-so NoItem h = refl
classic-so (One r) h = absurd (cc)
classic-so (Faulty first) h = absurd (cc)

negotiated-classic : (h : Option ℕ) → max 512 (negotiated h 512) ≡ 512
negotiated-classic None = refl
negotiated-classic (Some n) = omega arith

limit-classic : (t : TransportSpecificContext) → limit (hint_of (transport_by (Some 512) t)) ≡ 512
limit-classic (Udp h) = negotiated-classic h
limit-classic (NonUdp idle) = refl

-- the layers leave a request without an OPT record its hint
left-so : (s : Settings) (q : Req (Unit {0})) (refused : Option Refusal) → size_by s (asked_of q.octets) ≡ None → left_by refused s q ≡ hint_of q.transport
left-so s q (Some x) none = refl
left-so s q None none = ap (λ (size : Option ℕ). hint_of (transport_by size q.transport)) none

unsized : (on : Bool) (size : Option ℕ) → size ≡ None → (if on then size else None) ≡ None
unsized true size h = h
unsized false size h = refl

pub classic-limit : (s : Settings) (r : Req (Unit {0})) → has_item (asked_of r.octets).opt ≡ false → limit (hint_left s (sized_request r)) ≡ 512
classic-limit s r h =
    let q = sized_request r in
    let none : size_by s (asked_of q.octets) ≡ None = unsized s.edns (client_size (asked_of r.octets).opt) (no-size (asked_of r.octets).opt h) in
    ap limit (left-so s q (refusal_of s q) none)
    ∙ (ap (λ (size : Option ℕ). limit (hint_of (transport_by size r.transport))) (classic-so (asked_of r.octets).opt h)
    ∙ limit-classic r.transport)

-- ---- what is sent fits

at-least : (h : Option ℕ) → 512 ≤ limit h
at-least None = search arith
at-least (Some h) = search arith

module _ (fits : (n : ℕ) (m : Msg) → 512 ≤ n → length (wire (cut n m)) ≤ n) where
  cut-fits : (h : Option ℕ) (m : Msg) → length (wire (sized (Some (limit h)) m)) ≤ limit h
  cut-fits h m = fits (limit h) m (at-least h)

  module _ (h : Option ℕ) (o : List ℕ) (client : ℕ) (post : ServerPost) (is : post.limit ≡ Some (limit h)) where
    made-fits : (m : Msg) → length (wire (server_by post m)) ≤ limit h
    made-fits m = rw is (cut-fits h _)

    sent-message : (m : Option Msg) → AreWithin (limit h) (sent_at_once client (option_map (server_by post) m))
    sent-message None = tt
    sent-message (Some m) = (made-fits m, tt)

    sent-item : (i : Item) → AreWithin (limit h) (sent_at_once client (reply_to (Some (limit h)) o (Ready (Some (rewritten (server_by post) i)))))
    sent-item (Ok given) = sent-message given.response
    sent-item (Err error) = (cut-fits h (error_reply o (rcode_of error)), tt)

    sent-answer : (a : Answer) → AreWithin (limit h) (sent_at_once client (reply_to (Some (limit h)) o (mapped (rewritten (server_by post)) a)))
    sent-answer Pending = tt
    sent-answer (Ready None) = tt
    sent-answer (Ready (Some i)) = sent-item i

  or-first : (a b : Bool) → (a || b) ≡ false → a ≡ false
  or-first true b h = h
  or-first false b h = refl

  or-second : (a b : Bool) → (a || b) ≡ false → b ≡ false
  or-second true b h = absurd (cc)
  or-second false b h = h

  -- a datagram that makes a request is sent the first answer to it
  sent-first : (f : Fronting) (dgram : Dgram) (c : ClientMessage) (i : Item) → asks_nothing (octets_read Datagram c.octets) ≡ false
      → let r = request_by Datagram dgram c.addr c.at c.secs (octets_read Datagram c.octets) in
      sent_by Datagram f dgram c i ≡ sent_at_once c.client (reply_to (limit_for (serving (f.over i) f.hint) r) (octets_read Datagram c.octets) (f.over i r 0))
  sent-first f dgram c i asks =
      let o = octets_read Datagram c.octets in
      let l : nat_lt (length o) header_size ≡ false = or-first (nat_lt (length o) header_size) (header_of o).qr asks in
      let q : (header_of o).qr ≡ false = or-second (nat_lt (length o) header_size) (header_of o).qr asks in
      rw (l, q) (append-nil _)

  -- what stands after a rule whose limit is that of the hint
  module _ (size : ℕ) (secret : Option (List ℕ)) (hint : Req (Unit {0}) → Option ℕ) (over : Item → Req (Unit {0}) → ℕ → Answer) (asks : Req (Unit {0}) → Option (List ℕ)) where
    abbrev served_front : Fronting
    served_front = fronting (λ i r. served size secret hint (over i) (sized_request r)) (λ r. hint (sized_request r)) asks

    limit-sized : (n : Option ℕ) (t : TransportSpecificContext) (h : Option ℕ) → limit_over (transport_by n t) (limit h) ≡ limit_over t (limit h)
    limit-sized None t h = refl
    limit-sized (Some n) (Udp d) h = refl
    limit-sized (Some n) (NonUdp d) h = refl

    datagram-fits : (dgram : Dgram) (c : ClientMessage) (i : Item) → asks_nothing (octets_read Datagram c.octets) ≡ false
        → AreWithin (limit (hint (sized_request (request_by Datagram dgram c.addr c.at c.secs (octets_read Datagram c.octets))))) (sent_by Datagram served_front dgram c i)
    datagram-fits dgram c i query =
        let r = request_by Datagram dgram c.addr c.at c.secs (octets_read Datagram c.octets) in
        let q = sized_request r in
        let h : Option ℕ = hint q in
        let is : limit_over q.transport (limit h) ≡ Some (limit h) = limit-sized (size_of r) r.transport h in
        subst (AreWithin (limit h)) (sym (sent-first served_front dgram c i query))
        (sent-answer h (octets_read Datagram c.octets) c.client (server_rule size secret h q) is (over i q 0))

    fits-by : (dgram : Dgram) (c : ClientMessage) (i : Item) (t : ClientTransport) → t ≡ Datagram → asks_nothing (octets_read t c.octets) ≡ false
        → AreWithin (limit (hint (sized_request (request_by t dgram c.addr c.at c.secs (octets_read t c.octets))))) (sent_by t served_front dgram c i)
    fits-by dgram c i Datagram is query = datagram-fits dgram c i query
    fits-by dgram c i (Connection idle) is query = absurd (cc)

    pub sent-fits : (dgram : Dgram) (c : ClientMessage) (i : Item) → c.transport ≡ Datagram → asks_nothing (message_of c) ≡ false
        → AreWithin (limit (hint (sized_request (request_of dgram c)))) (sent_over served_front dgram c i)
    sent-fits dgram c i is query = fits-by dgram c i c.transport is query

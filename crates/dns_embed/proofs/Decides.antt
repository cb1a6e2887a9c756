-- What is done as the layers decided is what they answer.
use Rattle.std.proofs.Common.{zero, suc, refl, ap, ◌≡◌, ◌≤◌, [], ◌∷◌, ℕ, List, length, Bool, true, false, Option, Some, None, option_map, ◌∙◌, sym, subst, Result, Ok, Err, IfOk}
use Rattle.std.specs.Prelude.{nat_lt, unwrap_or}
use Rattle.std.proofs.lemmas.Bool.{le-ltb}
use Rattle.dns_name.specs.declared.address.SocketAddr.{SocketAddr}
use Rattle.dns_name.specs.declared.error.OutOfMemory.{OutOfMemory}
use Rattle.dns_message.specs.declared.header.Header.{Header}
use Rattle.dns_base.specs.Header.{header_of}
use Rattle.dns_base.specs.Msg.{Msg}
use Rattle.dns_events.specs.declared.settings.Settings.{Settings}
use Rattle.dns_service.specs.declared.asked.Asked.{Asked}
use Rattle.dns_service.specs.declared.message.TransportSpecificContext.{TransportSpecificContext}
use Rattle.dns_service.specs.declared.message.TransportSpecificContext.TheVariants.{Udp, NonUdp}
use Rattle.dns_service.specs.declared.service.Polled.TheVariants.{Pending, Ready}
use Rattle.dns_service.specs.Answer.{Answer, mapped}
use Rattle.dns_service.specs.Asked.{asked_of}
use Rattle.dns_service.specs.Once.{once}
use Rattle.dns_service.specs.Req.{Req}
use Rattle.dns_service.specs.Transport.{hinted, limit}
use Rattle.dns_layers.specs.declared.notice.Notice.{Notice}
use Rattle.dns_layers.specs.declared.notifiable.NotifyError.{NotifyError}
use Rattle.dns_layers.specs.declared.refusal.Refusal.{Refusal}
use Rattle.dns_layers.specs.declared.refusal.Refusal.TheVariants.{ByMandatory, ByEdns}
use Rattle.dns_layers.specs.Cookies.{cookie_own}
use Rattle.dns_layers.specs.Notify.{notice_of}
use Rattle.dns_layers.specs.Refusals.{first_some}
use Rattle.dns_layers.specs.Rewritten.{own_reply, reply, rewritten}
use Rattle.dns_middleware.specs.Wrapped.{Gate, Outer, Inner, Ask as AskTarget, Pass, by_gate, gate, hint_left, passed, refusal_of, refused_gate, request_limit}
use Rattle.dns_decide.specs.declared.decision.Decision.{Decision}
use Rattle.dns_decide.specs.Decided.{decided, is_pass, is_passed}
use Rattle.dns_embed.specs.declared.action.Action.{Action}
use Rattle.dns_embed.specs.declared.action.Action.TheVariants.{Nothing, Reply, Ask}
use Rattle.dns_embed.specs.declared.rule.ReplyRule.{ReplyRule}
use Rattle.dns_embed.specs.declared.verdict.KnownVerdict.{KnownVerdict}
use Rattle.dns_session.specs.Datagrams.{asks_nothing}
use Rattle.dns_session.specs.Requests.{header_size}
use Rattle.dns_embed.specs.Embedded.{ByResponse, IsAsked, IsDecided, IsExchanged, IsExchangedBy, IsTakenAs, always, answers, at_once, request_of, rewrite_by, rule_left, rule_of, rule_with}

-- whatever is asked is answered: the service that is pending shows that a request isn't passed on, and the others have a reply
gated : (s : Settings) (v : Result (Unit {0}) NotifyError) (r : Req (Unit {0})) (n : ℕ) (g : Gate (Unit {0}))
    → ((svc : Req (Unit {0}) → ℕ → Answer) (k : ℕ) → by_gate s svc (always v) n r g k ≡ Ready None) → ⊥
gated s v r n (Outer m) h = cc (h (λ q k. Pending) 0)
gated s v r n (Inner m) h = cc (h (λ q k. Pending) 0)
gated s v r n (AskTarget notice) h = cc (h (λ q k. Pending) 0)
gated s v r n (Pass q) h = cc (h (λ q k. Pending) 0)

never-nothing : (s : Settings) (v : Result (Unit {0}) NotifyError) (r : Req (Unit {0}))
    → ((svc : Req (Unit {0}) → ℕ → Answer) (k : ℕ) → answers s v svc r k ≡ Ready None) → ⊥
never-nothing s v r h = gated s v r (request_limit s r) (gate s r) h

-- the first case that fits, of those that there are
abbrev gate_by : List ℕ → Option Refusal → Option Msg → Option Notice → Req (Unit {0}) → Gate (Unit {0})
gate_by o refused own notice q = unwrap_or (first_some (option_map (refused_gate o) refused ∷ option_map Inner own ∷ option_map AskTarget notice ∷ [])) (Pass q)

passes-gate : (o : List ℕ) (refused : Option Refusal) (own : Option Msg) (notice : Option Notice) (q : Req (Unit {0}))
    → is_pass (gate_by o refused own notice q) ≡ true → gate_by o refused own notice q ≡ Pass q
passes-gate o (Some (ByMandatory code)) own notice q h = cc
passes-gate o (Some (ByEdns code)) own notice q h = cc
passes-gate o None (Some m) notice q h = cc
passes-gate o None None (Some n) q h = cc
passes-gate o None None None q h = refl

-- a request that is passed on is answered by the service, rewritten by its rule
passed-asked : (s : Settings) (v : Result (Unit {0}) NotifyError) (r : Req (Unit {0})) → is_pass (gate s r) ≡ true → IsAsked s v r (rule_of s r)
passed-asked s v r h svc k =
    ap (λ (g : Gate (Unit {0})). by_gate s svc (always v) (request_limit s r) r g k)
    (passes-gate r.octets (refusal_of s r) (cookie_own s.cookies s.denied r) (notice_of r) (passed s r) h)

-- the hint that is left gives the rule of the request
left-rule : (on : Bool) (t : TransportSpecificContext) (hint : Option ℕ) (a : Asked) → rule_left on (hinted hint t) a ≡ rule_with on t (limit hint) a
left-rule on (Udp before) hint a = refl
left-rule on (NonUdp timeout) hint a = refl

pub taken-decided : (s : Settings) (v : Result (Unit {0}) NotifyError) (r q : Req (Unit {0})) (d : Decision KnownVerdict) (taken : Result Action OutOfMemory)
    → ((svc : Req (Unit {0}) → ℕ → Answer) (k : ℕ) → decided at_once (svc (passed s r)) d k ≡ answers s v svc r k)
    → is_passed d ≡ is_pass (gate s r)
    → q ≡ record r { transport = hinted (hint_left s r) r.transport; reserved = q.reserved }
    → asks_nothing r.octets ≡ false → IfOk taken (IsTakenAs s.edns q d) → IfOk taken (IsDecided s v r)
taken-decided s v r q d (Ok Nothing) a p e asks t = absurd (never-nothing s v r (λ svc k. sym (a svc k) ∙ t (svc (passed s r)) k))
taken-decided s v r q d (Ok (Reply b)) a p e asks t = (asks, λ svc k. sym (a svc k) ∙ t (svc (passed s r)) k)
taken-decided s v r q d (Ok (Ask rule)) a p e asks t =
    let same : rule ≡ rule_of s r =
    t.1
    ∙ ap (λ (x : Req (Unit {0})). rule_left s.edns x.transport (asked_of x.octets)) e
    ∙ left-rule s.edns r.transport (hint_left s r) (asked_of r.octets) in
    (asks, same, subst (IsAsked s v r) (sym same) (passed-asked s v r (sym p ∙ t.0)))
taken-decided s v r q d (Err e) a p l asks t = tt

-- a reply that is given once is rewritten once
rewritten-once : (f : Msg → Msg) (m : Msg) (k : ℕ) → mapped (rewritten f) (once (reply m) k) ≡ own_reply (f m) k
rewritten-once f m zero = refl
rewritten-once f m (suc k) = refl

pub asked-rewritten : (s : Settings) (v : Result (Unit {0}) NotifyError) (r : Req (Unit {0})) (rule : ReplyRule) (m : Msg) (svc : Req (Unit {0}) → ℕ → Answer)
    → IsDecided s v r (Ask rule) → ((k : ℕ) → svc (passed s r) k ≡ once (reply m) k) → (k : ℕ) → answers s v svc r k ≡ own_reply (rewrite_by rule m) k
asked-rewritten s v r rule m svc d gives k = d.2 svc k ∙ ap (mapped (rewritten (rewrite_by rule))) (gives k) ∙ rewritten-once (rewrite_by rule) m k

-- what is decided about a query is done about the datagram that it came in
exchanged : (s : Settings) (v : Result (Unit {0}) NotifyError) (r : Req (Unit {0})) (taken : Result Action OutOfMemory)
    → (header_of r.octets).qr ≡ false → nat_lt (length r.octets) header_size ≡ false → IfOk taken (IsDecided s v r) → IfOk taken (IsExchangedBy s v r)
exchanged s v r (Ok Nothing) qr long d =
    let e : asks_nothing r.octets ≡ false = rw (long, qr) refl in
    cc
exchanged s v r (Ok (Reply b)) qr long d = (long, subst (λ (x : Bool). ByResponse x s v r b) (sym qr) d.1)
exchanged s v r (Ok (Ask rule)) qr long d = d
exchanged s v r (Err e) qr long d = tt

pub datagram-exchanged : (s : Settings) (v : Result (Unit {0}) NotifyError) (addr : SocketAddr) (at secs : ℕ) (hint : Option ℕ) (m o : List ℕ) (h : Header)
    (taken : Result Action OutOfMemory) → hint ≡ s.dgram.max_response_size → m ≡ o → h ≡ header_of m → h.qr ≡ false → 12 ≤ length m
    → IfOk taken (IsDecided s v (request_of (record { addr = addr; at = at; secs = secs; transport = Udp hint }) m)) → IfOk taken (IsExchanged s v addr at secs o)
datagram-exchanged s v addr at secs hint m o h taken eh em is eq long d =
    let qr : (header_of m).qr ≡ false = ap (λ (x : Header). x.qr) (sym is) ∙ eq in
    let r = request_of (record { addr = addr; at = at; secs = secs; transport = Udp hint }) m in
    let here : IfOk taken (IsExchangedBy s v r) = exchanged s v r taken qr (le-ltb (length m) 12 long) d in
    subst (λ (y : List ℕ). IfOk taken (IsExchanged s v addr at secs y)) em
    (subst (λ (x : Option ℕ). IfOk taken (IsExchangedBy s v (request_of (record { addr = addr; at = at; secs = secs; transport = Udp x }) m))) eh here)

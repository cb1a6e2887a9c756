-- What the service in its layers answers, by what a call finds and makes on its way.
use Rattle.std.proofs.Common.{◌≡◌, ◌∙◌, sym, ℕ, [], ◌∷◌, Option, Some, None, option_map, Result, Ok, Err, IfOk, refl, ap}
use Rattle.std.specs.Prelude.{unwrap_or}
use Rattle.dns_base.specs.Built.{Built}
use Rattle.dns_base.specs.Msg.{Msg}
use Rattle.dns_service.specs.declared.asked.Asked.{Asked}
use Rattle.dns_service.specs.declared.message.TransportSpecificContext.{TransportSpecificContext}
use Rattle.dns_service.specs.Answer.{Answer, mapped}
use Rattle.dns_service.specs.Asked.{asked_of}
use Rattle.dns_service.specs.Given.{message_in}
use Rattle.dns_service.specs.Req.{Req}
use Rattle.dns_service.specs.Transport.{hint_of, limit}
use Rattle.dns_layers.specs.declared.notice.Notice.{Notice}
use Rattle.dns_layers.specs.declared.refusal.Refusal.{Refusal}
use Rattle.dns_events.specs.declared.settings.Settings.{Settings}
use Rattle.dns_middleware.specs.declared.wrap_post.WrapPost.{WrapPost}
use Rattle.dns_layers.specs.Cookies.{cookie_own}
use Rattle.dns_layers.specs.Edns.{passed_by, transport_by}
use Rattle.dns_layers.specs.Notify.{PolledVerdict, notice_of, notify_by}
use Rattle.dns_layers.specs.Refusals.{first_some, refusal_by, size_by}
use Rattle.dns_layers.specs.Rewritten.{own_reply, rewritten}
use Rattle.dns_middleware.specs.Wrapped.{Inner, Ask, Pass, by_gate, left_by, passed, refusal_of, refused_gate, replies}
use Rattle.dns_middleware.specs.WrappedCalls.{gate_past, inner_gate}
use Rattle.dns_middleware.specs.WrappedStreams.{wrap_by, wrap_rule}

-- the rule for the replies to a request that leaves this hint
abbrev pub rule_for : {Meta : Type 0} → Settings → Req Meta → Option ℕ → WrapPost
rule_for s r h = wrap_rule s.edns r.transport (limit h) (asked_of r.octets)

-- the rule that is made of what was read of a request
pub rule-made : {Meta : Type 0} → (s : Settings) (r : Req Meta) (t : TransportSpecificContext) (a : Asked) (made left : Option ℕ) (post : WrapPost)
    → t ≡ r.transport → a ≡ asked_of r.octets → made ≡ left → post ≡ wrap_rule s.edns t (limit made) a → post ≡ rule_for s r left
rule-made s r t a made left post et ea eh e =
    e
    ∙ ap (λ (x : TransportSpecificContext). wrap_rule s.edns x (limit made) a) et
    ∙ ap (λ (x : Option ℕ). wrap_rule s.edns r.transport (limit x) a) eh
    ∙ ap (wrap_rule s.edns r.transport (limit left)) ea

-- the client's size, by what was read of a request
pub size-read : {Meta : Type 0} → (s : Settings) (r : Req Meta) (a : Asked) (size : Option ℕ) → a ≡ asked_of r.octets → size ≡ size_by s a → size ≡ size_by s (asked_of r.octets)
size-read s r a size ea e = e ∙ ap (size_by s) ea

-- the rule for the replies to a request that is passed on
pub rule-passed : {Meta : Type 0} → (s : Settings) (r : Req Meta) (t : TransportSpecificContext) (a : Asked) (size hint : Option ℕ) (post : WrapPost)
    → t ≡ r.transport → a ≡ asked_of r.octets → size ≡ size_by s (asked_of r.octets) → hint ≡ hint_of (transport_by size t) → post ≡ wrap_rule s.edns t (limit hint) a → post ≡ rule_for s r (hint_of (passed s r).transport)
rule-passed s r t a size hint post et ea es eh e =
    let left : hint ≡ hint_of (passed s r).transport =
    eh
    ∙ ap (λ (x : Option ℕ). hint_of (transport_by x t)) es
    ∙ ap (λ (x : TransportSpecificContext). hint_of (transport_by (size_by s (asked_of r.octets)) x)) et in
    rule-made s r t a hint (hint_of (passed s r).transport) post et ea left e

-- what is refused, by what was read of a request
pub refusal-read : {Meta : Type 0} → (s : Settings) (r : Req Meta) (t : TransportSpecificContext) (a : Asked) (refused : Option Refusal)
    → t ≡ r.transport → a ≡ asked_of r.octets → refused ≡ refusal_by s t a → refused ≡ refusal_of s r
refusal-read s r t a refused et ea e = e ∙ ap (λ (x : TransportSpecificContext). refusal_by s x a) et ∙ ap (refusal_by s r.transport) ea

-- the cookie layer has no reply
no-message : (f : Msg → Msg) (own : Option Msg) → None ≡ option_map f own → None ≡ own
no-message f None e = refl
no-message f (Some m) e = absurd (cc)

pub no-own : (f : Msg → Msg) (own : Option Msg) (found : Option Built) → message_in found ≡ option_map f own → found ≡ None → None ≡ own
no-own f own found e is = no-message f own (sym (ap message_in is) ∙ e)

-- the cookie layer has this reply
own-known : {Meta : Type 0} → (s : Settings) (svc : Req Meta → ℕ → Answer) (tgt : Notice → ℕ → PolledVerdict) (r : Req Meta) (k : ℕ) (post : WrapPost) (m : Msg) (own : Option Msg)
    → own ≡ cookie_own s.cookies s.denied r → Some m ≡ option_map (wrap_by post) own → post ≡ rule_for s r (hint_of (passed s r).transport)
    → own_reply m k ≡ by_gate s svc tgt (limit (hint_of (passed s r).transport)) r (inner_gate s r) k
own-known s svc tgt r k post m None is e p = absurd (cc)
own-known s svc tgt r k post m (Some x) is e p =
    let rewrite : m ≡ wrap_by post x = cc in
    ap (λ (y : Msg). own_reply y k) rewrite
    ∙ ap (λ (q : WrapPost). own_reply (wrap_by q x) k) p
    ∙ ap (λ (y : Option Msg). by_gate s svc tgt (limit (hint_of (passed s r).transport)) r (gate_past y (notice_of r) (Pass (passed s r))) k) is

pub own-found : {Meta : Type 0} → (s : Settings) (svc : Req Meta → ℕ → Answer) (tgt : Notice → ℕ → PolledVerdict) (r : Req Meta) (k : ℕ) (post : WrapPost) (found : Option Built) (reply : Built)
    → message_in found ≡ option_map (wrap_by post) (cookie_own s.cookies s.denied r) → found ≡ Some reply → post ≡ rule_for s r (hint_of (passed s r).transport)
    → own_reply reply.message k ≡ by_gate s svc tgt (limit (hint_of (passed s r).transport)) r (inner_gate s r) k
own-found s svc tgt r k post found reply e is p = own-known s svc tgt r k post reply.message (cookie_own s.cookies s.denied r) refl (sym (ap message_in is) ∙ e) p

-- what holds of a value that is there
pub if-ok : {A E : Type 0} {P Q : A → Type 0} → (r : Result A E) → ((x : A) → P x → Q x) → IfOk r P → IfOk r Q
if-ok (Ok x) f h = f x h
if-ok (Err e) f h = h

-- a request that the cookie layer doesn't answer
by-notice : {Meta : Type 0} → (s : Settings) (svc : Req Meta → ℕ → Answer) (tgt : Notice → ℕ → PolledVerdict) (r : Req Meta) (k : ℕ) (notice : Option Notice)
    → mapped (rewritten (wrap_by (rule_for s r (hint_of (passed s r).transport)))) (notify_by tgt (λ (q : Req Meta). svc (passed_by (size_by s (asked_of r.octets)) q)) r k notice)
    ≡ by_gate s svc tgt (limit (hint_of (passed s r).transport)) r (gate_past None notice (Pass (passed s r))) k
by-notice s svc tgt r k None = refl
by-notice s svc tgt r k (Some notice) = refl

pub past-cookies : {Meta : Type 0} → (s : Settings) (svc : Req Meta → ℕ → Answer) (tgt : Notice → ℕ → PolledVerdict) (r : Req Meta) (k : ℕ) (size : Option ℕ) (post : WrapPost) (notice : Option Notice)
    → None ≡ cookie_own s.cookies s.denied r → size ≡ size_by s (asked_of r.octets) → post ≡ rule_for s r (hint_of (passed s r).transport) → notice ≡ notice_of r
    → mapped (rewritten (wrap_by post)) (notify_by tgt (λ (q : Req Meta). svc (passed_by size q)) r k notice) ≡ by_gate s svc tgt (limit (hint_of (passed s r).transport)) r (inner_gate s r) k
past-cookies s svc tgt r k size post notice o es p en =
    ap (λ (q : WrapPost). mapped (rewritten (wrap_by q)) (notify_by tgt (λ (x : Req _). svc (passed_by size x)) r k notice)) p
    ∙ ap (λ (n : Option ℕ). mapped (rewritten (wrap_by (rule_for s r (hint_of (passed s r).transport)))) (notify_by tgt (λ (x : Req _). svc (passed_by n x)) r k notice)) es
    ∙ by-notice s svc tgt r k notice
    ∙ ap (λ (n : Option Notice). by_gate s svc tgt (limit (hint_of (passed s r).transport)) r (gate_past None n (Pass (passed s r))) k) en
    ∙ ap (λ (y : Option Msg). by_gate s svc tgt (limit (hint_of (passed s r).transport)) r (gate_past y (notice_of r) (Pass (passed s r))) k) o

-- a request that isn't refused
pub unrefused : {Meta : Type 0} → (s : Settings) (svc : Req Meta → ℕ → Answer) (tgt : Notice → ℕ → PolledVerdict) (r : Req Meta) (k : ℕ)
    → None ≡ refusal_of s r → by_gate s svc tgt (limit (hint_of (passed s r).transport)) r (inner_gate s r) k ≡ replies s svc tgt r k
unrefused s svc tgt r k x = ap (λ (y : Option Refusal). by_gate s svc tgt (limit (left_by y s r)) r
    (unwrap_or (first_some (option_map (refused_gate r.octets) y ∷ option_map Inner (cookie_own s.cookies s.denied r) ∷ option_map Ask (notice_of r) ∷ [])) (Pass (passed s r))) k) x

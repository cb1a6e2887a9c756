-- The hint of a request that a service inside was called with, and how it is put back.
use Rattle.std.proofs.Common.{◌≡◌, ℕ, Option, Some, None, Result, Ok, Err, IfOk, true, refl, ap, sym, ◌∙◌}
use Rattle.dns_service.specs.declared.message.TransportSpecificContext.{TransportSpecificContext}
use Rattle.dns_service.specs.declared.message.TransportSpecificContext.TheVariants.{Udp, NonUdp}
use Rattle.dns_service.specs.declared.asked.Asked.{Asked}
use Rattle.dns_service.specs.Answer.{Answer, mapped}
use Rattle.dns_service.specs.Asked.{asked_of, client_size}
use Rattle.dns_service.specs.ErrorReply.{error_reply}
use Rattle.dns_service.specs.Req.{Req}
use Rattle.dns_service.specs.Transport.{hint_of, hinted}
use Rattle.dns_layers.specs.declared.edns_post.EdnsPost.{EdnsPost}
use Rattle.dns_layers.specs.Edns.{edns, edns_by, edns_by_code, edns_passed, edns_post, edns_refusal, edns_rule, negotiated, passed_by, transport_by}
use Rattle.dns_layers.specs.Rewritten.{own_reply, rewritten}

-- a hint that is set again is as it was
pub restored : (h : Option ℕ) (t : TransportSpecificContext) → hinted (hint_of t) (hinted h t) ≡ hinted (hint_of t) t
restored h (Udp before) = refl
restored h (NonUdp timeout) = refl

again : (h : Option ℕ) (t : TransportSpecificContext) → hinted (hint_of (hinted h t)) (hinted h t) ≡ hinted (hint_of (hinted h t)) t
again h (Udp before) = refl
again h (NonUdp timeout) = refl

pub passed_transport : (size : Option ℕ) (t : TransportSpecificContext) → hinted (hint_of (transport_by size t)) (transport_by size t) ≡ hinted (hint_of (transport_by size t)) t
passed_transport None t = refl
passed_transport (Some size) t = again (Some (negotiated (hint_of t) size)) t

-- what is passed on differs in the hint alone
pub passed_hinted : (size : Option ℕ) (t : TransportSpecificContext) → hinted (hint_of (transport_by size t)) t ≡ transport_by size t
passed_hinted None (Udp hint) = refl
passed_hinted None (NonUdp timeout) = refl
passed_hinted (Some size) (Udp hint) = refl
passed_hinted (Some size) (NonUdp timeout) = refl

-- a transport has its own hint
pub kept_hint : (t : TransportSpecificContext) → hinted (hint_of t) t ≡ t
kept_hint (Udp hint) = refl
kept_hint (NonUdp timeout) = refl

-- its hint put back, it is as it came
pub put_back : (size : Option ℕ) (t : TransportSpecificContext) → hinted (hint_of t) (transport_by size t) ≡ t
put_back None (Udp hint) = refl
put_back None (NonUdp timeout) = refl
put_back (Some size) (Udp hint) = refl
put_back (Some size) (NonUdp timeout) = refl

-- the inner replies to the request as it is passed on, rewritten by the rule for what was read of it
pub passed_on : {F E Meta : Type 0} (result : Result F E) (answer : F → ℕ → Answer) (inner : Req Meta → ℕ → Answer) (r : Req Meta) (a : Asked) (rule : EdnsPost) (size : Option ℕ)
    → a ≡ asked_of r.octets
    → rule ≡ edns_rule r.transport a
    → size ≡ client_size a.opt
    → IfOk result (λ f. (k : ℕ) → answer f k ≡ mapped (rewritten (edns_by rule)) (inner (passed_by size r) k))
    → IfOk result (λ f. (k : ℕ) → answer f k ≡ mapped (rewritten (edns_post r)) (inner (edns_passed r) k))
passed_on (Err error) answer inner r a rule size asked is sized h = tt
passed_on (Ok f) answer inner r a rule size asked is sized h = λ k.
    let p : rule ≡ edns_rule r.transport (asked_of r.octets) = is ∙ ap (edns_rule r.transport) asked in
    let s : size ≡ client_size (asked_of r.octets).opt = sized ∙ ap (λ (x : Asked). client_size x.opt) asked in
    h k ∙ (ap (λ (x : Option ℕ). mapped (rewritten (edns_by rule)) (inner (passed_by x r) k)) s ∙ ap (λ (x : EdnsPost). mapped (rewritten (edns_by x)) (inner (edns_passed r) k)) p)

-- a request that is refused has the layer's own reply
pub own_answers : {F E Meta : Type 0} (result : Result F E) (answer : F → ℕ → Answer) (inner : Req Meta → ℕ → Answer) (r : Req Meta) (code : ℕ)
    → edns_refusal r ≡ Some code
    → IfOk result (λ f. (k : ℕ) → answer f k ≡ own_reply (edns_post r (error_reply r.octets code)) k)
    → IfOk result (λ f. (k : ℕ) → answer f k ≡ edns true inner r k)
own_answers (Ok f) answer inner r code e h = λ k. h k ∙ ap (edns_by_code inner r k) (sym e)
own_answers (Err error) answer inner r code e h = tt

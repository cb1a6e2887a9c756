-- The layers one inside the other answer as the service in its layers does.
use Rattle.std.specs.Prelude.{unwrap_or}
use Rattle.std.proofs.Common.{◌≡◌, ◌∙◌, sym, ℕ, zero, suc, Bool, true, false, if◌then◌else◌, List, [], ◌∷◌, Option, Some, None, Ok, Err, option_map, refl, ap}
use Rattle.dns_name.specs.declared.address.IpAddr.{IpAddr}
use Rattle.dns_base.specs.Msg.{Msg}
use Rattle.dns_service.specs.Config.{Dgram, Stream}
use Rattle.dns_service.specs.declared.message.TransportSpecificContext.{TransportSpecificContext}
use Rattle.dns_service.specs.declared.message.TransportSpecificContext.TheVariants.{Udp, NonUdp}
use Rattle.dns_service.specs.declared.service.Polled.TheVariants.{Pending, Ready}
use Rattle.dns_service.specs.Answer.{Answer, mapped}
use Rattle.dns_service.specs.Asked.{asked_of, client_size}
use Rattle.dns_service.specs.Req.{Req, hint_at_entry}
use Rattle.dns_service.specs.Transport.{is_stream, limit}
use Rattle.dns_layers.specs.declared.notice.Notice.{Notice}
use Rattle.dns_events.specs.declared.settings.Settings.{Settings}
use Rattle.dns_layers.specs.Cookies.{cookie_own, cookies, cookies_by, denied_over}
use Rattle.dns_layers.specs.Edns.{edns, edns_by_code, edns_hint, edns_passed, opt_refusal, passed_by, transport_by}
use Rattle.dns_layers.specs.Mandatory.{mandatory, mandatory_by, mandatory_hint, mandatory_refusal}
use Rattle.dns_layers.specs.Notify.{PolledVerdict, notice_of, notify, notify_by}
use Rattle.dns_layers.specs.declared.refusal.Refusal.{Refusal}
use Rattle.dns_layers.specs.declared.refusal.Refusal.TheVariants.{ByMandatory, ByEdns}
use Rattle.dns_layers.specs.Refusals.{first_some}
use Rattle.dns_layers.specs.Rewritten.{hint_by, own_reply, rewritten}
use Rattle.dns_middleware.specs.Wrapped.{Inner, Ask, Pass, by_gate, hint_left, left_by, passed, refused_gate, replies}

-- EDNS changes nothing of who is denied
denied-passed : (size : Option ℕ) (t : TransportSpecificContext) (denied : List IpAddr) (address : IpAddr) → denied_over (transport_by size t) denied address ≡ denied_over t denied address
denied-passed None t denied address = refl
denied-passed (Some n) (Udp hint) denied address = refl
denied-passed (Some n) (NonUdp timeout) denied address = refl

-- nor of the cookie layer's own replies
own-passed : {Meta : Type 0} → (secret : Option (List ℕ)) (denied : List IpAddr) (size : Option ℕ) (r : Req Meta) → cookie_own secret denied (passed_by size r) ≡ cookie_own secret denied r
own-passed None denied size r = refl
own-passed (Some secret) denied size r = simp denied-passed

option-twice : (f g : Msg → Msg) (o : Option Msg) → option_map f (option_map g o) ≡ option_map (λ m. f (g m)) o
option-twice f g None = refl
option-twice f g (Some m) = refl

-- two rewritings are one
mapped-twice : (f g : Msg → Msg) (a : Answer) → mapped (rewritten f) (mapped (rewritten g) a) ≡ mapped (rewritten (λ m. f (g m))) a
mapped-twice f g Pending = refl
mapped-twice f g (Ready None) = refl
mapped-twice f g (Ready (Some (Err e))) = refl
mapped-twice f g (Ready (Some (Ok given))) = ap (λ (o : Option Msg). Ready (Some (Ok (record given { response = o })))) (option-twice f g given.response)

-- a reply of its own that is rewritten is a reply of its own
own-mapped : (f : Msg → Msg) (m : Msg) (k : ℕ) → mapped (rewritten f) (own_reply m k) ≡ own_reply (f m) k
own-mapped f m zero = refl
own-mapped f m (suc k) = refl

-- the layers, by what each decides
abbrev by_layers : {Meta : Type 0} → Bool → Option ℕ → Option ℕ → Option Msg → Option Msg → Option Notice → (Req Meta → ℕ → Answer) → (Notice → ℕ → PolledVerdict) → Req Meta → ℕ → Answer
by_layers on m e c d n svc tgt r k = mandatory_by
    (λ q j. if on then edns_by_code (λ p i. cookies_by (λ o h. notify_by tgt svc o h n) p i d) q j e else cookies_by (λ o h. notify_by tgt svc o h n) q j c)
    (λ q. if on then hint_by (λ p. hint_at_entry (edns_passed p)) q e else hint_at_entry q)
    r k m

-- why a request is refused, by what the mandatory layer and EDNS decide
abbrev refused_with : Bool → Option ℕ → Option ℕ → Option Refusal
refused_with on m e = first_some (option_map ByMandatory m ∷ option_map ByEdns (if on then e else None) ∷ [])

-- the service in its layers, by what each layer decides
abbrev by_cases : {Meta : Type 0} → Settings → Option ℕ → Option ℕ → Option Msg → Option Notice → (Req Meta → ℕ → Answer) → (Notice → ℕ → PolledVerdict) → Req Meta → ℕ → Answer
by_cases s m e c n svc tgt r k =
    let refused = refused_with s.edns m e in
    by_gate s svc tgt (limit (left_by refused s r)) r
    (unwrap_or (first_some (option_map (refused_gate r.octets) refused ∷ option_map Inner c ∷ option_map Ask n ∷ [])) (Pass (passed s r))) k

module _ (strict : Bool) (secret : Option (List ℕ)) (denied : List IpAddr) (dgram : Dgram) (stream : Stream) where
  abbrev set : Bool → Settings
  set on = record { strict = strict; edns = on; cookies = secret; denied = denied; dgram = dgram; stream = stream }

  same : {Meta : Type 0} → (on : Bool) (m e : Option ℕ) (c : Option Msg) (n : Option Notice) (svc : Req Meta → ℕ → Answer) (tgt : Notice → ℕ → PolledVerdict) (r : Req Meta) (k : ℕ)
      → by_cases (set on) m e c n svc tgt r k ≡ by_layers on m e c c n svc tgt r k
  same on (Some code) e c n svc tgt r k = refl
  same true None (Some code) c n svc tgt r k = sym (own-mapped _ _ k)
  same true None None (Some m) n svc tgt r k = sym (ap (mapped _) (own-mapped _ m k) ∙ own-mapped _ _ k)
  same true None None None (Some notice) svc tgt r k = sym (mapped-twice _ _ _)
  same true None None None None svc tgt r k = sym (mapped-twice _ _ _)
  same false None e (Some m) n svc tgt r k = sym (own-mapped _ _ k)
  same false None e None (Some notice) svc tgt r k = refl
  same false None e None None svc tgt r k = refl

  -- the hint that is left, by what each layer decides
  same-hint : {Meta : Type 0} → (on : Bool) (m e : Option ℕ) (r : Req Meta)
      → left_by (refused_with on m e) (set on) r
      ≡ hint_by (λ q. if on then hint_by (λ p. hint_at_entry (edns_passed p)) q e else hint_at_entry q) r m
  same-hint on (Some code) e r = refl
  same-hint true None (Some code) r = refl
  same-hint true None None r = refl
  same-hint false None e r = refl

wrapped-cases : {Meta : Type 0} → (s : Settings) (svc : Req Meta → ℕ → Answer) (tgt : Notice → ℕ → PolledVerdict) (r : Req Meta) (k : ℕ)
    → replies s svc tgt r k ≡ by_cases s (mandatory_refusal s.strict (asked_of r.octets)) (opt_refusal (is_stream r.transport) (asked_of r.octets).opt) (cookie_own s.cookies s.denied r) (notice_of r) svc tgt r k
wrapped-cases s svc tgt r k = refl

nested-cases : {Meta : Type 0} → (s : Settings) (svc : Req Meta → ℕ → Answer) (tgt : Notice → ℕ → PolledVerdict) (r : Req Meta) (k : ℕ)
    → by_layers s.edns (mandatory_refusal s.strict (asked_of r.octets)) (opt_refusal (is_stream r.transport) (asked_of r.octets).opt) (cookie_own s.cookies s.denied r) (cookie_own s.cookies s.denied (passed_by (client_size (asked_of r.octets).opt) r)) (notice_of r) svc tgt r k
    ≡ mandatory s.strict (edns s.edns (cookies s.cookies s.denied (notify tgt svc))) (edns_hint s.edns) r k
nested-cases s svc tgt r k = refl

pub nested-replies : {Meta : Type 0} → (s : Settings) (svc : Req Meta → ℕ → Answer) (tgt : Notice → ℕ → PolledVerdict) (r : Req Meta) (k : ℕ)
    → replies s svc tgt r k ≡ mandatory s.strict (edns s.edns (cookies s.cookies s.denied (notify tgt svc))) (edns_hint s.edns) r k
nested-replies s svc tgt r k =
    let a = asked_of r.octets in
    let m = mandatory_refusal s.strict a in
    let e = opt_refusal (is_stream r.transport) a.opt in
    let c = cookie_own s.cookies s.denied r in
    let size = client_size a.opt in
    wrapped-cases s svc tgt r k
    ∙ same s.strict s.cookies s.denied s.dgram s.stream s.edns m e c (notice_of r) svc tgt r k
    ∙ ap (λ (d : Option Msg). by_layers s.edns m e c d (notice_of r) svc tgt r k) (sym (own-passed s.cookies s.denied size r))
    ∙ nested-cases s svc tgt r k

pub nested-hint : {Meta : Type 0} → (s : Settings) (r : Req Meta) → hint_left s r ≡ mandatory_hint s.strict (edns_hint s.edns) r
nested-hint s r =
    let a = asked_of r.octets in
    same-hint s.strict s.cookies s.denied s.dgram s.stream s.edns (mandatory_refusal s.strict a) (opt_refusal (is_stream r.transport) a.opt) r

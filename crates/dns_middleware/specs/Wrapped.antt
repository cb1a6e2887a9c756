-- The service in its layers: how a request is taken, and what is answered, by the settings, the given service and the target. No
-- layer is named here.
use Rattle.std.specs.Prelude.{ℕ, List, [], ◌∷◌, Option, Some, None, option_map, unwrap_or, if◌then◌else◌}
use Rattle.dns_base.specs.Msg.{Msg}
use Rattle.dns_service.specs.Answer.{Answer, mapped}
use Rattle.dns_service.specs.Asked.{asked_of}
use Rattle.dns_service.specs.ErrorReply.{error_reply}
use Rattle.dns_service.specs.Req.{Req}
use Rattle.dns_service.specs.Transport.{hint_of, limit}
use Rattle.dns_layers.specs.declared.notice.Notice.{Notice}
use Rattle.dns_layers.specs.declared.refusal.Refusal.{Refusal}
use Rattle.dns_layers.specs.declared.refusal.Refusal.TheVariants.{ByMandatory, ByEdns}
use Rattle.dns_events.specs.declared.settings.Settings.{Settings}
use Rattle.dns_layers.specs.Cookies.{cookie_own}
use Rattle.dns_layers.specs.Edns.{edns_post, passed_by}
use Rattle.dns_layers.specs.Mandatory.{mand_post}
use Rattle.dns_layers.specs.Notify.{PolledVerdict, asking, notice_of}
use Rattle.dns_layers.specs.Refusals.{first_some, refusal_by, size_by}
use Rattle.dns_layers.specs.Rewritten.{own_reply, rewritten}

-- a reply of the server's own, rewritten by the mandatory rule alone, or also by that of EDNS; a question to the target; or the
-- request as it is passed to the given service
pub data Gate (Meta : Type 0) : Type 0 where
  Outer : Msg → Gate Meta
  Inner : Msg → Gate Meta
  Ask : Notice → Gate Meta
  Pass : Req Meta → Gate Meta

-- why a request is refused, if it is
abbrev pub refusal_of : {Meta : Type 0} → Settings → Req Meta → Option Refusal
refusal_of s r = refusal_by s r.transport (asked_of r.octets)

-- a request that is refused is answered by an error reply
abbrev pub refused_gate : {Meta : Type 0} → List ℕ → Refusal → Gate Meta
refused_gate o (ByMandatory code) = Outer (error_reply o code)
refused_gate o (ByEdns code) = Inner (error_reply o code)

-- the request as it is passed on
abbrev pub passed : {Meta : Type 0} → Settings → Req Meta → Req Meta
passed s r = passed_by (size_by s (asked_of r.octets)) r

-- how a request is taken: the first case that fits, and else it is passed on
abbrev pub gate : {Meta : Type 0} → Settings → Req Meta → Gate Meta
gate s r = unwrap_or (first_some
    (option_map (refused_gate r.octets) (refusal_of s r)
    ∷ option_map Inner (cookie_own s.cookies s.denied r)
    ∷ option_map Ask (notice_of r)
    ∷ []))
    (Pass (passed s r))

-- the hint that the request has after the call
abbrev pub left_by : {Meta : Type 0} → Option Refusal → Settings → Req Meta → Option ℕ
left_by (Some refused) s r = hint_of r.transport
left_by None s r = hint_of (passed s r).transport

abbrev pub hint_left : {Meta : Type 0} → Settings → Req Meta → Option ℕ
hint_left s r = left_by (refusal_of s r) s r

-- how many octets a reply over UDP may take
abbrev pub request_limit : {Meta : Type 0} → Settings → Req Meta → ℕ
request_limit s r = limit (hint_left s r)

-- the rewriting of a reply from inside the mandatory rule
abbrev pub inner_post : {Meta : Type 0} → Settings → ℕ → Req Meta → Msg → Msg
inner_post s n r m = mand_post n r (if s.edns then edns_post r m else m)

-- answer k to a request that is taken like this
abbrev pub by_gate : {Meta : Type 0} → Settings → (Req Meta → ℕ → Answer) → (Notice → ℕ → PolledVerdict) → ℕ → Req Meta → Gate Meta
    → ℕ → Answer
by_gate s svc tgt n r (Outer m) k = own_reply (mand_post n r m) k
by_gate s svc tgt n r (Inner m) k = own_reply (inner_post s n r m) k
by_gate s svc tgt n r (Ask notice) k = mapped (rewritten (inner_post s n r)) (asking r.octets (tgt notice) k)
by_gate s svc tgt n r (Pass q) k = mapped (rewritten (inner_post s n r)) (svc q k)

-- answer k of the service in its layers
abbrev pub replies : {Meta : Type 0} → Settings → (Req Meta → ℕ → Answer) → (Notice → ℕ → PolledVerdict) → Req Meta → ℕ → Answer
replies s svc tgt r k = by_gate s svc tgt (request_limit s r) r (gate s r) k

-- What the parts of a call of the service in its layers promise: the replies to a request that isn't refused, and the rule for them.
use Rattle.std.specs.Prelude.{ℕ, [], ◌∷◌, Option, option_map, unwrap_or}
use Rattle.dns_base.specs.Msg.{Msg}
use Rattle.dns_service.specs.declared.asked.Asked.{Asked}
use Rattle.dns_service.specs.declared.message.TransportSpecificContext.{TransportSpecificContext}
use Rattle.dns_service.specs.Answer.{Answer, mapped}
use Rattle.dns_service.specs.Req.{Req}
use Rattle.dns_service.specs.Transport.{hint_of, limit}
use Rattle.dns_layers.specs.declared.notice.Notice.{Notice}
use Rattle.dns_events.specs.declared.settings.Settings.{Settings}
use Rattle.dns_layers.specs.Edns.{transport_by}
use Rattle.dns_layers.specs.Notify.{PolledVerdict, notice_of}
use Rattle.dns_layers.specs.Cookies.{cookie_own}
use Rattle.dns_layers.specs.Refusals.{first_some, size_by}
use Rattle.dns_layers.specs.Rewritten.{rewritten}
use Rattle.dns_middleware.specs.declared.wrap_post.WrapPost.{WrapPost}
use Rattle.dns_middleware.specs.Wrapped.{Gate, Inner, Ask, Pass, by_gate, passed}
use Rattle.dns_middleware.specs.WrappedStreams.{wrap_by, wrap_rule}

-- answers, each with its reply rewritten
abbrev pub each_rewritten : WrapPost → (ℕ → Answer) → ℕ → Answer
each_rewritten p given k = mapped (rewritten (wrap_by p)) (given k)

-- how a request is taken that isn't refused, by the cookie layer's own reply and by what the target is asked
abbrev pub gate_past : {Meta : Type 0} → Option Msg → Option Notice → Gate Meta → Gate Meta
gate_past own notice last = unwrap_or (first_some (option_map Inner own ∷ option_map Ask notice ∷ [])) last

abbrev pub inner_gate : {Meta : Type 0} → Settings → Req Meta → Gate Meta
inner_gate s r = gate_past (cookie_own s.cookies s.denied r) (notice_of r) (Pass (passed s r))

-- the answers to a request that isn't refused
abbrev pub replies_unrefused : {Meta : Type 0} → Settings → (Req Meta → ℕ → Answer) → (Notice → ℕ → PolledVerdict) → Req Meta → ℕ → Answer
replies_unrefused s svc tgt r = by_gate s svc tgt (limit (hint_of (passed s r).transport)) r (inner_gate s r)

-- the rule for the replies to what is asked over a transport, if the request is passed on
abbrev pub rule_passed : Settings → TransportSpecificContext → Asked → WrapPost
rule_passed s t a = wrap_rule s.edns t (limit (hint_of (transport_by (size_by s a) t))) a

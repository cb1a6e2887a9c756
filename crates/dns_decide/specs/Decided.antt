-- What is answered to a request as the layers decided to take it, over whatever service is inside.
use Rattle.std.specs.Prelude.{ℕ, ◌≡◌, Bool, true, false, Option}
use Rattle.dns_service.specs.Answer.{Answer, mapped}
use Rattle.dns_service.specs.Req.{Req}
use Rattle.dns_events.specs.declared.settings.Settings.{Settings}
use Rattle.dns_layers.specs.declared.notice.Notice.{Notice}
use Rattle.dns_layers.specs.Edns.{passed_by}
use Rattle.dns_layers.specs.Notify.{PolledVerdict, ask_answer, notify_by}
use Rattle.dns_layers.specs.Rewritten.{own_reply, rewritten}
use Rattle.dns_middleware.specs.declared.wrapped_calls.PassPlan.{PassPlan}
use Rattle.dns_middleware.specs.Wrapped.{Gate, Pass, passed, replies}
use Rattle.dns_middleware.specs.WrappedCalls.{each_rewritten, replies_unrefused}
use Rattle.dns_middleware.specs.WrappedStreams.{wrap_by}
use Rattle.dns_decide.specs.declared.decision.Decision.{Decision}
use Rattle.dns_decide.specs.declared.decision.Decision.TheVariants.{Own, Asking, Passed}

-- answer k by a decision: a reply of the layers' own; the target's, rewritten; or what is given to the request as it is passed on,
-- rewritten
abbrev pub decided : {V : Type 0} → (V → ℕ → PolledVerdict) → (ℕ → Answer) → Decision V → ℕ → Answer
decided verdict given (Own reply) k = own_reply reply.message k
decided verdict given (Asking stream post) k = mapped (rewritten (wrap_by post)) (ask_answer verdict stream k)
decided verdict given (Passed post) k = mapped (rewritten (wrap_by post)) (given k)

-- whether a request is passed on
abbrev pub is_passed : {V : Type 0} → Decision V → Bool
is_passed (Passed post) = true
is_passed _ = false

abbrev pub is_pass : {Meta : Type 0} → Gate Meta → Bool
is_pass (Pass q) = true
is_pass _ = false

-- whatever service is inside, a decision answers as the service in its layers
abbrev pub AnswersReplies : {V Meta : Type 0} → (V → ℕ → PolledVerdict) → Settings → (Notice → ℕ → PolledVerdict) → Req Meta
    → Decision V → Type 0
AnswersReplies {V} {Meta} verdict s tgt r d = (svc : Req Meta → ℕ → Answer) (k : ℕ)
    → decided verdict (svc (passed s r)) d k ≡ replies s svc tgt r k

-- of a request that isn't refused, a decision answers as the service in its layers
abbrev pub AnswersUnrefused : {V Meta : Type 0} → (V → ℕ → PolledVerdict) → Settings → (Notice → ℕ → PolledVerdict) → Req Meta
    → Decision V → Type 0
AnswersUnrefused {V} {Meta} verdict s tgt r d = (svc : Req Meta → ℕ → Answer) (k : ℕ)
    → decided verdict (svc (passed s r)) d k ≡ replies_unrefused s svc tgt r k

-- of a request that the cookie layer doesn't answer, a decision answers by what the target is asked
abbrev pub AnswersNotice : {V Meta : Type 0} → (V → ℕ → PolledVerdict) → PassPlan → (Notice → ℕ → PolledVerdict) → Req Meta
    → Option Notice → Decision V → Type 0
AnswersNotice {V} {Meta} verdict p tgt r notice d = (svc : Req Meta → ℕ → Answer) (k : ℕ)
    → decided verdict (svc (passed_by p.size r)) d k
    ≡ each_rewritten p.post (λ j. notify_by tgt (λ q. svc (passed_by p.size q)) r j notice) k

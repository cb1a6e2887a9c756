-- Replies of a service that are rewritten, if there is a rule.
use Rattle.std.specs.Prelude.{ℕ, Option, Some, None}
use Rattle.dns_service.specs.Msg.{Msg}
use Rattle.dns_service.specs.Answer.{Answer, mapped}
use Rattle.dns_service.specs.Req.{Req}
use Rattle.dns_service.specs.Transport.{limit, limit_over}
use Rattle.dns_layers.specs.Rewritten.{rewritten}

-- an answer, its reply rewritten if there is a rule
abbrev pub by_rule : {R : Type 0} → (R → Msg → Msg) → Option R → Answer → Answer
by_rule rewriting None answer = answer
by_rule rewriting (Some rule) answer = mapped (rewritten (rewriting rule)) answer

-- the limit of a reply over UDP, by the hint that the service inside leaves (RFC 6891, section 6.2.5)
abbrev pub reply_limit : {Meta : Type 0} → (Req Meta → Option ℕ) → Req Meta → Option ℕ
reply_limit hint r = limit_over r.transport (limit (hint r))

-- the answers of the service inside, rewritten by what was found in the request, if that is something, and by that limit
abbrev pub rewritten_replies : {T Meta : Type 0} → (T → Option ℕ → Msg → Msg) → Option T → (Req Meta → ℕ → Answer)
    → (Req Meta → Option ℕ) → Req Meta → ℕ → Answer
rewritten_replies rewriting found answer hint r k = by_rule (λ t. rewriting t (reply_limit hint r)) found (answer r k)

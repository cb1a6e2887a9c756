-- What a call of a service promises: the answers of what it gives, and the hint that it leaves.
use Rattle.std.specs.Prelude.{◌≡◌, ℕ, IfOk, OnOk, Option, Result}
use Rattle.dns_service.specs.Answer.{Answer}
use Rattle.dns_service.specs.Req.{Req}
use Rattle.dns_service.specs.Transport.{hinted}

-- what is given has these answers
abbrev pub AnswersAs : {F E : Type 0} → (F → ℕ → Answer) → (ℕ → Answer) → Result F E → Type 0
AnswersAs answer wanted result = IfOk result (λ f. (k : ℕ) → answer f k ≡ wanted k)

-- the request is as before except for this hint and its reserved octets
abbrev pub LeavesHint : {F E Meta : Type 0} → Option ℕ → Req Meta → Req Meta → Result F E → Type 0
LeavesHint hint old new result = OnOk result (new ≡ record old { transport = hinted hint old.transport; reserved = new.reserved })

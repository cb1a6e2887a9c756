-- What future and stream of a service behind zones without data answer: as what they hold.
use Rattle.std.specs.Prelude.{ℕ, Option}
use Rattle.dns_service.specs.declared.once.Once.{Once}
use Rattle.dns_service.specs.declared.once.Now.{Now}
use Rattle.dns_service.specs.Answer.{Answer}
use Rattle.dns_secondary_service.specs.declared.withholding_replies.WithholdingFuture.{WithholdingFuture}
use Rattle.dns_secondary_service.specs.declared.withholding_replies.WithholdingFuture.TheVariants as Coming
use Rattle.dns_secondary_service.specs.declared.withholding_replies.WithholdingStream.{WithholdingStream}
use Rattle.dns_secondary_service.specs.declared.withholding_replies.WithholdingStream.TheVariants.{Own, Passed}

abbrev pub coming_answer : {F : Type 0} → (Now Once → ℕ → Answer) → (F → ℕ → Answer) → WithholdingFuture F → ℕ → Answer
coming_answer own inner (Coming.Own future) = own future
coming_answer own inner (Coming.Passing future) = inner future

abbrev pub replies_answer : {S : Type 0} → (Once → ℕ → Answer) → (S → ℕ → Answer) → WithholdingStream S → ℕ → Answer
replies_answer own inner (Own stream) = own stream
replies_answer own inner (Passed stream) = inner stream

-- how many items are left
abbrev pub replies_size : {S : Type 0} → (Once → ℕ × Option ℕ) → (S → ℕ × Option ℕ) → WithholdingStream S → ℕ × Option ℕ
replies_size own inner (Own stream) = own stream
replies_size own inner (Passed stream) = inner stream

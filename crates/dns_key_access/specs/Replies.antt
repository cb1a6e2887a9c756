-- What future and stream of a service behind keys that are wanted answer: as what they hold.
use Rattle.std.specs.Prelude.{ℕ, Option}
use Rattle.dns_service.specs.declared.once.Once.{Once}
use Rattle.dns_service.specs.declared.once.Now.{Now}
use Rattle.dns_service.specs.Answer.{Answer}
use Rattle.dns_key_access.specs.declared.replies.AccessFuture.{AccessFuture}
use Rattle.dns_key_access.specs.declared.replies.AccessFuture.TheVariants as Coming
use Rattle.dns_key_access.specs.declared.replies.AccessStream.{AccessStream}
use Rattle.dns_key_access.specs.declared.replies.AccessStream.TheVariants.{Own, Passed}

abbrev pub coming_answer : {F : Type 0} → (Now Once → ℕ → Answer) → (F → ℕ → Answer) → AccessFuture F → ℕ → Answer
coming_answer own inner (Coming.Own future) = own future
coming_answer own inner (Coming.Passing future) = inner future

abbrev pub replies_answer : {S : Type 0} → (Once → ℕ → Answer) → (S → ℕ → Answer) → AccessStream S → ℕ → Answer
replies_answer own inner (Own stream) = own stream
replies_answer own inner (Passed stream) = inner stream

-- how many items are left
abbrev pub replies_size : {S : Type 0} → (Once → ℕ × Option ℕ) → (S → ℕ × Option ℕ) → AccessStream S → ℕ × Option ℕ
replies_size own inner (Own stream) = own stream
replies_size own inner (Passed stream) = inner stream

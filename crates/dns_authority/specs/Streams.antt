-- What the streams of an authority answer in each state.
use Rattle.std.specs.Prelude.{ℕ, Option}
use Rattle.dns_service.specs.Answer.{Answer}
use Rattle.dns_service.specs.declared.once.Once.{Once}
use Rattle.dns_authority.specs.declared.stream.AuthorityStream.{AuthorityStream}
use Rattle.dns_authority.specs.declared.stream.AuthorityStream.TheVariants.{Single, Transferred}
use Rattle.dns_transfer.specs.declared.transfer.Transfer.{Transfer}

-- a reply that is there at once, or a transfer
abbrev pub stream_answer : (Once → ℕ → Answer) → (Transfer → ℕ → Answer) → AuthorityStream → ℕ → Answer
stream_answer o t (Single s) = o s
stream_answer o t (Transferred s) = t s

abbrev pub stream_size : (Once → ℕ × Option ℕ) → (Transfer → ℕ × Option ℕ) → AuthorityStream → ℕ × Option ℕ
stream_size o t (Single s) = o s
stream_size o t (Transferred s) = t s

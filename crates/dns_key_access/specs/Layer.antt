-- A service whose transfers and NOTIFYs are judged by their keys.
use Rattle.std.specs.Prelude.{ℕ, Option, Some, None}
use Rattle.dns_service.specs.Answer.{Answer}
use Rattle.dns_service.specs.Req.{Req, hint_at_entry, with_metadata}
use Rattle.dns_layers.specs.Rewritten.{own_reply}
use Rattle.dns_signing.specs.ErrorResponse.{error_response}
use Rattle.dns_key_access.specs.Access.{access_refusal}
use Rattle.dns_key_access.specs.declared.access.KeyAccess.{KeyAccess}

-- a request as the service inside has it
abbrev pub without_key : Req (Option ℕ) → Req (Unit {0})
without_key r = with_metadata r tt

-- a request that is refused is answered by an error reply, and each other one by the service inside
abbrev pub answer_by : (Req (Unit {0}) → ℕ → Answer) → Req (Option ℕ) → ℕ → Option ℕ → Answer
answer_by answer r k (Some code) = own_reply (error_response r.octets code) k
answer_by answer r k None = answer (without_key r) k

abbrev pub access_answer : (Req (Unit {0}) → ℕ → Answer) → KeyAccess → Req (Option ℕ) → ℕ → Answer
access_answer answer a r k = answer_by answer r k (access_refusal a r)

abbrev pub access_hint_by : (Req (Unit {0}) → Option ℕ) → Req (Option ℕ) → Option ℕ → Option ℕ
access_hint_by hint r (Some code) = hint_at_entry r
access_hint_by hint r None = hint (without_key r)

abbrev pub access_hint : (Req (Unit {0}) → Option ℕ) → KeyAccess → Req (Option ℕ) → Option ℕ
access_hint hint a r = access_hint_by hint r (access_refusal a r)

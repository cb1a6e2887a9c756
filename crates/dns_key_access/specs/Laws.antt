-- What the layer makes of requests.
use Rattle.std.specs.Prelude.{ℕ, ◌≡◌, true, false, List, [], Option, Some, Contains}
use Rattle.dns_base.specs.Header.{header_of}
use Rattle.dns_base.specs.Sections.{first_of, questions_of}
use Rattle.dns_message.specs.declared.question.Question.{Question}
use Rattle.dns_name.specs.Canonical.{same_name}
use Rattle.dns_service.specs.Answer.{Answer}
use Rattle.dns_service.specs.Req.{Req}
use Rattle.dns_layers.specs.Rewritten.{own_reply}
use Rattle.dns_signing.specs.ErrorResponse.{error_response}
use Rattle.dns_authority.specs.Authorities.{asks_transfer}
use Rattle.dns_key_access.specs.Access.{asker_of, is_permitted}
use Rattle.dns_key_access.specs.Layer.{access_answer, without_key}
use Rattle.dns_key_access.specs.declared.access.KeyAccess.{KeyAccess}
use Rattle.dns_key_access.specs.declared.access.ZoneAccess.{ZoneAccess}

abbrev pub AllIsAsBefore : Type 0
AllIsAsBefore = (answer : Req (Unit {0}) → ℕ → Answer) (a : KeyAccess) (r : Req (Option ℕ)) (k : ℕ) → a.transfers.items ≡ []
    → a.notifies.items ≡ [] → access_answer answer a r k ≡ answer (without_key r) k

-- a request about one of some zones, none of whose rules permits who asks
pub record AsksWithout (zones : List ZoneAccess) (z : ZoneAccess) (r : Req (Option ℕ)) (q : Question) : Type 0 where
  pub zone : Contains zones z
  pub question : first_of (questions_of r.octets).0 ≡ Some q
  pub apex : same_name q.qname z.apex ≡ true
  pub forbidden : is_permitted z.allowed.items (asker_of r) ≡ false

abbrev pub TransfersAreJudged : Type 0
TransfersAreJudged = (answer : Req (Unit {0}) → ℕ → Answer) (a : KeyAccess) (z : ZoneAccess) (r : Req (Option ℕ)) (q : Question)
    (k : ℕ) → AsksWithout a.transfers.items z r q → (header_of r.octets).opcode ≡ 0 → asks_transfer q ≡ true
    → access_answer answer a r k ≡ own_reply (error_response r.octets 5) k

abbrev pub NotifiesAreJudged : Type 0
NotifiesAreJudged = (answer : Req (Unit {0}) → ℕ → Answer) (a : KeyAccess) (z : ZoneAccess) (r : Req (Option ℕ)) (q : Question)
    (k : ℕ) → AsksWithout a.notifies.items z r q → (header_of r.octets).opcode ≡ 4
    → access_answer answer a r k ≡ own_reply (error_response r.octets 9) k

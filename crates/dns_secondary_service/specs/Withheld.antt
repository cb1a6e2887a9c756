-- Zones without data: a secondary's before its first transfer, and after EXPIRE (RFC 1034, section 4.3.5).
use Rattle.std.specs.Prelude.{ℕ, Bool, false, ◌&&◌, not, List, length, nat_eq, nat_le, if◌then◌else◌, Option, Some, None}
use Rattle.std.specs.List.{list_any}
use Rattle.dns_message.specs.declared.question.Question.{Question}
use Rattle.dns_base.specs.Header.{header_of}
use Rattle.dns_base.specs.Sections.{first_of, questions_of}
use Rattle.dns_service.specs.Answer.{Answer}
use Rattle.dns_service.specs.Codes.{query_opcode, servfail}
use Rattle.dns_service.specs.ErrorReply.{error_reply}
use Rattle.dns_service.specs.Req.{Req, hint_at_entry}
use Rattle.dns_route.specs.Routes.{ends_name}
use Rattle.dns_layers.specs.Rewritten.{own_reply}

-- an apex is at or above a name, and no farther from it than another one that is
abbrev pub is_as_near : List (List ℕ) → List (List ℕ) → List (List ℕ) → Bool
is_as_near name other apex = ends_name name apex && nat_le (length other) (length apex)

-- of the zones that are above a name the nearest (RFC 1034, section 4.3.2, step 2) is this one, which isn't served
abbrev pub is_nearest : List (List (List ℕ)) → List (List ℕ) → List (List ℕ) → Bool
is_nearest served name apex = ends_name name apex && not (list_any (is_as_near name apex) served)

abbrev pub is_withheld : List (List (List ℕ)) → List (List (List ℕ)) → List (List ℕ) → Bool
is_withheld served withheld name = list_any (is_nearest served name) withheld

abbrev pub question_withheld : List (List (List ℕ)) → List (List (List ℕ)) → Option Question → Bool
question_withheld served withheld None = false
question_withheld served withheld (Some q) = is_withheld served withheld q.qname

-- a query asks for a name whose nearest zone has no data
abbrev pub asks_withheld : List (List (List ℕ)) → List (List (List ℕ)) → List ℕ → Bool
asks_withheld served withheld o = nat_eq (header_of o).opcode query_opcode
    && question_withheld served withheld (first_of (questions_of o).0)

-- such a query is answered SERVFAIL (RFC 1035, section 4.1.1), and all else by the service inside
abbrev pub withholding : {Meta : Type 0} → List (List (List ℕ)) → List (List (List ℕ)) → (Req Meta → ℕ → Answer) → Req Meta → ℕ → Answer
withholding served withheld answer r k = if asks_withheld served withheld r.octets then own_reply (error_reply r.octets servfail) k
    else answer r k

abbrev pub withholding_hint : {Meta : Type 0} → List (List (List ℕ)) → List (List (List ℕ)) → (Req Meta → Option ℕ) → Req Meta → Option ℕ
withholding_hint served withheld hint r = if asks_withheld served withheld r.octets then hint_at_entry r else hint r

-- The mandatory layer: what each server does, whatever its service (RFC 1035, sections 4.1.1 and 4.2.1; RFC 3425, section 3, for IQUERY;
-- RFC 9619, section 4, for several questions).
use Rattle.std.specs.Prelude.{ℕ, nat_eq, nat_lt, Bool, true, ◌&&◌, if◌then◌else◌, Option, Some, None}
use Rattle.dns_message.specs.declared.header.Header.{Header}
use Rattle.dns_base.specs.Msg.{Msg}
use Rattle.dns_service.specs.declared.asked.Asked.{Asked}
use Rattle.dns_service.specs.declared.message.TransportSpecificContext.{TransportSpecificContext}
use Rattle.dns_service.specs.Answer.{Answer, mapped}
use Rattle.dns_service.specs.Asked.{asked_of}
use Rattle.dns_service.specs.Codes.{formerr, iquery_opcode, notimp, query_opcode}
use Rattle.dns_service.specs.ErrorReply.{error_reply}
use Rattle.dns_service.specs.Req.{Req, hint_at_entry}
use Rattle.dns_service.specs.Cut.{sized}
use Rattle.dns_service.specs.Transport.{limit, limit_over}
use Rattle.dns_layers.specs.declared.mandatory_post.MandatoryPost.{MandatoryPost}
use Rattle.dns_layers.specs.Rewritten.{hint_by, own_reply, rewritten}

-- a header as a response to a query of this identifier and RD
abbrev pub responding : ℕ → Bool → Header → Header
responding id rd h = record h { id = id; qr = true; rd = rd }

abbrev pub as_response : ℕ → Bool → Msg → Msg
as_response id rd m = record m { header = responding id rd m.header }

-- what the rule of a request makes of a reply
abbrev pub mand_by : MandatoryPost → Msg → Msg
mand_by p m = as_response p.id p.rd (sized p.limit m)

-- the rule for the replies to what is asked, of at most n octets over UDP
abbrev pub mand_rule : TransportSpecificContext → ℕ → Asked → MandatoryPost
mand_rule t n a = record { id = a.id; rd = a.rd; limit = limit_over t n }

-- a reply to a request, rewritten: at most n octets over UDP
abbrev pub mand_post : {Meta : Type 0} → ℕ → Req Meta → Msg → Msg
mand_post n r m = mand_by (mand_rule r.transport n (asked_of r.octets)) m

-- the response code with which a strict server refuses what is asked: NOTIMP for IQUERY, FORMERR for a QUERY of several questions
abbrev pub strict_refusal : Asked → Option ℕ
strict_refusal a =
    if nat_eq a.opcode iquery_opcode then Some notimp
    else if nat_eq a.opcode query_opcode && nat_lt 1 a.qdcount then Some formerr
    else None

abbrev pub mandatory_refusal : Bool → Asked → Option ℕ
mandatory_refusal strict a = if strict then strict_refusal a else None

-- the layer's answers, by the inner answers and the hint that the inner service leaves, and by whether it refuses the request
abbrev pub mandatory_by : {Meta : Type 0} → (Req Meta → ℕ → Answer) → (Req Meta → Option ℕ) → Req Meta → ℕ → Option ℕ → Answer
mandatory_by answer hint r k (Some code) = own_reply (mand_post (limit (hint_at_entry r)) r (error_reply r.octets code)) k
mandatory_by answer hint r k None = mapped (rewritten (mand_post (limit (hint r)) r)) (answer r k)

abbrev pub mandatory : {Meta : Type 0} → Bool → (Req Meta → ℕ → Answer) → (Req Meta → Option ℕ) → Req Meta → ℕ → Answer
mandatory strict answer hint r k = mandatory_by answer hint r k (mandatory_refusal strict (asked_of r.octets))

abbrev pub mandatory_hint : {Meta : Type 0} → Bool → (Req Meta → Option ℕ) → Req Meta → Option ℕ
mandatory_hint strict hint r = hint_by hint r (mandatory_refusal strict (asked_of r.octets))

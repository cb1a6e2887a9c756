-- Who may transfer a zone, and whose NOTIFY is taken: by the address, and the key of the request if one is wanted (RFC 8945, section 5.2).
use Rattle.std.specs.Prelude.{ℕ, Bool, true, false, ◌&&◌, not, List, nat_eq, Option, Some, None, if◌then◌else◌}
use Rattle.std.specs.List.{list_any}
use Rattle.dns_base.specs.Header.{header_of}
use Rattle.dns_base.specs.Sections.{first_of, questions_of}
use Rattle.dns_message.specs.declared.question.Question.{Question}
use Rattle.dns_name.specs.Canonical.{same_name}
use Rattle.dns_service.specs.Codes.{notauth, notify_opcode, query_opcode, refused_code}
use Rattle.dns_service.specs.Req.{Req}
use Rattle.dns_authority.specs.Authorities.{asks_transfer}
use Rattle.dns_authority.specs.Networks.{is_in_network}
use Rattle.dns_key_access.specs.declared.access.Access.{Access}
use Rattle.dns_key_access.specs.declared.access.Asker.{Asker}
use Rattle.dns_key_access.specs.declared.access.KeyAccess.{KeyAccess}
use Rattle.dns_key_access.specs.declared.access.ZoneAccess.{ZoneAccess}

-- who asks: the address, and the place of the key that the request was verified under
abbrev pub asker_of : Req (Option ℕ) → Asker
asker_of r = record { address = r.client_addr.ip; key = r.metadata }

-- the key that is wanted, if one is
abbrev pub is_key : ℕ → Option ℕ → Bool
is_key wanted None = false
is_key wanted (Some given) = nat_eq given wanted

abbrev pub has_key : Option ℕ → Option ℕ → Bool
has_key None given = true
has_key (Some wanted) given = is_key wanted given

-- a rule permits an address of its network, under its key
abbrev pub permits : Asker → Access → Bool
permits a x = is_in_network a.address x.network && has_key x.key a.key

abbrev pub is_permitted : List Access → Asker → Bool
is_permitted allowed a = list_any (permits a) allowed

-- a zone of this name isn't permitted by any of its rules
abbrev pub forbids : List (List ℕ) → Asker → ZoneAccess → Bool
forbids name a z = same_name name z.apex && not (is_permitted z.allowed.items a)

abbrev pub is_forbidden : List ZoneAccess → List (List ℕ) → Asker → Bool
is_forbidden zones name a = list_any (forbids name a) zones

-- a transfer that isn't permitted is REFUSED (RFC 5936, section 5)
abbrev pub refusal_at : ℕ → Bool → Option ℕ
refusal_at code b = if b then Some code else None

abbrev pub transfer_refusal : KeyAccess → List (List ℕ) → Asker → Option ℕ
transfer_refusal k name a = refusal_at refused_code (is_forbidden k.transfers.items name a)

-- a NOTIFY that isn't permitted is NOTAUTH, as one from another address than the primary's is
abbrev pub notify_refusal : KeyAccess → List (List ℕ) → Asker → Option ℕ
notify_refusal k name a = refusal_at notauth (is_forbidden k.notifies.items name a)

-- by the opcode and the question
abbrev pub question_refusal : KeyAccess → ℕ → Question → Asker → Option ℕ
question_refusal k opcode q a =
    if nat_eq opcode notify_opcode then notify_refusal k q.qname a else
    (if nat_eq opcode query_opcode && asks_transfer q then transfer_refusal k q.qname a else None)

-- by the first question that is readable
abbrev pub asked_refusal : KeyAccess → ℕ → Option Question → Asker → Option ℕ
asked_refusal k opcode None a = None
asked_refusal k opcode (Some q) a = question_refusal k opcode q a

-- the response code with which a request is refused
abbrev pub access_refusal : KeyAccess → Req (Option ℕ) → Option ℕ
access_refusal k r = asked_refusal k (header_of r.octets).opcode (first_of (questions_of r.octets).0) (asker_of r)

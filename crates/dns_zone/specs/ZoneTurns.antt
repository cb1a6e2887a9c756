-- What a zone answers to a request: the reply to its first question as a message (RFC 1035, section 4.1), or an error.
use Rattle.std.specs.Prelude.{ℕ, ◌≡◌, Bool, ◌&&◌, List, map, length, nat_eq, nat_le, if◌then◌else◌, Option, Some, None, Result, Ok, Err}
use Rattle.dns_name.specs.declared.error.ParseError.{ParseError}
use Rattle.dns_base.specs.Builds.{unlimited}
use Rattle.dns_base.specs.Built.{empty}
use Rattle.dns_base.specs.Header.{header_of}
use Rattle.dns_base.specs.Msg.{Msg}
use Rattle.dns_base.specs.Records.{record_of}
use Rattle.dns_base.specs.Replies.{answer_to}
use Rattle.dns_base.specs.Sections.{first_of, questions_of}
use Rattle.dns_base.specs.Wire.{wire}
use Rattle.dns_message.specs.declared.question.Question.{Question}
use Rattle.dns_service.specs.Req.{Req}
use Rattle.dns_service.specs.declared.service.Polled.TheVariants.{Pending, Ready}
use Rattle.dns_service.specs.declared.service.ServiceError.{ServiceError}
use Rattle.dns_service.specs.declared.service.ServiceError.TheVariants.{FormatError, InternalError, NotImplemented, Refused}
use Rattle.dns_service.specs.declared.reply_error.ReplyError.{ReplyError}
use Rattle.dns_service.specs.declared.reply_error.ReplyError.TheVariants.{Service, OutOfMemory as NoMemory}
use Rattle.dns_route.specs.OwnReplies.{kept_whole}
use Rattle.dns_route.specs.ReplyMessage.{ReplyState, reply_message}
use Rattle.dns_route.specs.Routes.{ends_name}
use Rattle.dns_route.specs.Turns.{TurnAnswer}
use Rattle.dns_zone.specs.Owned.{ZoneState}
use Rattle.dns_zone.specs.ZoneReply.{ZoneReply, zone_reply}

-- the answer that is begun to a query's octets, with authority or without
abbrev pub zone_begun : List ℕ → ℕ → Bool → Msg
zone_begun o rcode aa = let m = (answer_to (unlimited empty) o rcode).message in record m { header = record m.header { aa = aa } }

-- with the sections of a reply
abbrev pub zone_message : List ℕ → ZoneReply → Msg
zone_message o r = record (zone_begun o r.rcode r.aa) {
  answers = map record_of r.answers;
  authority = map record_of r.authority;
  additional = map record_of r.additional;
}

-- a message of at most 65,535 octets is the reply
abbrev pub fitted : Msg → Result ReplyState ServiceError
fitted m = if nat_le (length (wire m)) 65535 then Ok (kept_whole m) else Err InternalError

-- a reply or an error is answered, unless memory runs out
abbrev pub GivesReply : Result ReplyState ServiceError → Result ReplyState ReplyError → Type 0
GivesReply answer (Ok r) = answer ≡ Ok r
GivesReply answer (Err (Service e)) = answer ≡ Err e
GivesReply answer (Err NoMemory) = Unit {0}

-- whether a zone is asked: for class IN, and for a name at or below the apex
abbrev pub asks_zone : ZoneState → Question → Bool
asks_zone z q = nat_eq q.qclass 1 && ends_name q.qname z.apex

-- the answer to a query's octets, of an opcode, by their first question
abbrev pub zone_answer : ZoneState → List ℕ → ℕ → Option Question → Result ReplyState ServiceError
zone_answer z o opcode None = Err FormatError
zone_answer z o opcode (Some q) =
    if nat_eq opcode 0 then (if asks_zone z q then fitted (zone_message o (zone_reply z q)) else Err Refused)
    else Err NotImplemented

abbrev pub zone_turn : ZoneState → Req (Unit {0}) → ℕ → TurnAnswer
zone_turn z r k = Ready (zone_answer z r.octets (header_of r.octets).opcode (first_of (questions_of r.octets).0))

-- what is built for a query's octets: the message of the zone's reply to their question, section for section
abbrev pub built_for : ZoneState → List ℕ → Option Question → Option (Result Msg ParseError)
built_for z o None = None
built_for z o (Some q) = Some (Ok (zone_message o (zone_reply z q)))

-- that is what is built of a reply
abbrev pub IsReplyTo : ZoneState → List ℕ → Option Question → ReplyState → Type 0
IsReplyTo z o q r = Some (reply_message r) ≡ built_for z o q

-- a turn that gives a reply to a query's octets gives such a one
abbrev pub TurnsTo : ZoneState → List ℕ → TurnAnswer → Type 0
TurnsTo z o Pending = Unit {0}
TurnsTo z o (Ready (Err e)) = Unit {0}
TurnsTo z o (Ready (Ok r)) = IsReplyTo z o (first_of (questions_of o).0) r

-- The layers before upstreams: what is answered if an item is given for a request, and what an upstream is asked.
use Rattle.std.specs.Prelude.{ℕ, ◌≡◌, ◌&&◌, Bool, true, List, [], ◌∷◌, Option, Some, None, length, nat_eq, nat_le, if◌then◌else◌, Result, Ok, Err}
use Rattle.dns_name.specs.declared.error.ParseError.{ParseError}
use Rattle.dns_message.specs.declared.header.Header.{Header}
use Rattle.dns_message.specs.declared.header.HeaderCounts.{HeaderCounts}
use Rattle.dns_message.specs.declared.question.Question.{Question}
use Rattle.dns_base.specs.Msg.{Msg}
use Rattle.dns_base.specs.Sections.{counts_of, first_of, questions_of}
use Rattle.dns_base.specs.Wire.{wire}
use Rattle.dns_events.specs.declared.settings.Settings.{Settings}
use Rattle.dns_service.specs.Answer.{Answer, Item}
use Rattle.dns_service.specs.Once.{once}
use Rattle.dns_service.specs.Req.{Req}
use Rattle.dns_service.specs.declared.service.Polled.TheVariants.{Pending, Ready}
use Rattle.dns_service.specs.declared.service.ServiceError.TheVariants.{InternalError}
use Rattle.dns_layers.specs.declared.notice.Notice.{Notice}
use Rattle.dns_layers.specs.declared.no_secondaries.NoSecondaries.{NoSecondaries}
use Rattle.dns_layers.specs.declared.notifiable.NotifyError.TheVariants.{NotAuthForZone}
use Rattle.dns_layers.specs.Notify.{PolledVerdict}
use Rattle.dns_middleware.specs.Wrapped.{gate, replies}
use Rattle.dns_decide.specs.Decided.{is_pass}
use Rattle.dns_route.specs.Relays.{relay_answer}
use Rattle.dns_route.specs.RequestMessage.{RequestState, request_of, request_sent}
use Rattle.dns_route.specs.Turns.{TurnAnswer, turn_item}
use Rattle.dns_route.specs.declared.send_request.SendError.{SendError}

-- the message that a request is sent as, of at most 65,535 octets
abbrev pub message_sent : RequestState → Option (List ℕ)
message_sent m = if nat_le (length (wire (request_sent m))) 65535 then Some (wire (request_sent m)) else None

abbrev pub read_sent : Result RequestState ParseError → Option (List ℕ)
read_sent (Ok m) = message_sent m
read_sent (Err e) = None

-- the message that is sent for octets that are a request, if they can be read
abbrev pub sendable : List ℕ → Option (List ℕ)
sendable o = read_sent (request_of o)

-- octets that state one question, which this is, and no records; and the message of a header and one question
abbrev pub asks_alone : HeaderCounts → Bool
asks_alone c = nat_eq c.qdcount 1 && (nat_eq c.ancount 0 && (nat_eq c.nscount 0 && nat_eq c.arcount 0))

abbrev pub AsksAlone : List ℕ → Question → Type 0
AsksAlone o q = (asks_alone (counts_of o) ≡ true) × (first_of (questions_of o).0 ≡ Some q)

abbrev pub lone_question : Header → Question → Msg
lone_question h q = record { header = h; questions = q ∷ []; answers = []; authority = []; additional = [] }

-- what is given for a request: InternalError if nothing can be sent for it
abbrev pub given_where : Option (List ℕ) → Item → Item
given_where None i = Err InternalError
given_where (Some m) i = i

-- a target of a server that is a secondary of no zone
abbrev pub no_zones : Notice → ℕ → PolledVerdict
no_zones notice k = Ready (Err NotAuthForZone)

abbrev pub no_verdict : NoSecondaries → ℕ → PolledVerdict
no_verdict target k = Ready (Err NotAuthForZone)

-- what the layers answer to a request if this item is given for it
abbrev pub layered : Settings → Item → Req (Unit {0}) → ℕ → Answer
layered s i = replies s (λ q. once (given_where (sendable q.octets) i)) no_zones

-- the message that an upstream is asked for a request that is passed on
abbrev pub asked_message : Settings → Req (Unit {0}) → Option (List ℕ)
asked_message s r = if is_pass (gate s r) then sendable r.octets else None

-- the item that a turn gives, after which there is none
abbrev pub given_turn : TurnAnswer → Item
given_turn Pending = Err InternalError
given_turn (Ready r) = turn_item r

-- the item that an upstream's answer to a query gives: the reply that is made of it, or SERVFAIL with a text
abbrev pub given : List ℕ → Result (List ℕ) SendError → Item
given query r = given_turn (relay_answer query (Ready r))

-- the item in an answer
abbrev pub item_in : Answer → Item
item_in Pending = Err InternalError
item_in (Ready None) = Err InternalError
item_in (Ready (Some i)) = i

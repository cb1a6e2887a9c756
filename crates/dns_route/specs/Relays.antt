-- What a single service answers that asks a transport: the request is sent on, and the answer becomes the reply.
use Rattle.std.specs.Prelude.{ℕ, List, Option, Some, None, Result, Ok, Err}
use Rattle.dns_name.specs.declared.error.ParseError.{ParseError}
use Rattle.dns_service.specs.Req.{Req}
use Rattle.dns_service.specs.declared.service.Polled.{Polled}
use Rattle.dns_service.specs.declared.service.Polled.TheVariants.{Pending, Ready}
use Rattle.dns_service.specs.declared.service.ServiceError.{ServiceError}
use Rattle.dns_service.specs.declared.service.ServiceError.TheVariants.{FormatError, InternalError}
use Rattle.dns_route.specs.declared.send_request.SendError.{SendError}
use Rattle.dns_route.specs.OwnReplies.{explained, send_error_text}
use Rattle.dns_route.specs.ReplyMessage.{ReplyState, reply_read}
use Rattle.dns_route.specs.RequestMessage.{RequestState, request_of}
use Rattle.dns_route.specs.Turns.{TurnAnswer}

-- what a transport answers: it is pending, or has the octets of a message or an error
abbrev pub SentAnswer : Type 0
SentAnswer = Polled (Result (List ℕ) SendError)

-- the reply that a message begins, or FormatError if an option of its OPT record is unreadable
abbrev pub read_reply : Result ReplyState ParseError → Result ReplyState ServiceError
read_reply (Ok r) = Ok r
read_reply (Err e) = Err FormatError

-- a transport's answer to a query; its error is SERVFAIL with a text
abbrev pub relay_answer : List ℕ → SentAnswer → TurnAnswer
relay_answer query Pending = Pending
relay_answer query (Ready (Ok o)) = Ready (read_reply (reply_read o))
relay_answer query (Ready (Err e)) = Ready (Ok (explained query (send_error_text e)))

-- a request that can't be read isn't sent
abbrev pub relayed_by : (RequestState → ℕ → SentAnswer) → List ℕ → ℕ → Result RequestState ParseError → TurnAnswer
relayed_by answer query k (Ok m) = relay_answer query (answer m k)
relayed_by answer query k (Err e) = Ready (Err InternalError)

abbrev pub relayed : (RequestState → ℕ → SentAnswer) → Req (Unit {0}) → ℕ → TurnAnswer
relayed answer r k = relayed_by answer r.octets k (request_of r.octets)

-- the request that is sent, if it can be read
abbrev pub readable_request : Result RequestState ParseError → Option RequestState
readable_request (Ok m) = Some m
readable_request (Err e) = None

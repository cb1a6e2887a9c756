-- One question to one upstream: what comes of each arrival and each tick (RFC 1035, sections 4.2.1 and 7.3).
use Rattle.std.specs.Prelude.{ℕ, suc, ◌+◌, ◌||◌, Bool, List, [], ◌∷◌, ◌++◌, length, nat_le, nat_lt, is_some, if◌then◌else◌, Option, Some, None, Ok, Err}
use Rattle.std.specs.List.{filter, filter_map}
use Rattle.dns_base.specs.Header.{header_of}
use Rattle.dns_base.specs.Sections.{first_of}
use Rattle.dns_service.specs.declared.service.Polled.TheVariants.{Pending, Ready}
use Rattle.dns_route.specs.declared.send_request.SendError.TheVariants.{Timeout}
use Rattle.dns_route.specs.Relays.{SentAnswer}
use Rattle.dns_forward.specs.declared.asking_event.AskingEvent.{AskingEvent}
use Rattle.dns_forward.specs.declared.asking_event.AskingEvent.TheVariants.{Arrived, Tick}
use Rattle.dns_forward.specs.declared.asking_event.AskingOutcome.{AskingOutcome}
use Rattle.dns_forward.specs.declared.asking_event.AskingOutcome.TheVariants.{OfArrival, OfTick}
use Rattle.dns_forward.specs.declared.asking_event.Ticked.{Ticked}
use Rattle.dns_forward.specs.declared.asking_event.Ticked.TheVariants.{Nothing, Send, GaveUp}
use Rattle.dns_forward.specs.Matching.{matches, with_id}

-- what is asked: a message, under an identifier; how often it is sent at most, and after what time again; and when it was sent first
pub record Inquiry : Type 0 where
  pub message : List ℕ
  pub id : ℕ
  pub tries : ℕ
  pub timeout : ℕ
  pub at : ℕ

-- the octets that an event brings, and the moment that it looks at
abbrev pub arrival : AskingEvent → Option (List ℕ)
arrival (Arrived at o) = Some o
arrival (Tick at) = None

abbrev pub moment_of_tick : AskingEvent → Option ℕ
moment_of_tick (Arrived at o) = None
moment_of_tick (Tick at) = Some at

-- the arrivals that match
abbrev pub matching_arrivals : Inquiry → List AskingEvent → List (List ℕ)
matching_arrivals q es = filter (λ (o : List ℕ). matches q.message q.id o) (filter_map arrival es)

-- a tick is due once the timeout passed since the last send, and if the moment at which it passes has no number
abbrev pub is_due : ℕ → ℕ → ℕ → Bool
is_due timeout last at = nat_le (last + timeout) at || nat_lt 18446744073709551615 (last + timeout)

-- of moments those that are due, each of which is a send, from which the next is counted
abbrev pub due : ℕ → ℕ → List ℕ → List ℕ
due timeout last [] = []
due timeout last (at ∷ ats) = if is_due timeout last at then at ∷ due timeout at ats else due timeout last ats

-- the ticks that are due
abbrev pub due_ticks : Inquiry → List AskingEvent → List ℕ
due_ticks q es = due q.timeout q.at (filter_map moment_of_tick es)

-- the last of moments, or else an earlier one
abbrev pub last_from : ℕ → List ℕ → ℕ
last_from at [] = at
last_from at (next ∷ ats) = last_from next ats

-- it has ended if something matched, or as many ticks were due as there are tries, the last of which gave it up
abbrev pub ended_by : ℕ → List (List ℕ) → List ℕ → Bool
ended_by tries arrivals ats = is_some (first_of arrivals) || nat_le tries (length ats)

abbrev pub has_ended : Inquiry → List AskingEvent → Bool
has_ended q es = ended_by q.tries (matching_arrivals q es) (due_ticks q es)

-- what matches is the answer, which is given under the identifier of the message that was asked
abbrev pub arrival_outcome : Inquiry → List ℕ → Option (List ℕ)
arrival_outcome q o = if matches q.message q.id o then Some (with_id (header_of q.message).id o) else None

-- a due tick sends again while fewer sends than tries were made: the first, and one at each tick that was due
abbrev pub tick_outcome : Inquiry → List ℕ → ℕ → Ticked
tick_outcome q ats at = if is_due q.timeout (last_from q.at ats) at
    then (if nat_lt (suc (length ats)) q.tries then Send else GaveUp) else Nothing

-- what comes of an event after others
abbrev pub outcome : Inquiry → List AskingEvent → AskingEvent → AskingOutcome
outcome q es (Arrived at o) = OfArrival (if has_ended q es then None else arrival_outcome q o)
outcome q es (Tick at) = OfTick (if has_ended q es then Nothing else tick_outcome q (due_ticks q es) at)

-- what comes of each event, after others
abbrev pub outcomes : Inquiry → List AskingEvent → List AskingEvent → List AskingOutcome
outcomes q before [] = []
outcomes q before (e ∷ es) = outcome q before e ∷ outcomes q (before ++ e ∷ []) es

-- what comes of each event
abbrev pub asked_by : Inquiry → List AskingEvent → List AskingOutcome
asked_by q es = outcomes q [] es

abbrev pub asked : List ℕ → ℕ → ℕ → ℕ → ℕ → List AskingEvent → List AskingOutcome
asked message id tries timeout at events
    = asked_by (record { message = message; id = id; tries = tries; timeout = timeout; at = at }) events

-- what outcomes lead to: the answer, Timeout if it was given up, and else nothing yet
abbrev pub led_to : List AskingOutcome → SentAnswer
led_to [] = Pending
led_to (OfArrival (Some m) ∷ os) = Ready (Ok m)
led_to (OfArrival None ∷ os) = led_to os
led_to (OfTick GaveUp ∷ os) = Ready (Err Timeout)
led_to (OfTick Send ∷ os) = led_to os
led_to (OfTick Nothing ∷ os) = led_to os

-- what outcomes lead to after one outcome more
abbrev pub led_on : SentAnswer → AskingOutcome → SentAnswer
led_on (Ready answer) o = Ready answer
led_on Pending o = led_to (o ∷ [])

-- the first moment at which a tick is due; that is 0 if the moment at which the timeout passes has no number
abbrev pub first_due : ℕ → ℕ → ℕ
first_due timeout last = if nat_lt 18446744073709551615 (last + timeout) then 0 else last + timeout

-- the deadline after events: the first moment at which a tick is due, counted from the last send; none once it has ended
abbrev pub deadline : Inquiry → List AskingEvent → Option ℕ
deadline q es = if has_ended q es then None else Some (first_due q.timeout (last_from q.at (due_ticks q es)))

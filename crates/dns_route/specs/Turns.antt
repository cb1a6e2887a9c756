-- What a single service answers turn by turn, and the answers of the service that is made of one (own): as many polls are
-- pending as turns are, then comes one item, and then the end.
use Rattle.std.specs.Prelude.{ℕ, zero, suc, ◌+◌, length, nat_eq, nat_le, if◌then◌else◌, Option, Some, None, Result, Ok, Err}
use Rattle.dns_name.specs.declared.error.ParseError.{ParseError}
use Rattle.dns_base.specs.Msg.{Msg}
use Rattle.dns_base.specs.Wire.{wire}
use Rattle.dns_service.specs.Answer.{Answer, Item}
use Rattle.dns_service.specs.Req.{Req}
use Rattle.dns_service.specs.declared.service.Polled.{Polled}
use Rattle.dns_service.specs.declared.service.Polled.TheVariants.{Pending, Ready}
use Rattle.dns_service.specs.declared.service.ServiceError.{ServiceError}
use Rattle.dns_service.specs.declared.service.ServiceError.TheVariants.{InternalError}
use Rattle.dns_route.specs.ReplyMessage.{ReplyState, reply_message}

-- what a turn answers: it is pending, or gives a reply or an error
abbrev pub TurnAnswer : Type 0
TurnAnswer = Polled (Result ReplyState ServiceError)

-- a reply that is a message of at most 65,535 octets; else the message couldn't be built
abbrev pub built_item : Result Msg ParseError → Item
built_item (Ok m) = if nat_le (length (wire m)) 65535 then Ok (record { response = Some m; feedback = None }) else Err InternalError
built_item (Err e) = Err InternalError

-- the item that a reply or an error becomes
abbrev pub turn_item : Result ReplyState ServiceError → Item
turn_item (Ok r) = built_item (reply_message r)
turn_item (Err e) = Err InternalError

-- the last number that a turn has
abbrev pub last_turn : ℕ
last_turn = 18446744073709551615

-- the item with which the turns end at a number, if they do; after the last number there is no other
abbrev pub end_by_turn : ℕ → TurnAnswer → Option Item
end_by_turn n Pending = if nat_eq n last_turn then Some (Err InternalError) else None
end_by_turn n (Ready r) = Some (turn_item r)

-- the answer to the poll at which a turn is made, and to one after it, where go answers that if the turns go on
abbrev pub now_by : Option Item → Answer
now_by None = Pending
now_by (Some item) = Ready (Some item)

abbrev pub later_by : Option Item → Answer → Answer
later_by None go = go
later_by (Some item) go = Ready None

-- the answers by number, where the next turn has this number
abbrev pub turns_answer : (ℕ → TurnAnswer) → ℕ → ℕ → Answer
turns_answer turned n zero = now_by (end_by_turn n (turned n))
turns_answer turned n (suc k) = later_by (end_by_turn n (turned n)) (turns_answer turned (n + 1) k)

-- the answers to a request, whose turns have the numbers from 0
abbrev pub turned_over : (Req (Unit {0}) → ℕ → TurnAnswer) → Req (Unit {0}) → ℕ → Answer
turned_over answer r = turns_answer (answer r) 0

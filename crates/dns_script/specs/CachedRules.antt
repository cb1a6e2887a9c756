-- What is written for questions that a cache in front of a script's rules is asked.
use Rattle.std.specs.Prelude.{ℕ, zero, suc, ◌≡◌, ◌≤◌, ◌⊎◌, ◌+◌, List, [], ◌∷◌, ◌++◌, Option, Some, None, Result, Ok, Err, codes, if◌then◌else◌}
use Rattle.hex.specs.Hex.{encode_lower}
use Rattle.dns_name.specs.declared.error.ParseError.{ParseError}
use Rattle.dns_base.specs.Msg.{Msg}
use Rattle.dns_base.specs.Wire.{wire}
use Rattle.dns_service.specs.Answer.{Answer}
use Rattle.dns_service.specs.Req.{Req}
use Rattle.dns_service.specs.declared.message.TransportSpecificContext.TheVariants.{Udp}
use Rattle.dns_service.specs.declared.service.Polled.TheVariants.{Pending, Ready}
use Rattle.dns_service.specs.declared.service.ServiceError.{ServiceError}
use Rattle.dns_service.specs.declared.service.ServiceError.TheVariants.{FormatError, InternalError}
use Rattle.dns_service.specs.declared.service.ServiceFeedback.{ServiceFeedback}
use Rattle.dns_route.specs.Relays.{read_reply}
use Rattle.dns_route.specs.ReplyMessage.{ReplyState, reply_message, reply_read}
use Rattle.dns_route.specs.Turns.{TurnAnswer}
use Rattle.dns_cache.specs.AskedCache.{Cached, empty_cache, fits_frame}
use Rattle.dns_cache.specs.Calls.{TurnAnswers, called}
use Rattle.dns_script.specs.Plan.{Plan, rules_of}
use Rattle.dns_script.specs.Played.{played}
use Rattle.dns_script.specs.Spelled.{spelled_error}
use Rattle.dns_script.specs.declared.ask.Ask.{Ask}
use Rattle.dns_script.specs.declared.rule.Rule.{Rule}

-- the request of a datagram, however long that is
abbrev pub request_of_ask : Ask → Req (Unit {0})
request_of_ask a = record {
  octets = a.message;
  client_addr = a.addr;
  received_at = a.at;
  received_secs = a.secs;
  transport = Udp None;
  reserved = 0;
  metadata = tt;
}

-- ---- the rules as a single service

-- a message is the reply that it begins; a feedback, with a message too, is the error `servfail`
abbrev pub turn_of_item : Option Msg → Option ServiceFeedback → Result ReplyState ServiceError
turn_of_item (Some m) None = read_reply (reply_read (wire m))
turn_of_item (Some m) (Some feedback) = Err InternalError
turn_of_item None feedback = Err InternalError

-- a turn by what a rule gives at a poll; after its last answer that is the error `servfail`
abbrev pub turn_by : Answer → TurnAnswer
turn_by Pending = Pending
turn_by (Ready None) = Ready (Err InternalError)
turn_by (Ready (Some (Err e))) = Ready (Err e)
turn_by (Ready (Some (Ok given))) = Ready (turn_of_item given.response given.feedback)

abbrev pub rule_turns : List Rule → TurnAnswers
rule_turns rules r k = turn_by (played rules r k)

-- ---- the lines

-- answer HEX
abbrev pub answer_line : Msg → List ℕ
answer_line m = codes "answer " ++ (encode_lower (wire m) ++ codes "\n")

-- error formerr|servfail|notimp|refused
abbrev pub error_line : ServiceError → List ℕ
error_line e = codes "error " ++ (spelled_error e ++ codes "\n")

-- the line of a reply is that of the message which is built of it, and of the error if none can be
abbrev pub reply_line : Result Msg ParseError → List ℕ
reply_line (Ok m) = if fits_frame m then answer_line m else error_line InternalError
reply_line (Err e) = error_line FormatError

-- the line of a call that is ready
abbrev pub turn_text : TurnAnswer → Option (List ℕ)
turn_text Pending = None
turn_text (Ready (Ok reply)) = Some (reply_line (reply_message reply))
turn_text (Ready (Err e)) = Some (error_line e)

-- a message out of the cache, and else what the service answers
abbrev pub call_text : Option Msg → TurnAnswer → Option (List ℕ)
call_text (Some m) answer = Some (answer_line m)
call_text None answer = turn_text answer

-- ---- the calls

-- a line, and the cache after its calls
pub record CacheLine : Type 0 where
  pub line : List ℕ
  pub behind : Cached

-- the line of a call that is ready, and else of the calls that follow
abbrev pub or_later : Option (List ℕ) → Cached → CacheLine → CacheLine
or_later (Some line) behind later = record { line = line; behind = behind }
or_later None behind later = later

-- at most n calls of a request, of which the first has number k, until one is ready
abbrev pub called_from : TurnAnswers → Req (Unit {0}) → ℕ → ℕ → Cached → CacheLine
called_from answers r zero k c = record { line = codes "pending\n"; behind = c }
called_from answers r (suc n) k c =
    let call = called answers c (record { request = r; k = k }) in
    or_later (call_text call.cached (answers r k)) call.behind (called_from answers r n (k + 1) call.behind)

-- the cache after a call of a request
abbrev pub call_behind : TurnAnswers → Req (Unit {0}) → ℕ → Cached → Cached
call_behind answers r k c = (called answers c (record { request = r; k = k })).behind

-- the cache after n calls of a request, of which the first has number k
abbrev pub calls_behind : TurnAnswers → Req (Unit {0}) → ℕ → ℕ → Cached → Cached
calls_behind answers r zero k c = c
calls_behind answers r (suc n) k c = calls_behind answers r n (k + 1) (call_behind answers r k c)

-- a cache is as before a call of a request, or as after it
abbrev pub IsAtCall : TurnAnswers → Req (Unit {0}) → ℕ → Cached → Cached → Type 0
IsAtCall answers r k c d = (d ≡ c) ⊎ (d ≡ call_behind answers r k c)

-- a cache is as after the first of at most 1,000 calls of a request, none or more
pub record IsBehindCalls (answers : TurnAnswers) (r : Req (Unit {0})) (c d : Cached) : Type 0 where
  pub calls : ℕ
  pub few : calls ≤ 1000
  pub behind : d ≡ calls_behind answers r calls 0 c

-- at most 1,000 calls
unfoldable pub first_ready : TurnAnswers → Req (Unit {0}) → Cached → CacheLine
first_ready answers r c = called_from answers r 1000 0 c

abbrev pub asked_once : TurnAnswers → Cached → Ask → CacheLine
asked_once answers c ask = first_ready answers (request_of_ask ask) c

-- the lines of asks, one by one
abbrev pub asks_text : TurnAnswers → Cached → List Ask → List ℕ
asks_text answers c [] = []
asks_text answers c (ask ∷ asks) =
    let asked = asked_once answers c ask in
    asked.line ++ asks_text answers asked.behind asks

-- what is written for a script: its asks, of an empty cache of this capacity in front of its rules
unfoldable pub cache_text : ℕ → Plan Ask → List ℕ
cache_text capacity p = asks_text (rule_turns (rules_of p.service)) (empty_cache capacity) p.events

-- rules, and what is cached in front of them
pub record CachedState : Type 0 where
  pub rules : List Rule
  pub cached : Cached

abbrev pub asked_state : CachedState → Ask → CacheLine
asked_state s ask = asked_once (rule_turns s.rules) s.cached ask

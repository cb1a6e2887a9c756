-- What a script's upstreams answer: each question is sent twice at most, under an identifier of its own, and at each poll what its word
-- says happens.
use Rattle.std.specs.Prelude.{ℕ, ◌≡◌, ◌<◌, zero, suc, ◌+◌, ◌%◌, List, [], ◌∷◌, ◌++◌, bit_xor, length, map, nat_le, unwrap_or, if◌then◌else◌, Result, Ok, Err}
use Rattle.std.specs.List.{slice_get}
use Rattle.dns_base.specs.Header.{header_of}
use Rattle.dns_base.specs.Msg.{Msg}
use Rattle.dns_base.specs.Replies.{answer_to, have_room}
use Rattle.dns_base.specs.Wire.{wire}
use Rattle.dns_session.specs.Timers.{last_moment}
use Rattle.dns_forward.specs.Asked.{asked, led_to}
use Rattle.dns_forward.specs.Forwarded.{SingleAnswers}
use Rattle.dns_forward.specs.declared.asking_event.AskingEvent.{AskingEvent}
use Rattle.dns_forward.specs.declared.asking_event.AskingEvent.TheVariants.{Arrived, Tick}
use Rattle.dns_name.specs.declared.error.ParseError.{ParseError}
use Rattle.dns_route.specs.Relays.{SentAnswer, relay_answer}
use Rattle.dns_route.specs.RequestMessage.{RequestState, request_of, request_sent}
use Rattle.dns_route.specs.Routes.{Route}
use Rattle.dns_route.specs.Turns.{TurnAnswer}
use Rattle.dns_service.specs.declared.service.Polled.TheVariants.{Ready}
use Rattle.dns_service.specs.declared.service.ServiceError.TheVariants.{InternalError}
use Rattle.dns_script.specs.Played.{new_builder}
use Rattle.dns_script.specs.declared.upstream.UpstreamLine.{UpstreamLine}
use Rattle.dns_script.specs.declared.upstream.UpstreamWord.{UpstreamWord}
use Rattle.dns_script.specs.declared.upstream.UpstreamWord.TheVariants.{Pend, Rcode, Stray, Late}

-- the reply to a message with this response code, under an identifier
abbrev pub reply_under : ℕ → List ℕ → ℕ → Msg
reply_under id o code = let m = (answer_to new_builder o code).message in record m { header = record m.header { id = id } }

-- that reply arrives, if it has room for the questions
abbrev pub replied_to : ℕ → List ℕ → ℕ → List AskingEvent
replied_to id o code = if have_room new_builder o code then Arrived last_moment (wire (reply_under id o code)) ∷ [] else []

-- what happens for a word, if a message of these octets was sent under an identifier; a tick at the last moment is due
abbrev pub word_events : ℕ → List ℕ → UpstreamWord → List AskingEvent
word_events id o Pend = []
word_events id o (Rcode code) = replied_to id o code
word_events id o (Stray code) = replied_to ((id + 1) % 65536) o code
word_events id o Late = Tick last_moment ∷ []

-- the word of a poll; after the last one an upstream is late
abbrev pub word_of_poll : List UpstreamWord → ℕ → UpstreamWord
word_of_poll words k = unwrap_or (slice_get words k) Late

-- the word of each of the first polls is pend
abbrev pub PendFirst : List UpstreamWord → ℕ → Type 0
PendFirst words n = (k : ℕ) → k < n → word_of_poll words k ≡ Pend

-- what happens up to a poll
abbrev pub events_to : ℕ → List ℕ → List UpstreamWord → ℕ → List AskingEvent
events_to id o words zero = word_events id o (word_of_poll words zero)
events_to id o words (suc k) = events_to id o words k ++ word_events id o (word_of_poll words (suc k))

-- the identifier that a message is sent on under
abbrev pub sent_id : List ℕ → ℕ
sent_id o = bit_xor (header_of o).id 0x5555

-- what is answered at a poll to a message of these octets
abbrev pub answered_at : List UpstreamWord → List ℕ → ℕ → SentAnswer
answered_at words o k = led_to (asked o (sent_id o) 2 1 0 (events_to (sent_id o) o words k))

-- what the answer of an upstream of these words to a message of these octets becomes; InternalError to one above 65,535 octets
abbrev pub sent_turn : List UpstreamWord → List ℕ → ℕ → List ℕ → TurnAnswer
sent_turn words query k o = if nat_le (length o) 65535 then relay_answer query (answered_at words o k) else Ready (Err InternalError)

-- a request is sent as a message if it can be read, and else InternalError
abbrev pub request_turn : List UpstreamWord → List ℕ → ℕ → Result RequestState ParseError → TurnAnswer
request_turn words query k (Ok m) = sent_turn words query k (wire (request_sent m))
request_turn words query k (Err e) = Ready (Err InternalError)

-- what a single service over an upstream of these words answers
abbrev pub upstream_turn : List UpstreamWord → SingleAnswers
upstream_turn words r k = request_turn words r.octets k (request_of r.octets)

-- the names of upstreams, and their words
abbrev pub upstreams_under : List UpstreamLine → List (Route (List UpstreamWord))
upstreams_under us = map (λ (u : UpstreamLine). (u.name, u.words)) us

-- Zone transfers (RFC 5936): all records of a zone in several replies, which are a transaction.
use Rattle.std.specs.Prelude.{ℕ, zero, suc, ◌≡◌, ◌≤◌, ◌+◌, ◌-◌, Bool, true, not, List, [], ◌∷◌, ◌++◌, map, length, nat_eq, nat_le, if◌then◌else◌, Option, Some, None, Ok, Err}
use Rattle.std.specs.List.{AllByRecursion, filter, flat_map, slice_get}
use Rattle.dns_base.specs.Msg.{Msg, ResourceRecord}
use Rattle.dns_base.specs.Records.{record_of}
use Rattle.dns_base.specs.Replaced.{spelling}
use Rattle.dns_base.specs.Sections.{questions_of}
use Rattle.dns_base.specs.Wire.{record_octets, wire}
use Rattle.dns_name.specs.Labels.{IsName}
use Rattle.dns_message.specs.declared.question.Question.{Question}
use Rattle.dns_message.specs.declared.record.Record.{Record}
use Rattle.dns_service.specs.Answer.{Answer, Item}
use Rattle.dns_session.specs.Heard.{answer_status}
use Rattle.dns_service.specs.declared.invoker.InvokerStatus.{InvokerStatus}
use Rattle.dns_service.specs.declared.invoker.InvokerStatus.TheVariants.{Normal, InTransaction}
use Rattle.dns_service.specs.declared.service.Polled.TheVariants.{Pending, Ready}
use Rattle.dns_service.specs.declared.service.ServiceError.TheVariants.{InternalError}
use Rattle.dns_service.specs.declared.service.ServiceFeedback.{ServiceFeedback}
use Rattle.dns_service.specs.declared.service.ServiceFeedback.TheVariants.{BeginTransaction, EndTransaction}
use Rattle.dns_zone.specs.Owned.{ZoneState, is_of}
use Rattle.dns_zone.specs.ZoneTurns.{zone_begun}

-- ---- what is transferred

abbrev pub soa_records : ZoneState → List Record
soa_records z = filter (is_of 6) z.records

abbrev pub is_no_soa : Record → Bool
is_no_soa r = not (is_of 6 r)

abbrev pub other_records : ZoneState → List Record
other_records z = filter is_no_soa z.records

-- the SOA record, then all others in order, then the SOA record again (section 2.2)
abbrev pub transfer_records : ZoneState → List ResourceRecord
transfer_records z = map record_of (soa_records z ++ (other_records z ++ soa_records z))

-- what is sent of a zone that has these records: the SOA record, the others in order, the SOA record again
abbrev pub sent_records : List Record → List ResourceRecord
sent_records rs = map record_of (filter (is_of 6) rs ++ (filter is_no_soa rs ++ filter (is_of 6) rs))

-- ---- in bunches

-- how many octets the records of one reply take, if they are several
abbrev pub bunch_limit : ℕ
bunch_limit = 16384

-- an empty bunch has room for each record, another one for a record with which it stays within the limit
abbrev pub has_room_for : List ResourceRecord → ResourceRecord → Bool
has_room_for [] r = true
has_room_for (x ∷ xs) r = nat_le (length (spelling (x ∷ xs ++ r ∷ []))) bunch_limit

-- a bunch that is begun takes each record that it has room for, and the first other one begins the next
abbrev pub bunches : List ResourceRecord → List ResourceRecord → List (List ResourceRecord)
bunches b [] = b ∷ []
bunches b (r ∷ rs) = if has_room_for b r then bunches (b ++ r ∷ []) rs else b ∷ bunches (r ∷ []) rs

abbrev pub bunched : List ResourceRecord → List (List ResourceRecord)
bunched rs = bunches [] rs

-- ---- in replies

-- the reply to a query's octets that has these answers, with authority
abbrev pub transfer_message : List ℕ → List ResourceRecord → Msg
transfer_message o b = record (zone_begun o 0 true) { answers = b }

abbrev pub message_item : Option ServiceFeedback → Msg → Item
message_item f m = if nat_le (length (wire m)) 65535 then Ok (record { response = Some m; feedback = f }) else Err InternalError

-- the transaction begins with the first reply
abbrev pub feedback_at : ℕ → Option ServiceFeedback
feedback_at k = if nat_eq k 0 then Some BeginTransaction else None

-- a transaction ends after the last of n replies: an answer of its own says so
abbrev pub behind_replies : ℕ → ℕ → Answer
behind_replies n k = if nat_eq k n then Ready (Some (Ok (record { response = None; feedback = Some EndTransaction }))) else Ready None

abbrev pub transfer_poll : List ℕ → ℕ → ℕ → Option (List ResourceRecord) → Answer
transfer_poll o n k (Some b) = Ready (Some (message_item (feedback_at k) (transfer_message o b)))
transfer_poll o n k None = behind_replies n k

-- what is answered to poll k, if these are the bunches
abbrev pub transfer_of : List (List ResourceRecord) → List ℕ → ℕ → Answer
transfer_of bs o k = transfer_poll o (length bs) k (slice_get bs k)

-- what is answered to poll k of a transfer of a zone, asked for by a query's octets
abbrev pub transfer : ZoneState → List ℕ → ℕ → Answer
transfer z o k = transfer_of (bunched (transfer_records z)) o k

-- a transfer of which polls were answered
abbrev pub transfer_from : List (List ResourceRecord) → List ℕ → ℕ → ℕ → Answer
transfer_from bs o n k = transfer_of bs o (n + k)

-- how many answers are left: the replies and the end of the transaction
abbrev pub polls_left : ℕ → ℕ → ℕ × Option ℕ
polls_left n next = (n + 1 - next, Some (n + 1 - next))

-- ---- what a client has of it

abbrev pub item_message : Item → Option Msg
item_message (Ok given) = given.response
item_message (Err e) = None

abbrev pub answer_message : Answer → Option Msg
answer_message Pending = None
answer_message (Ready None) = None
answer_message (Ready (Some item)) = item_message item

abbrev pub answers_in : Option Msg → List ResourceRecord
answers_in None = []
answers_in (Some m) = m.answers

-- the answer records of the replies to the polls before n, joined
abbrev pub joined_answers : (ℕ → Answer) → ℕ → List ResourceRecord
joined_answers a zero = []
joined_answers a (suc n) = joined_answers a n ++ answers_in (answer_message (a n))

-- each reply fits a message
abbrev pub TransferFits : List (List ResourceRecord) → List ℕ → Type 0
TransferFits bs o = (k : ℕ) (b : List ResourceRecord) → slice_get bs k ≡ Some b → length (wire (transfer_message o b)) ≤ 65535

-- the records of all replies, joined, are those of the transfer
abbrev pub TransfersAreWhole : Type 0
TransfersAreWhole = (z : ZoneState) (o : List ℕ) (n : ℕ) → TransferFits (bunched (transfer_records z)) o
    → length (bunched (transfer_records z)) ≤ n → joined_answers (transfer z o) n ≡ transfer_records z

-- each reply fits 65,535 octets
abbrev pub TransfersFit : Type 0
TransfersFit = (z : ZoneState) (o : List ℕ) (k : ℕ) (m : Msg) → answer_message (transfer z o k) ≡ Some m → length (wire m) ≤ 65535

-- ---- which transfers fit

-- that many octets at most for one record, and one question: then each reply fits, with 264 octets left for an OPT record
abbrev pub record_limit : ℕ
record_limit = 65000

abbrev pub IsSmall : ResourceRecord → Type 0
IsSmall r = length (record_octets r) ≤ record_limit

abbrev pub SmallTransfersFit : Type 0
SmallTransfersFit = (z : ZoneState) (o : List ℕ) (q : Question) → (questions_of o).0 ≡ q ∷ [] → IsName q.qname
    → AllByRecursion IsSmall (transfer_records z) → TransferFits (bunched (transfer_records z)) o

-- ---- as a transaction

-- how far a request is after the first n answers
abbrev pub status_behind : (ℕ → Answer) → ℕ → InvokerStatus
status_behind a zero = Normal
status_behind a (suc n) = answer_status (a n) (status_behind a n)

-- once the feedback of an answer with a reply was heard, and before the reply is queued, the request is in its transaction: so no
-- reply is dropped if the queue is full
abbrev pub TransfersAreTransactions : Type 0
TransfersAreTransactions = (z : ZoneState) (o : List ℕ) (k : ℕ) (m : Msg) → TransferFits (bunched (transfer_records z)) o
    → answer_message (transfer z o k) ≡ Some m → status_behind (transfer z o) (suc k) ≡ InTransaction

-- after all replies, and one answer that says so, it is not
abbrev pub TransactionsEnd : Type 0
TransactionsEnd = (z : ZoneState) (o : List ℕ) → status_behind (transfer z o) (suc (length (bunched (transfer_records z)))) ≡ Normal

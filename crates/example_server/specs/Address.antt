-- What a service that knows one address answers: the address with AA to a question for it, and REFUSED to all else.
use Rattle.std.specs.Prelude.{ℕ, Bool, true, List, ◌&&◌, nat_eq, if◌then◌else◌, Option, Some, None, Ok, Err}
use Rattle.dns_base.specs.Built.{Built, empty, with_answer, with_header}
use Rattle.dns_base.specs.Msg.{ResourceRecord}
use Rattle.dns_base.specs.Replies.{answer_to, have_room, within_limit}
use Rattle.dns_base.specs.Sections.{first_of, questions_of}
use Rattle.dns_message.specs.declared.question.Question.{Question}
use Rattle.dns_service.specs.Answer.{Item}
use Rattle.dns_service.specs.declared.service.ServiceError.TheVariants.{InternalError, Refused}

-- a new builder: the empty message, which may take 65,535 octets
abbrev pub new_builder : Built
new_builder = record { message = empty; limit = 65535 }

-- a question for an address (RFC 1035, sections 3.2.2 and 3.2.4: type A is 1, class IN is 1)
abbrev pub asks_address : Question → Bool
asks_address q = nat_eq q.qtype 1 && nat_eq q.qclass 1

-- the address of a name, for 60 s
abbrev pub address_record : List (List ℕ) → List ℕ → ResourceRecord
address_record name address = record { owner = name; rtype = 1; class = 1; ttl = 60; rdata = address }

-- what is built, as the answer of an authority (RFC 1035, section 4.1.1: AA)
abbrev pub authoritative : Built → Built
authoritative b = with_header b (record b.message.header { aa = true })

-- what is built as a reply, or the error SERVFAIL if it passes its limit
abbrev pub replied_within : Built → Item
replied_within b = if within_limit b then Ok (record { response = Some b.message; feedback = None }) else Err InternalError

-- the answer with this record to a query's octets
abbrev pub answered_with : List ℕ → ResourceRecord → Item
answered_with o rr =
    if have_room new_builder o 0
    then replied_within (with_answer (authoritative (answer_to new_builder o 0)) rr)
    else Err InternalError

abbrev pub item_for : List ℕ → List ℕ → Option Question → Item
item_for o address None = Err Refused
item_for o address (Some q) = if asks_address q then answered_with o (address_record q.qname address) else Err Refused

-- the item for a query's octets, by the first question
abbrev pub address_item : List ℕ → List ℕ → Item
address_item o address = item_for o address (first_of (questions_of o).0)

-- A zone transfer as it comes in (RFC 5936, sections 2.2 and 3): the answer records of messages, from an SOA record of the zone up to
-- that SOA record again.
use Rattle.std.specs.Prelude.{ℕ, Bool, false, ◌&&◌, List, [], ◌∷◌, ◌++◌, length, nat_eq, nat_lt, is_some, if◌then◌else◌, Option, Some, None, Result, Ok, Err}
use Rattle.std.specs.List.{slice_get}
use Rattle.dns_name.specs.Canonical.{same_name}
use Rattle.dns_name.specs.declared.error.ParseError.{ParseError}
use Rattle.dns_base.specs.Header.{header_of}
use Rattle.dns_base.specs.Sections.{questions_of, reached, standing_answers}
use Rattle.dns_base.specs.Standing.{Standing, typed}
use Rattle.dns_message.specs.Equality.{same_record}
use Rattle.dns_message.specs.declared.header.Header.{Header}
use Rattle.dns_message.specs.declared.record.Record.{Record}
use Rattle.dns_route.specs.Routes.{ends_name}
use Rattle.dns_zone.specs.Owned.{is_of}
use Rattle.dns_incoming.specs.declared.status.TransferDefect.{TransferDefect}
use Rattle.dns_incoming.specs.declared.status.TransferDefect.TheVariants.{Identifier, Code, Unreadable, NoSoa, OtherSoa, Behind, Outside, TooMany}
use Rattle.dns_incoming.specs.declared.status.TransferStatus.{TransferStatus}
use Rattle.dns_incoming.specs.declared.status.TransferStatus.TheVariants.{More, Done, Refused}

-- the identifier that was asked with, the zone's apex, how many records it may have, those that came, and how far it is
pub record IncomingState : Type 0 where
  pub id : ℕ
  pub apex : List (List ℕ)
  pub most : ℕ
  pub records : List Record
  pub status : TransferStatus

-- the first fault stays
abbrev pub fault_kept : TransferStatus → TransferDefect → TransferStatus
fault_kept More f = Refused f
fault_kept Done f = Refused f
fault_kept (Refused first) f = Refused first

abbrev pub faulted : IncomingState → TransferDefect → IncomingState
faulted s f = record s { status = fault_kept s.status f }

-- ---- records

abbrev pub record_kept : IncomingState → Record → IncomingState
record_kept s r = record s { records = s.records ++ r ∷ [] }

-- an SOA record of the zone comes first
abbrev pub is_apex_soa : List (List ℕ) → Record → Bool
is_apex_soa apex r = is_of 6 r && same_name r.owner apex

abbrev pub opened_with : IncomingState → Record → IncomingState
opened_with s r = if is_apex_soa s.apex r then record_kept s r else faulted s NoSoa

-- the first record once more, its TTL aside, ends the transfer
abbrev pub is_again : Option Record → Record → Bool
is_again None r = false
is_again (Some first) r = same_record first r

abbrev pub ended_with : IncomingState → Record → IncomingState
ended_with s r = if is_again (slice_get s.records 0) r then record s { status = Done } else faulted s OtherSoa

-- records in between belong to the zone, and are no more than it may have
abbrev pub limited_to : IncomingState → Record → IncomingState
limited_to s r = if nat_lt (length s.records) s.most then record_kept s r else faulted s TooMany

abbrev pub added_to : IncomingState → Record → IncomingState
added_to s r = if ends_name r.owner s.apex then limited_to s r else faulted s Outside

abbrev pub taken_behind : IncomingState → Record → IncomingState
taken_behind s r = if is_of 6 r then ended_with s r else added_to s r

abbrev pub taken_more : IncomingState → Record → IncomingState
taken_more s r = if is_some (slice_get s.records 0) then taken_behind s r else opened_with s r

-- no record comes after the last one
abbrev pub taken_by : TransferStatus → IncomingState → Record → IncomingState
taken_by More s r = taken_more s r
taken_by Done s r = faulted s Behind
taken_by (Refused f) s r = s

abbrev pub taken_record : IncomingState → Record → IncomingState
taken_record s r = taken_by s.status s r

-- ---- messages

-- the record that an iterator over a section gives, if it and its data are readable
abbrev pub readable_record : Result Record ParseError → Option Record
readable_record (Ok r) = Some r
readable_record (Err e) = None

abbrev pub readable_item : Result Standing ParseError → Option Record
readable_item (Ok s) = readable_record (typed s)
readable_item (Err e) = None

abbrev pub taken_read : IncomingState → Option Record → IncomingState
taken_read s None = faulted s Unreadable
taken_read s (Some r) = taken_record s r

abbrev pub taken_items : IncomingState → List (Result Standing ParseError) → IncomingState
taken_items s [] = s
taken_items s (item ∷ items) = taken_items (taken_read s (readable_item item)) items

abbrev pub taken_section : IncomingState → Result (List (Result Standing ParseError)) ParseError → IncomingState
taken_section s (Ok items) = taken_items s items
taken_section s (Err e) = faulted s Unreadable

-- a message is a response with the identifier that was asked with, and its response code is NOERROR (section 2.2.1)
abbrev pub code_fault : Header → Option TransferDefect
code_fault h = if nat_eq h.rcode 0 then None else Some Code

abbrev pub header_fault : ℕ → Header → Option TransferDefect
header_fault id h = if nat_eq h.id id && h.qr then code_fault h else Some Identifier

abbrev pub taken_unless : Option TransferDefect → IncomingState → List ℕ → IncomingState
taken_unless None s o = taken_section s (reached (questions_of o).1 (standing_answers o))
taken_unless (Some f) s o = faulted s f

-- the octets of a message are taken
abbrev pub taken_message : IncomingState → List ℕ → IncomingState
taken_message s o = taken_unless (header_fault s.id (header_of o)) s o

-- What comes of the messages of a transfer: however its records are cut into messages, and whatever zone is sent, they come back.
use Rattle.std.specs.Prelude.{ℕ, ◌≡◌, ◌≤◌, ◌+◌, true, List, [], ◌∷◌, ◌++◌, length, map}
use Rattle.std.specs.List.{AllByRecursion, flat_map}
use Rattle.dns_name.specs.Canonical.{same_name}
use Rattle.dns_base.specs.Header.{header_of}
use Rattle.dns_base.specs.Msg.{IsMessage, Msg, ResourceRecord}
use Rattle.dns_base.specs.Records.{record_of}
use Rattle.dns_base.specs.Wire.{wire}
use Rattle.dns_message.specs.declared.record.Record.{Record}
use Rattle.dns_route.specs.Routes.{ends_name}
use Rattle.dns_transfer.specs.Transfers.{bunched, other_records, soa_records, transfer_message, transfer_records}
use Rattle.dns_zone.specs.Owned.{HasTypedData, ZoneState}
use Rattle.dns_incoming.specs.Incoming.{IncomingState, taken_message, taken_record}
use Rattle.dns_incoming.specs.declared.status.TransferStatus.TheVariants.{More, Done}

-- records one after another
abbrev pub all_taken : IncomingState → List Record → IncomingState
all_taken s [] = s
all_taken s (r ∷ rs) = all_taken (taken_record s r) rs

-- the records of several messages
abbrev pub cut_taken : IncomingState → List (List Record) → IncomingState
cut_taken s [] = s
cut_taken s (rs ∷ more) = cut_taken (all_taken s rs) more

abbrev pub CutsAreTheSame : Type 0
CutsAreTheSame = (s : IncomingState) (cuts : List (List Record)) → cut_taken s cuts ≡ all_taken s (flat_map (λ (rs : List Record). rs) cuts)

-- nothing came yet
abbrev pub incoming : ℕ → List (List ℕ) → ℕ → IncomingState
incoming id apex most = record { id = id; apex = apex; most = most; records = []; status = More }

abbrev pub IsAtOrBelow : List (List ℕ) → Record → Type 0
IsAtOrBelow apex r = ends_name r.owner apex ≡ true

-- a zone of no more than that many records: one SOA record at the apex, and none outside
pub record IsSent (z : ZoneState) (soa : Record) (most : ℕ) : Type 0 where
  pub one : soa_records z ≡ soa ∷ []
  pub apex : same_name soa.owner z.apex ≡ true
  pub within : AllByRecursion (IsAtOrBelow z.apex) z.records
  pub few : length (other_records z) + 1 ≤ most

-- comes back, its SOA record first
abbrev pub ZonesComeBack : Type 0
ZonesComeBack = (z : ZoneState) (soa : Record) (id most : ℕ) → IsSent z soa most
    → all_taken (incoming id z.apex most) (soa_records z ++ (other_records z ++ soa_records z))
    ≡ record (incoming id z.apex most) { records = soa ∷ other_records z; status = Done }

-- of a message that is written, the answers are taken
pub record IsAnswer (s : IncomingState) (m : Msg) (rs : List Record) : Type 0 where
  pub lawful : IsMessage m
  pub id : m.header.id ≡ s.id
  pub response : m.header.qr ≡ true
  pub code : m.header.rcode ≡ 0
  pub answers : m.answers ≡ map record_of rs
  pub read : AllByRecursion HasTypedData rs

abbrev pub MessagesAreTaken : Type 0
MessagesAreTaken = (s : IncomingState) (m : Msg) (rs : List Record) → IsAnswer s m rs → taken_message s (wire m) ≡ all_taken s rs

-- ---- what a transfer out sends

-- the octets of several messages are taken
abbrev pub messages_taken : IncomingState → List (List ℕ) → IncomingState
messages_taken s [] = s
messages_taken s (o ∷ os) = messages_taken (taken_message s o) os

-- the octets of the reply that has a bunch of records, and those of all replies of a transfer that a query's octets ask for
abbrev pub reply_octets : List ℕ → List ResourceRecord → List ℕ
reply_octets o b = wire (transfer_message o b)

abbrev pub sent_octets : ZoneState → List ℕ → List (List ℕ)
sent_octets z o = map (reply_octets o) (bunched (transfer_records z))

abbrev pub CanBeWritten : List ℕ → List ResourceRecord → Type 0
CanBeWritten o b = IsMessage (transfer_message o b)

-- the zone comes back of the octets that are sent
abbrev pub SentZonesComeBack : Type 0
SentZonesComeBack = (z : ZoneState) (soa : Record) (o : List ℕ) (most : ℕ) → IsSent z soa most
    → AllByRecursion HasTypedData z.records → AllByRecursion (CanBeWritten o) (bunched (transfer_records z))
    → messages_taken (incoming (header_of o).id z.apex most) (sent_octets z o)
    ≡ record (incoming (header_of o).id z.apex most) { records = soa ∷ other_records z; status = Done }

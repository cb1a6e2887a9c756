-- A zone as it is served: signed with NSEC, with NSEC3, or not; and its reply to a query that came over a transport.
use Rattle.std.specs.Prelude.{ℕ, ◌-◌, ◌++◌, List, Option, Some, None}
use Rattle.dns_message.specs.declared.record.Record.{Record}
use Rattle.dns_message.specs.declared.question.Question.{Question}
use Rattle.dns_service.specs.Transport.{hint_of, limit, limit_over}
use Rattle.dns_service.specs.declared.message.TransportSpecificContext.{TransportSpecificContext}
use Rattle.dns_zone.specs.Owned.{ZoneState}
use Rattle.dns_zone.specs.ZoneReply.{ZoneReply}
use Rattle.dns_denial.specs.Nsecs.{NsecState}
use Rattle.dns_denial.specs.Nsec3.{Hashing, Nsec3State}
use Rattle.dns_hashed_zone.specs.HashedStates.{joined}
use Rattle.dns_hashed_reply.specs.HashedReplies.{hashed_reply}
use Rattle.dns_name_server.specs.NameServerReplies.{name_server_reply}
use Rattle.dns_signed_reply.specs.SignedReplies.{secure_reply}
use Rattle.dns_authority.specs.declared.zone_data.ZoneData.{ZoneData}
use Rattle.dns_authority.specs.declared.zone_data.ZoneData.TheVariants.{Unsigned, Signed, Hashed}

-- its apex and the records of its names
abbrev pub tree_of : ZoneData → ZoneState
tree_of (Unsigned z) = z
tree_of (Signed s) = s.zone
tree_of (Hashed s) = s.zone

-- how it is signed: not at all; with NSECs; or with a hashing, its NSEC3s and their records
pub data Signing : Type 0 where
  Bare : Signing
  WithNsecs : List NsecState → Signing
  WithNsec3s : Hashing → List Nsec3State → List (List Record) → Signing

abbrev pub signing_of : ZoneData → Signing
signing_of (Unsigned z) = Bare
signing_of (Signed s) = WithNsecs s.nsecs
signing_of (Hashed s) = WithNsec3s s.hashing s.nsec3s s.groups

-- all its records: those of its names, and after them NSEC3 records with their RRSIGs
abbrev pub sent_of : ZoneState → Signing → ZoneState
sent_of z Bare = z
sent_of z (WithNsecs ns) = z
sent_of z (WithNsec3s h ns gs) = record z { records = z.records ++ joined gs }

abbrev pub sent_by : ZoneData → ZoneState
sent_by d = sent_of (tree_of d) (signing_of d)

abbrev pub sent_records_of : ZoneData → List Record
sent_records_of d = (sent_by d).records

-- the octets that a reply may have with RRSIGs of additional records: over UDP its limit less 300, the room of what layers add to a
-- reply (an OPT record with a cookie, an identifier and padding); over a stream those of a message
abbrev pub room_by : Option ℕ → ℕ
room_by None = 65535
room_by (Some n) = n - 300

abbrev pub room_over : TransportSpecificContext → ℕ
room_over t = room_by (limit_over t (limit (hint_of t)))

-- the reply to a query's octets, with so much room
abbrev pub served_reply : ZoneState → Signing → ℕ → List ℕ → Question → ZoneReply
served_reply z Bare room o q = name_server_reply z q
served_reply z (WithNsecs ns) room o q = secure_reply (record { zone = z; nsecs = ns }) room o q
served_reply z (WithNsec3s h ns gs) room o q = hashed_reply (record { zone = z; hashing = h; nsec3s = ns; groups = gs }) room o q

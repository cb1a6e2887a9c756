-- What an authority answers to a request: of its zones the one with the longest apex that ends the question's name replies.
use Rattle.std.specs.Prelude.{ℕ, ◌≡◌, ◌≤◌, Bool, true, false, ◌&&◌, ◌||◌, not, List, [], ◌∷◌, ◌++◌, length, nat_eq, nat_lt, if◌then◌else◌, Option, Some, None}
use Rattle.std.specs.List.{AllByRecursion}
use Rattle.std.specs.Option.{option_or}
use Rattle.dns_name.specs.Canonical.{same_name}
use Rattle.dns_base.specs.Header.{header_of}
use Rattle.dns_base.specs.Msg.{ResourceRecord}
use Rattle.dns_base.specs.Sections.{counts_of, first_of, questions_of}
use Rattle.dns_message.specs.declared.question.Question.{Question}
use Rattle.dns_service.specs.Answer.{Answer, Item}
use Rattle.dns_service.specs.Once.{once}
use Rattle.dns_service.specs.Req.{Req}
use Rattle.dns_service.specs.Transport.{is_stream}
use Rattle.dns_route.specs.Routes.{ends_name}
use Rattle.dns_zone.specs.Owned.{ZoneState}
use Rattle.dns_zone.specs.ZoneTurns.{zone_begun, zone_message}
use Rattle.dns_networks.specs.Networks.{is_in_any}
use Rattle.dns_authority.specs.ServedZones.{Signing, Bare, room_over, sent_of, served_reply, signing_of, tree_of}
use Rattle.dns_networks.specs.declared.network.Network.{Network}
use Rattle.dns_authority.specs.declared.zone_data.ZoneData.{ZoneData}
use Rattle.dns_transfer.specs.Transfers.{bunched, message_item, transfer, transfer_records}

-- a zone, how it is signed, and the networks that may transfer it
pub record ServedState : Type 0 where
  pub zone : ZoneState
  pub signing : Signing
  pub allowed : List Network

-- the bunches of a transfer, which are kept of a zone that may be transferred to some network
abbrev pub kept_bunches : List Network → ZoneState → Option (List (List ResourceRecord))
kept_bunches [] z = None
kept_bunches (n ∷ ns) z = Some (bunched (transfer_records z))

-- of two zones the one with the longer apex, of like ones the first
abbrev pub longer : ServedState → Option ServedState → Option ServedState
longer z None = Some z
longer z (Some y) = if nat_lt (length z.zone.apex) (length y.zone.apex) then Some y else Some z

-- the zone with the longest apex that ends a name
abbrev pub zone_for : List (List ℕ) → List ServedState → Option ServedState
zone_for name [] = None
zone_for name (z ∷ zs) = if ends_name name z.zone.apex then longer z (zone_for name zs) else zone_for name zs

-- the zone with the longest apex that ends a name and isn't the name
abbrev pub zone_above : List (List ℕ) → List ServedState → Option ServedState
zone_above name [] = None
zone_above name (z ∷ zs) = if not (same_name name z.zone.apex) && ends_name name z.zone.apex then longer z (zone_above name zs)
    else zone_above name zs

-- the zone for DS records of a name: if that begins a zone, the zone above it, if it is served too (RFC 4035, section 3.1.4.1)
abbrev pub zone_for_ds : List (List ℕ) → List ServedState → Option ServedState
zone_for_ds name zs = option_or (zone_above name zs) (zone_for name zs)

-- the zone that a question asks
abbrev pub asked_zone : Question → List ServedState → Option ServedState
asked_zone q zs = if nat_eq q.qtype 43 then zone_for_ds q.qname zs else zone_for q.qname zs

-- if a zone's apex ends a name, it is no longer than another's
abbrev pub IsNoLonger : List (List ℕ) → ServedState → ServedState → Type 0
IsNoLonger name z y = ends_name name y.zone.apex ≡ true → length y.zone.apex ≤ length z.zone.apex

-- the zone that is found ends the name, and no other that does has a longer apex
abbrev pub LongestAnswers : Type 0
LongestAnswers = (name : List (List ℕ)) (zs : List ServedState) (z : ServedState) → zone_for name zs ≡ Some z
    → (ends_name name z.zone.apex ≡ true) × AllByRecursion (IsNoLonger name z) zs

-- ---- questions

-- the one question of a message (RFC 9619, section 3), if it is readable
abbrev pub sole_question : List ℕ → Option Question
sole_question o = if nat_eq (counts_of o).qdcount 1 then first_of (questions_of o).0 else None

-- the reply to a query's octets that has a response code and no records, as an item: an error item would have an OPT record in
-- each case (RFC 6891, section 6.1.1)
abbrev pub coded : List ℕ → ℕ → Item
coded o rcode = message_item None (zone_begun o rcode false)

-- the reply of a zone to a request's octets, with RRSIGs of additional records where its transport has room for them
abbrev pub zone_item : {Meta : Type 0} → Req Meta → Question → ServedState → Item
zone_item r q s = message_item None (zone_message r.octets (served_reply s.zone s.signing (room_over r.transport) r.octets q))

-- ---- transfers

-- whether a request asks for a transfer (RFC 5936, section 2.1; to type IXFR the whole zone may be sent as well, RFC 1995,
-- section 4), and may: not in a datagram, and from a network that is allowed
abbrev pub asks_transfer : Question → Bool
asks_transfer q = nat_eq q.qtype 252 || nat_eq q.qtype 251

abbrev pub may_transfer : {Meta : Type 0} → List Network → Req Meta → Bool
may_transfer allowed r = is_stream r.transport && is_in_any allowed r.client_addr.ip

-- a transfer of a zone, if its apex is the name that is asked for
abbrev pub transferred : {Meta : Type 0} → List Network → Req Meta → Question → ZoneState → ℕ → Answer
transferred allowed r q z = if same_name q.qname z.apex && may_transfer allowed r then transfer z r.octets else once (coded r.octets 5)

-- ---- all requests

-- by the zone that is asked
abbrev pub by_zone : {Meta : Type 0} → Req Meta → Question → Option ServedState → ℕ → Answer
by_zone r q None = once (coded r.octets 5)
by_zone r q (Some s) = if asks_transfer q then transferred s.allowed r q (sent_of s.zone s.signing) else once (zone_item r q s)

-- by the class
abbrev pub by_class : {Meta : Type 0} → List ServedState → Req Meta → Question → ℕ → Answer
by_class zs r q = if nat_eq q.qclass 1 then by_zone r q (asked_zone q zs) else once (coded r.octets 5)

-- by the one question
abbrev pub by_question : {Meta : Type 0} → List ServedState → Req Meta → Option Question → ℕ → Answer
by_question zs r None = once (coded r.octets 1)
by_question zs r (Some q) = by_class zs r q

-- by the opcode: another than QUERY isn't implemented
abbrev pub by_opcode : {Meta : Type 0} → List ServedState → Req Meta → ℕ → ℕ → Answer
by_opcode zs r opcode = if nat_eq opcode 0 then by_question zs r (sole_question r.octets) else once (coded r.octets 4)

-- the zones of an authority, and the networks that may transfer those that are added without networks of their own
pub record AuthorityState : Type 0 where
  pub zones : List ServedState
  pub allowed : List Network

-- a zone that these networks may transfer is after the others
abbrev pub and_zone : List Network → ZoneState → AuthorityState → AuthorityState
and_zone allowed z a = record a { zones = a.zones ++ (record { zone = z; signing = Bare; allowed = allowed }) ∷ [] }

-- and so is one that is signed or not
abbrev pub and_data : List Network → ZoneData → AuthorityState → AuthorityState
and_data allowed d a = record a { zones = a.zones ++ (record { zone = tree_of d; signing = signing_of d; allowed = allowed }) ∷ [] }

abbrev pub authority_answer : {Meta : Type 0} → AuthorityState → Req Meta → ℕ → Answer
authority_answer a r = by_opcode a.zones r (header_of r.octets).opcode

-- ---- what is answered to a transfer

-- a query for a transfer at the apex of the zone that it asks
pub record AsksTransfer {Meta : Type 0} (a : AuthorityState) (r : Req Meta) (q : Question) (s : ServedState) : Type 0 where
  pub query : (header_of r.octets).opcode ≡ 0
  pub question : sole_question r.octets ≡ Some q
  pub internet : q.qclass ≡ 1
  pub zone : zone_for q.qname a.zones ≡ Some s
  pub asked : asks_transfer q ≡ true
  pub apex : same_name q.qname s.zone.apex ≡ true

-- is answered by the transfer if it is allowed, and else REFUSED
abbrev pub TransfersAreAnswered : Type 0 → Type 0
TransfersAreAnswered Meta = (a : AuthorityState) (r : Req Meta) (q : Question) (s : ServedState) → AsksTransfer a r q s
    → authority_answer a r ≡ (if may_transfer s.allowed r then transfer (sent_of s.zone s.signing) r.octets else once (coded r.octets 5))

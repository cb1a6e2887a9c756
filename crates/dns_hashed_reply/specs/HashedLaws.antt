-- What is added to a reply, and that what it says is absent is proved.
use Rattle.std.specs.Prelude.{ℕ, ◌≡◌, true, false, List, ◌++◌}
use Rattle.std.specs.List.{Contains, flat_map}
use Rattle.dns_message.specs.declared.question.Question.{Question}
use Rattle.dns_message.specs.declared.record.Record.{Record}
use Rattle.dns_name_server.specs.NameServerReplies.{name_server_reply}
use Rattle.dns_route.specs.Routes.{ends_name}
use Rattle.dns_zone.specs.Owned.{ZoneState}
use Rattle.dns_zone.specs.ZoneReply.{ZoneReply}
use Rattle.dns_denial.specs.Accepted3.{IsProvable, is_accepted3}
use Rattle.dns_denial.specs.Denials.{CanBeDenied}
use Rattle.dns_denial.specs.Hashes.{AreSorted3}
use Rattle.dns_denial.specs.Nsec3.{IsWhole3, Nsec3State}
use Rattle.dns_denial.specs.Signed.{AddsOnly}
use Rattle.dns_signed_reply.specs.ReplyLaws.{HasSignatures}
use Rattle.dns_signed_reply.specs.SignedReplies.{asked_names, asks_do, ds_of}
use Rattle.dns_nsec3_data.specs.Nsec3Data.{IsNsec3}
use Rattle.dns_hashed_zone.specs.HashedStates.{HashedState, IsSigned3}
use Rattle.dns_hashed_zone.specs.MadeHashed.{IsMadeOf3}
use Rattle.dns_hashed_reply.specs.HashedReplies.{chosen3, fails, group_at, hashed_reply, places}

-- Signing adds and never changes: each section is that of the reply without DO, and after it RRSIG, NSEC3 and DS records alone. Where a
-- hash collides, it fails (RFC 5155, section 7.2.9).
abbrev pub SigningAddsOnly3 : Type 0
SigningAddsOnly3 = (z : ZoneState) (s : HashedState) (room : ℕ) (o : List ℕ) (q : Question) → IsMadeOf3 z s
    → fails s q (name_server_reply s.zone q).answers ≡ false → AddsOnly (name_server_reply s.zone q) (hashed_reply s room o q)

-- Signing adds all: with DO each RRset of the answer section and of the authority section, with its DS records, has its RRSIGs (RFC 4035,
-- section 3.1.1). Each NSEC3 that is chosen is there, with its RRSIGs.
pub record HasAll3 (s : HashedState) (q : Question) (plain signed : ZoneReply) : Type 0 where
  pub answers : (r : Record) → Contains plain.answers r → HasSignatures s.zone plain.answers signed.answers r
  pub authority : (r : Record) → Contains (plain.authority ++ ds_of s.zone plain.authority) r
      → HasSignatures s.zone (plain.authority ++ ds_of s.zone plain.authority) signed.authority r
  pub nsec3s : (k : ℕ) → Contains (places s q plain.answers) k → (g : Record) → Contains (group_at s k) g → Contains signed.authority g

abbrev pub SigningAddsAll3 : Type 0
SigningAddsAll3 = (s : HashedState) (room : ℕ) (o : List ℕ) (q : Question) → asks_do o ≡ true
    → fails s q (name_server_reply s.zone q).answers ≡ false → HasAll3 s q (name_server_reply s.zone q) (hashed_reply s room o q)

-- without DO it is the reply for the names of the zone
abbrev pub NothingWithoutDo3 : Type 0
NothingWithoutDo3 = (s : HashedState) (room : ℕ) (o : List ℕ) (q : Question) → asks_do o ≡ false
    → hashed_reply s room o q ≡ name_server_reply s.zone q

-- The NSEC3 records of a reply are these NSEC3s: each that is chosen is what one of them says.
abbrev pub ChosenAreGiven3 : Type 0
ChosenAreGiven3 = (z : ZoneState) (s : HashedState) (q : Question) (answers : List Record) → IsMadeOf3 z s → IsSigned3 s
    → AreSorted3 s.nsec3s → (n : Nsec3State) → Contains (chosen3 s q answers) n
    → (r : Record) × Contains (flat_map (group_at s) (places s q answers)) r × IsNsec3 s.zone.apex s.hashing r n

-- Each absence is proved, if the chain has a proof at all and no hash collides: what the reply says of each name that it is asked for
-- is accepted with the NSEC3s that are chosen.
abbrev pub HashedRepliesAreAccepted : Type 0
HashedRepliesAreAccepted = (s : HashedState) (q : Question) (name : List (List ℕ)) → IsWhole3 s.zone s.hashing s.nsec3s
    → AreSorted3 s.nsec3s → ends_name q.qname s.zone.apex ≡ true
    → Contains (asked_names s.zone q (name_server_reply s.zone q).answers) name → CanBeDenied s.zone name q.qtype
    → IsProvable s.zone s.hashing s.nsec3s q.qtype name → fails s q (name_server_reply s.zone q).answers ≡ false
    → is_accepted3 s.zone s.hashing (chosen3 s q (name_server_reply s.zone q).answers) q.qtype name ≡ true

-- What is sent of a zone that has no long record.
use Rattle.std.specs.Prelude.{ℕ, ◌≡◌, ◌≤◌, true, length, None}
use Rattle.std.specs.List.{position}
use Rattle.dns_message.specs.declared.question.Question.{Question}
use Rattle.dns_service.specs.Req.{Req}
use Rattle.dns_transfer.specs.Transfers.{bunched, joined_answers, transfer_records}
use Rattle.dns_zone.specs.Owned.{ZoneState}
use Rattle.dns_zone_tree.specs.Long.{is_long}
use Rattle.dns_authority.specs.ServedZones.{sent_of}
use Rattle.dns_authority.specs.Authorities.{AsksTransfer, AuthorityState, ServedState, authority_answer, may_transfer}

-- the answers to a query for a transfer that is allowed, joined, are the records of a zone that was added: the SOA record, all others
-- in order, the SOA record again (RFC 5936, section 2.2)
abbrev pub TransfersAreTheRecords : Type 0 → Type 0
TransfersAreTheRecords Meta = (a : AuthorityState) (r : Req Meta) (q : Question) (s : ServedState) (n : ℕ) → AsksTransfer a r q s
    → may_transfer s.allowed r ≡ true → position is_long (sent_of s.zone s.signing).records ≡ None
    → length (bunched (transfer_records (sent_of s.zone s.signing))) ≤ n
    → joined_answers (authority_answer a r) n ≡ transfer_records (sent_of s.zone s.signing)

-- TransfersAreTheRecords for a zone that is made: none of its records is long
abbrev pub TheZoneIsSent : Type 0 → ZoneState → Type 0
TheZoneIsSent Meta z = (a : AuthorityState) (r : Req Meta) (q : Question) (s : ServedState) (n : ℕ) → AsksTransfer a r q s
    → sent_of s.zone s.signing ≡ z → may_transfer s.allowed r ≡ true → length (bunched (transfer_records z)) ≤ n
    → joined_answers (authority_answer a r) n ≡ transfer_records z

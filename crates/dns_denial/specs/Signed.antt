-- The reply to a query with DO (RFC 3225; RFC 4035, section 3.1; RFC 5155, section 7.2): what signing adds to a reply.
use Rattle.std.specs.Prelude.{ℕ, ◌≡◌, ◌+◌, ◌*◌, Bool, true, ◌||◌, ◌&&◌, List, [], ◌∷◌, ◌++◌, nat_eq, slice_index, if◌then◌else◌}
use Rattle.std.specs.List.{AllByRecursion, filter, list_any}
use Rattle.dns_name.specs.Canonical.{same_name}
use Rattle.dns_base.specs.Records.{data_type}
use Rattle.dns_message.specs.declared.rdata.RecordData.{RecordData}
use Rattle.dns_message.specs.declared.rdata.RecordData.TheVariants.{Unknown}
use Rattle.dns_message.specs.declared.record.Record.{Record}
use Rattle.dns_zone.specs.Owned.{ZoneState, is_of}
use Rattle.dns_zone.specs.ZoneReply.{ZoneReply}
use Rattle.dns_zone_tree.specs.Wildcards.{had_records}
use Rattle.dns_denial.specs.Denials.{is_under_dname}

-- the type that an RRSIG covers (RFC 4034, section 3.1.1)
abbrev pub type_covered : RecordData → ℕ
type_covered (Unknown t o) = 256 * slice_index o 0 + slice_index o 1
type_covered _ = 0

abbrev pub is_signature : ℕ → Record → Bool
is_signature t s = is_of 46 s && nat_eq (type_covered s.rdata) t

-- The RRSIGs of a record: those of its owner that cover its type, or those of the wildcard as the owner's (RFC 4035, section 3.1.1). A
-- CNAME that is made of a DNAME has none (RFC 6672, section 5.3.1).
abbrev pub signatures_of : ZoneState → Record → List Record
signatures_of z r = if is_under_dname z r.owner then [] else filter (is_signature (data_type r.rdata)) (had_records z r.owner 46)

-- records of one RRset
abbrev pub is_beside : Record → Record → Bool
is_beside r s = same_name r.owner s.owner && nat_eq (data_type r.rdata) (data_type s.rdata)

-- the RRSIGs of records after some, once for each RRset
abbrev pub signatures : ZoneState → List Record → List Record → List Record
signatures z seen [] = []
signatures z seen (r ∷ rs) = (if list_any (is_beside r) seen then [] else signatures_of z r) ++ signatures z (r ∷ seen) rs

-- records with their RRSIGs after them
abbrev pub with_signatures : ZoneState → List Record → List Record
with_signatures z rs = rs ++ signatures z [] rs

-- the DS records of the delegation points whose name servers a referral names (RFC 4035, section 3.1.4)
abbrev pub is_ds_of : List Record → Record → Bool
is_ds_of rs d = is_of 43 d && list_any (λ (r : Record). is_of 2 r && same_name r.owner d.owner) rs

abbrev pub ds_records : ZoneState → ZoneReply → List Record
ds_records z r = filter (is_ds_of r.authority) z.records

-- a reply with the DS of its referral, the NSEC or NSEC3 records that prove what it says is absent, and all signatures
abbrev pub signed_reply : ZoneState → List Record → ZoneReply → ZoneReply
signed_reply z proofs r = record r {
  answers = with_signatures z r.answers;
  authority = with_signatures z ((r.authority ++ ds_records z r) ++ proofs);
  additional = with_signatures z r.additional;
}

abbrev pub is_added : Record → Bool
is_added r = (is_of 46 r || is_of 47 r) || (is_of 50 r || is_of 43 r)

-- a list with records after it that signing adds
pub record Grows (plain signed : List Record) : Type 0 where
  pub more : List Record
  pub whole : signed ≡ plain ++ more
  pub added : AllByRecursion (λ (r : Record). is_added r ≡ true) more

-- a reply to which signing adds and which it doesn't change
pub record AddsOnly (plain signed : ZoneReply) : Type 0 where
  pub aa : signed.aa ≡ plain.aa
  pub rcode : signed.rcode ≡ plain.rcode
  pub answers : Grows plain.answers signed.answers
  pub authority : Grows plain.authority signed.authority
  pub additional : Grows plain.additional signed.additional

-- signing adds and never changes
abbrev pub SigningAdds : Type 0
SigningAdds = (z : ZoneState) (proofs : List Record) (r : ZoneReply) → AllByRecursion (λ (p : Record). is_added p ≡ true) proofs
    → AddsOnly r (signed_reply z proofs r)

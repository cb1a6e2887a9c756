-- The reply of a zone to a question (RFC 1034, section 4.3.2), without wildcards; five cases.
use Rattle.std.specs.Prelude.{ℕ, Bool, true, false, ◌&&◌, ◌||◌, not, List, [], map, min, nat_eq, if◌then◌else◌}
use Rattle.std.specs.List.{filter, list_any}
use Rattle.dns_message.specs.declared.question.Question.{Question}
use Rattle.dns_message.specs.declared.rdata.RecordData.{RecordData}
use Rattle.dns_message.specs.declared.rdata.RecordData.TheVariants.{Soa}
use Rattle.dns_message.specs.declared.record.Record.{Record}
use Rattle.dns_route.specs.Routes.{ends_name}
use Rattle.dns_zone.specs.Owned.{ZoneState, asked_records, is_asked, is_of}
use Rattle.dns_zone.specs.Cuts.{cut_records, glue, is_cut_off}
use Rattle.dns_zone.specs.Aliases.{followed}

-- whether the answer is authoritative, the response code, and three lists of records
pub record ZoneReply : Type 0 where
  pub aa : Bool
  pub rcode : ℕ
  pub answers : List Record
  pub authority : List Record
  pub additional : List Record

-- the name servers of a cut, and with their addresses a referral to them
abbrev pub delegation : List Record → ZoneReply
delegation servers = record { aa = false; rcode = 0; answers = []; authority = servers; additional = [] }

abbrev pub referral : ZoneState → List Record → ZoneReply
referral z servers = record (delegation servers) { additional = glue z servers }

abbrev pub authoritative : List Record → ZoneReply
authoritative rs = record { aa = true; rcode = 0; answers = rs; authority = []; additional = [] }

-- the TTL of an SOA record in a negative answer is the smaller of its TTL and its minimum field (RFC 2308, section 3)
abbrev pub negative_ttl : ℕ → RecordData → ℕ
negative_ttl ttl (Soa m r s f t e minimum) = min ttl minimum
negative_ttl ttl _ = ttl

abbrev pub negative_soa : Record → Record
negative_soa r = record r { ttl = negative_ttl r.ttl r.rdata }

-- that there are no such records, or with code 3 that there is no such name (RFC 2308, section 2)
abbrev pub denied : ZoneState → ℕ → ZoneReply
denied z rcode = record {
  aa = true;
  rcode = rcode;
  answers = [];
  authority = map negative_soa (filter (is_of 6) z.records);
  additional = [];
}

-- whether an alias is followed for a type: not for CNAME itself, nor if any records are asked for
abbrev pub follows : ℕ → Bool
follows t = not (nat_eq t 5 || nat_eq t 255)

-- whether a name exists: it owns a record, or a name below it does
abbrev pub exists : ZoneState → List (List ℕ) → Bool
exists z name = list_any (λ (r : Record). ends_name r.owner name) z.records

unfoldable pub zone_reply : ZoneState → Question → ZoneReply
zone_reply z q =
    if is_cut_off z q.qname then referral z (cut_records z q.qname)
    else (if follows q.qtype && list_any (is_asked q.qname 5) z.records then authoritative (followed z q.qtype 8 q.qname)
    else (if list_any (is_asked q.qname q.qtype) z.records then authoritative (asked_records z q.qname q.qtype)
    else (if exists z q.qname then denied z 0
    else denied z 3)))

-- Records of a name that are given at once: the name is no alias, and their RRSIGs aren't asked for with them.
use Rattle.std.specs.Prelude.{ℕ, ◌≡◌, ◌<◌, Bool, true, ◌||◌, not, List, [], ◌∷◌, ◌++◌, length, map, nat_eq, Option, Some, None}
use Rattle.std.specs.List.{filter}
use Rattle.dns_base.specs.Records.{data_type}
use Rattle.dns_message.specs.declared.record.Record.{Record}
use Rattle.dns_route.specs.Routes.{ends_name}
use Rattle.dns_zone.specs.Owned.{ZoneState, is_of}
use Rattle.dns_zone.specs.Places.{at_places}
use Rattle.dns_zone.specs.ZoneReply.{ZoneReply, denied as negative, negative_soa}
use Rattle.dns_zone_tree.specs.Kinds.{kind_places}
use Rattle.dns_zone_tree.specs.Regions.{asked_region}
use Rattle.dns_zone_tree.specs.Walks.{ReachesNode, ReachesNone}
use Rattle.dns_zone_tree.specs.Wildcards.{had_records, wildcard}
use Rattle.dns_zone_tree.specs.declared.kinds.Kinds.{Kinds}
use Rattle.dns_denial.specs.Nsecs.{NsecState}
use Rattle.dns_denial.specs.Signed.{is_signature}
use Rattle.dns_name_server.specs.NameServerReplies.{by_region}
use Rattle.dns_signed_reply.specs.SignedReplies.{denied, nsec_records_of, others, owned_records, reached_records, timed}

-- whether a type is none of CNAME, of RRSIG or of any records
abbrev pub is_plain_type : ℕ → Bool
is_plain_type t = not (nat_eq t 5 || (nat_eq t 46 || nat_eq t 255))

-- a name has records of such a type, and no CNAME record
pub record IsDirect (t : ℕ) (m : Kinds) : Type 0 where
  pub plain : is_plain_type t ≡ true
  pub some : 0 < length (kind_places t m)
  pub no_alias : kind_places 5 m ≡ []

-- a name that doesn't exist, nor does a wildcard that stands for it: the SOA record is given, whatever replies for an alias's target,
-- and both are denied
pub record IsAbsent (z : ZoneState) (t : ℕ) (name : List (List ℕ)) : Type 0 where
  pub skipped : ℕ
  pub reached : ReachesNone z t name skipped
  pub nowhere : (go : List (List ℕ) → ZoneReply) → by_region z go t name (asked_region z t name) ≡ negative z 3
  pub both : denied z t name ≡ name ∷ wildcard z name ∷ []

-- the RRSIGs of the first of some records
abbrev pub head_rrsigs : ZoneState → List Record → List Record
head_rrsigs z [] = []
head_rrsigs z (r ∷ rs) = map (timed r) (filter (is_signature (data_type r.rdata)) (reached_records z r.owner (had_records z r.owner 46)))

-- those of some RRSIGs that cover a record's type, with its TTL
abbrev pub covering : Record → List Record → List Record
covering r rs = map (timed r) (filter (is_signature (data_type r.rdata)) rs)

-- those that cover the first of some records
abbrev pub first_covering : List Record → List Record → List Record
first_covering [] rs = []
first_covering (r ∷ more) rs = covering r rs

-- what is found of a name: that it exists and the zone has authority over it, or that it owns no records over which the zone has it
abbrev pub IsReached : ZoneState → List (List ℕ) → Option Kinds → Type 0
IsReached z name None = (t : ℕ) → owned_records z name t ≡ []
IsReached z name (Some m) = (ends_name name z.apex ≡ true) × ReachesNode z 43 name m

-- the NSEC records of an owner, and their RRSIGs
abbrev pub owner_nsecs : ZoneState → Option Kinds → List Record
owner_nsecs z None = []
owner_nsecs z (Some m) = at_places z.records (kind_places 47 m)

abbrev pub owner_rrsigs : ZoneState → Option Kinds → List Record
owner_rrsigs z None = []
owner_rrsigs z (Some m) = first_covering (at_places z.records (kind_places 47 m)) (at_places z.records (kind_places 46 m))

-- the RRSIGs of the NSEC records of NSECs, each once, after some records
abbrev pub nsec_rrsigs_of : ZoneState → List Record → List NsecState → List Record
nsec_rrsigs_of z given [] = []
nsec_rrsigs_of z given (n ∷ ns) = head_rrsigs z (others given (owned_records z n.owner 47))
    ++ nsec_rrsigs_of z (given ++ others given (owned_records z n.owner 47)) ns

-- two owners that have the NSEC records of NSECs, each once, and no others
pub record AreOwners (z : ZoneState) (ns : List NsecState) (a b : Option Kinds) : Type 0 where
  pub nsecs : owner_nsecs z a ++ owner_nsecs z b ≡ nsec_records_of z [] ns
  pub rrsigs : owner_rrsigs z a ++ owner_rrsigs z b ≡ nsec_rrsigs_of z [] ns

-- the SOA record of a negative answer
abbrev pub negatives : ZoneState → List Record
negatives z = map negative_soa (filter (is_of 6) z.records)

-- the authority section of a name error: the SOA record, the NSEC records of two owners, and the RRSIGs of these
abbrev pub absent_authority : ZoneState → Option Kinds → Option Kinds → List Record
absent_authority z a b = ((((negatives z ++ owner_nsecs z a) ++ owner_nsecs z b) ++ head_rrsigs z (negatives z)) ++ owner_rrsigs z a)
    ++ owner_rrsigs z b

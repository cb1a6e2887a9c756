-- Cuts, at which authority ends: NS records below the apex (RFC 1034, section 4.2.1), and the referral to one (section 4.3.2, step 3b).
use Rattle.std.specs.Prelude.{ℕ, Bool, false, ◌||◌, ◌&&◌, not, List, length, nat_le, Option, Some, None}
use Rattle.std.specs.List.{filter, list_all, list_any}
use Rattle.dns_name.specs.Canonical.{same_name}
use Rattle.dns_message.specs.declared.record.Record.{Record}
use Rattle.dns_route.specs.Routes.{ends_name}
use Rattle.dns_zone.specs.Owned.{ZoneState, is_of, is_owned, target}

-- whether a record delegates a name: it is an NS record whose owner ends the name and isn't the apex
abbrev pub delegates : ZoneState → List (List ℕ) → Record → Bool
delegates z name r = is_of 2 r && (ends_name name r.owner && not (same_name r.owner z.apex))

-- whether a name is at or below a cut
abbrev pub is_cut_off : ZoneState → List (List ℕ) → Bool
is_cut_off z name = list_any (delegates z name) z.records

-- whether no owner among records has fewer labels than a record's
abbrev pub is_shortest : List Record → Record → Bool
is_shortest rs r = list_all (λ (s : Record). nat_le (length r.owner) (length s.owner)) rs

-- the NS records of the cut for a name: of several cuts the one with the fewest labels
abbrev pub cut_records : ZoneState → List (List ℕ) → List Record
cut_records z name = let rs = filter (delegates z name) z.records in filter (is_shortest rs) rs

-- whether a record is an address (A or AAAA) of a host
abbrev pub is_address_of : List (List ℕ) → Record → Bool
is_address_of host r = is_owned host r && (is_of 1 r || is_of 28 r)

abbrev pub is_address_at : Option (List (List ℕ)) → Record → Bool
is_address_at None r = false
is_address_at (Some host) r = is_address_of host r

-- whether a record is an address of one of the hosts that records name
abbrev pub is_glue : List Record → Record → Bool
is_glue servers r = list_any (λ (s : Record). is_address_at (target s.rdata) r) servers

-- the addresses of the hosts that a zone's records name
abbrev pub glue : ZoneState → List Record → List Record
glue z servers = filter (is_glue servers) z.records

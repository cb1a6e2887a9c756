-- The reply of a name server to a query with DO, from a zone that is signed with NSEC3 (RFC 3225; RFC 4035, section 3.1; RFC 5155,
-- section 7.2): the reply without DO, and what is added to it.
use Rattle.std.specs.Prelude.{ℕ, Bool, true, false, ◌&&◌, ◌||◌, not, List, [], ◌∷◌, ◌++◌, map, nat_eq, if◌then◌else◌, Option, Some, None}
use Rattle.std.specs.List.{filter, flat_map, list_any, slice_get}
use Rattle.dns_message.specs.declared.question.Question.{Question}
use Rattle.dns_message.specs.declared.record.Record.{Record}
use Rattle.dns_name_server.specs.NameServerReplies.{name_server_reply}
use Rattle.dns_zone.specs.Owned.{ZoneState, asked_records}
use Rattle.dns_zone.specs.ZoneReply.{ZoneReply, exists}
use Rattle.dns_zone_tree.specs.Regions.{Region, Within, BelowCut, BelowDname, asked_region}
use Rattle.dns_zone_tree.specs.Wildcards.{are_some, star}
use Rattle.dns_denial.specs.Accepted.{is_given, servers_owner}
use Rattle.dns_denial.specs.Nsec3.{Nsec3State, closer, is_matched, provable}
use Rattle.dns_signed_reply.specs.SignedReplies.{as_room, asked_names, asks_do, ds_of, with_rrsigs}
use Rattle.dns_hashed_zone.specs.HashedStates.{HashedState}
use Rattle.dns_hashed_zone.specs.Searches.{near_place}

-- ---- names of which NSEC3s speak

abbrev pub encloser_of : HashedState → List (List ℕ) → List (List ℕ)
encloser_of s name = provable s.hashing s.nsec3s name

-- the wildcard at the closest provable encloser
abbrev pub wildcard_of : HashedState → List (List ℕ) → List (List ℕ)
wildcard_of s name = star ∷ encloser_of s name

-- the closest encloser proof (section 7.2.1): the NSEC3 of the closest provable encloser, and the one that covers the next closer name
abbrev pub encloser_proof : HashedState → List (List ℕ) → List (List (List ℕ))
encloser_proof s name = encloser_of s name ∷ closer s.hashing s.nsec3s name ∷ []

-- of a name that exists: its own (sections 7.2.3, 7.2.4 and 7.2.7), or where a span with Opt-Out leaves it out the closest encloser proof
-- (sections 7.2.4 and 7.2.7)
abbrev pub own_proof : HashedState → List (List ℕ) → List (List (List ℕ))
own_proof s name = if is_matched s.hashing s.nsec3s name then name ∷ [] else encloser_proof s name

-- of one that doesn't: where a wildcard's records are given for it the next closer name (section 7.2.6), and else the closest encloser
-- proof and the wildcard (sections 7.2.2 and 7.2.5)
abbrev pub missing_proof : HashedState → ℕ → List (List ℕ) → List (List (List ℕ))
missing_proof s t name = if is_given s.zone t name then closer s.hashing s.nsec3s name ∷ []
    else encloser_proof s name ++ wildcard_of s name ∷ []

abbrev pub proved_within : HashedState → ℕ → List (List ℕ) → List (List (List ℕ))
proved_within s t name =
    if exists s.zone name then (if is_given s.zone t name then [] else own_proof s name)
    else missing_proof s t name

-- of a referral the delegation point, if it has no DS (section 7.2.7); a DNAME record denies nothing
abbrev pub proved_by : HashedState → ℕ → List (List ℕ) → Region → List (List (List ℕ))
proved_by s t name Within = proved_within s t name
proved_by s t name (BelowCut servers) = if are_some (asked_records s.zone (servers_owner servers) 43) then []
    else own_proof s (servers_owner servers)
proved_by s t name (BelowDname ds) = []

-- the names whose NSEC3s are given for a name that is asked for
abbrev pub proved_names : HashedState → ℕ → List (List ℕ) → List (List (List ℕ))
proved_names s t name = proved_by s t name (asked_region s.zone t name)

-- ---- collisions

-- a name that doesn't exist has the hash of one that does: a server must fail (section 7.2.9)
abbrev pub collides : HashedState → List (List ℕ) → Bool
collides s name = is_matched s.hashing s.nsec3s name && not (exists s.zone name)

-- so for a name that doesn't exist: its closest provable encloser, or the wildcard, if that is denied or has no records of the type
abbrev pub fails_within : HashedState → ℕ → List (List ℕ) → Bool
fails_within s t name = not (exists s.zone name)
    && (collides s (encloser_of s name) || (not (is_given s.zone t name) && collides s (wildcard_of s name)))

abbrev pub fails_by : HashedState → ℕ → List (List ℕ) → Region → Bool
fails_by s t name Within = fails_within s t name
fails_by s t name (BelowCut servers) = false
fails_by s t name (BelowDname ds) = false

abbrev pub fails_at : HashedState → ℕ → List (List ℕ) → Bool
fails_at s t name = fails_by s t name (asked_region s.zone t name)

-- for a name that a reply with answers is asked for
abbrev pub fails : HashedState → Question → List Record → Bool
fails s q answers = list_any (fails_at s q.qtype) (asked_names s.zone q answers)

-- ---- NSEC3 records

-- the places of the NSEC3s that match or cover the names for a name that is asked for
abbrev pub places_of : HashedState → ℕ → List (List ℕ) → List ℕ
places_of s t name = map (near_place s.hashing s.nsec3s) (proved_names s t name)

-- places after others, each once
abbrev pub behind_once : List ℕ → List ℕ → List ℕ
behind_once seen [] = seen
behind_once seen (k ∷ ks) = if list_any (nat_eq k) seen then behind_once seen ks else behind_once (seen ++ k ∷ []) ks

-- those that prove what a reply with answers says is absent
abbrev pub places : HashedState → Question → List Record → List ℕ
places s q answers = behind_once [] (flat_map (places_of s q.qtype) (asked_names s.zone q answers))

abbrev pub group_or_none : Option (List Record) → List Record
group_or_none None = []
group_or_none (Some rs) = rs

-- the NSEC3 record of a place with its RRSIGs
abbrev pub group_at : HashedState → ℕ → List Record
group_at s k = group_or_none (slice_get s.groups k)

-- the NSEC3s of places
abbrev pub nsec3_or_none : Option Nsec3State → List Nsec3State
nsec3_or_none None = []
nsec3_or_none (Some n) = n ∷ []

abbrev pub chosen3 : HashedState → Question → List Record → List Nsec3State
chosen3 s q answers = flat_map (λ (k : ℕ). nsec3_or_none (slice_get s.nsec3s k)) (places s q answers)

-- ---- the reply

-- the authority section with its DS records (RFC 4035, section 3.1.4) and RRSIGs, and after it the NSEC3 records of places with theirs
abbrev pub proved_authority3 : HashedState → List ℕ → ZoneReply → List Record
proved_authority3 s ks r = with_rrsigs s.zone (r.authority ++ ds_of s.zone r.authority) ++ flat_map (group_at s) ks

abbrev pub proved_reply : HashedState → List ℕ → ZoneReply → ZoneReply
proved_reply s ks r = record r {
  answers = with_rrsigs s.zone r.answers;
  authority = proved_authority3 s ks r;
  additional = with_rrsigs s.zone r.additional;
}

abbrev pub hashed_do_reply : HashedState → Question → ZoneReply → ZoneReply
hashed_do_reply s q r = proved_reply s (places s q r.answers) r

-- SERVFAIL, and no records
abbrev pub failure : ZoneReply
failure = record { aa = false; rcode = 2; answers = []; authority = []; additional = [] }

abbrev pub with_proofs : HashedState → ℕ → List ℕ → Question → ZoneReply → ZoneReply
with_proofs s room o q r = if fails s q r.answers then failure else as_room room o r.additional (hashed_do_reply s q r)

-- the reply to a query's octets, if that many octets are room for additional signatures; the owners of NSEC3 records are no names, with
-- DO or without (section 7.2.8)
abbrev pub hashed_reply : HashedState → ℕ → List ℕ → Question → ZoneReply
hashed_reply s room o q = let r = name_server_reply s.zone q in if asks_do o then with_proofs s room o q r else r

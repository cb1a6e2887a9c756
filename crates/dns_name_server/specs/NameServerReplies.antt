-- The reply of a name server to a question for a name of a zone (RFC 1034, section 4.3.2). It has wildcards (RFC 4592), DNAME (RFC
-- 6672) and the negative answers of RFC 2308, after aliases too (RFC 6604).
use Rattle.std.specs.Prelude.{ℕ, zero, suc, ◌-◌, Bool, true, ◌&&◌, not, List, [], ◌∷◌, ◌++◌, length, take, if◌then◌else◌, Option, Some, None}
use Rattle.std.specs.List.{list_any}
use Rattle.dns_name.specs.Canonical.{same_name}
use Rattle.dns_name.specs.Names.{name_under}
use Rattle.dns_message.specs.declared.question.Question.{Question}
use Rattle.dns_message.specs.declared.rdata.RecordData.TheVariants.{Named}
use Rattle.dns_message.specs.declared.record.Record.{Record}
use Rattle.dns_route.specs.Routes.{ends_name}
use Rattle.dns_zone.specs.Owned.{ZoneState, target}
use Rattle.dns_zone.specs.ZoneReply.{ZoneReply, authoritative, denied, follows, referral}
use Rattle.dns_zone_tree.specs.Regions.{Region, Within, BelowCut, BelowDname, asked_region}
use Rattle.dns_zone_tree.specs.Wildcards.{are_some, had_records, is_covered}

-- a record in front of the answers that follow from it; the answer is authoritative, as its first owner is (RFC 1035, section 4.1.1)
abbrev pub behind_alias : Record → ZoneReply → ZoneReply
behind_alias c r = record r { aa = true; answers = c ∷ r.answers }

-- ---- DNAME (RFC 6672)

-- the labels of a name in front of an owner, and then those of its target (section 2.2); none above 255 octets
abbrev pub substituted : List (List ℕ) → List (List ℕ) → List (List ℕ) → Option (List (List ℕ))
substituted name owner target = name_under target (take (length name - length owner) name)

-- the CNAME record that is made of a DNAME record (section 3.1)
abbrev pub made_alias : List (List ℕ) → Record → List (List ℕ) → Record
made_alias name d to = record d { owner = name; rdata = Named 5 to }

-- a name that would be longer is YXDOMAIN (section 3.2), with the DNAME record
abbrev pub too_long : ZoneReply
too_long = record (authoritative []) { rcode = 6 }

-- the CNAME record is followed as others are: not if CNAME itself is asked for, nor any records
abbrev pub gone_by : (List (List ℕ) → ZoneReply) → ℕ → List (List ℕ) → Record → Option (List (List ℕ)) → ZoneReply
gone_by go t name d None = too_long
gone_by go t name d (Some to) = behind_alias (made_alias name d to) (if follows t then go to else authoritative [])

abbrev pub by_target : (List (List ℕ) → ZoneReply) → ℕ → List (List ℕ) → Record → Option (List (List ℕ)) → ZoneReply
by_target go t name d None = authoritative []
by_target go t name d (Some to) = gone_by go t name d (substituted name d.owner to)

-- the DNAME record and what follows from it; a name has one (section 2.4), of several the first
abbrev pub by_dname : (List (List ℕ) → ZoneReply) → ℕ → List (List ℕ) → List Record → ZoneReply
by_dname go t name [] = authoritative []
by_dname go t name (d ∷ ds) = behind_alias d (by_target go t name d (target d.rdata))

-- ---- the cases

-- the records of the type, or that there are none, or no such name (RFC 2308, section 2)
abbrev pub found_or_denied : ZoneState → ℕ → List (List ℕ) → ZoneReply
found_or_denied z t name =
    if are_some (had_records z name t) then authoritative (had_records z name t)
    else (if is_covered z name then denied z 0
    else denied z 3)

-- the target of an alias is asked for
abbrev pub gone_to : (List (List ℕ) → ZoneReply) → Option (List (List ℕ)) → ZoneReply
gone_to go None = authoritative []
gone_to go (Some name) = go name

abbrev pub by_alias : ZoneState → (List (List ℕ) → ZoneReply) → ℕ → List (List ℕ) → List Record → ZoneReply
by_alias z go t name [] = found_or_denied z t name
by_alias z go t name (c ∷ cs) = if follows t then behind_alias c (gone_to go (target c.rdata)) else found_or_denied z t name

-- by how far the zone's authority reaches: below a cut the reply is a referral
abbrev pub by_region : ZoneState → (List (List ℕ) → ZoneReply) → ℕ → List (List ℕ) → Region → ZoneReply
by_region z go t name Within = by_alias z go t name (had_records z name 5)
by_region z go t name (BelowCut servers) = referral z servers
by_region z go t name (BelowDname ds) = by_dname go t name ds

-- nothing more is said of a name outside the zone, nor of one that led here: a loop gives each record once (RFC 2181, section 5)
abbrev pub is_answered : ZoneState → List (List (List ℕ)) → List (List ℕ) → Bool
is_answered z seen name = ends_name name z.apex && not (list_any (same_name name) seen)

-- the reply for a name that others led to, of which that many more at most are asked for
unfoldable pub reply_from : ZoneState → ℕ → ℕ → List (List (List ℕ)) → List (List ℕ) → ZoneReply
reply_from z t zero seen name = authoritative []
reply_from z t (suc k) seen name = if is_answered z seen name
    then by_region z (reply_from z t k (seen ++ name ∷ [])) t name (asked_region z t name) else authoritative []

-- a chain asks for 128 names at most: those that DNAME records make could go on for very long
abbrev pub name_server_reply : ZoneState → Question → ZoneReply
name_server_reply z q = reply_from z q.qtype 128 [] q.qname

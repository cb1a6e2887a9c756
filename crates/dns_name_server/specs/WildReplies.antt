-- The reply of a zone with wildcards (RFC 4592), as far as it is that of a single service. It says when that is the reply of a name
-- server.
use Rattle.std.specs.Prelude.{ℕ, zero, suc, ◌≡◌, Bool, true, false, ◌&&◌, List, ◌∷◌, nat_eq, if◌then◌else◌}
use Rattle.std.specs.List.{AllByRecursion, list_any}
use Rattle.std.specs.Str.{bytes_eq}
use Rattle.dns_name.specs.Labels.{folded}
use Rattle.dns_message.specs.declared.question.Question.{Question}
use Rattle.dns_message.specs.declared.record.Record.{Record}
use Rattle.dns_route.specs.Routes.{ends_name}
use Rattle.dns_zone.specs.Owned.{ZoneState, is_asked, is_of}
use Rattle.dns_zone.specs.Cuts.{cut_records, is_cut_off}
use Rattle.dns_zone.specs.Aliases.{aliased, unaliased}
use Rattle.dns_zone.specs.ZoneIndex.{IsInZone}
use Rattle.dns_zone.specs.ZoneReply.{ZoneReply, authoritative, denied, exists, follows, referral, zone_reply}
use Rattle.dns_zone_tree.specs.Wildcards.{are_some, had_records, is_covered, star}
use Rattle.dns_name_server.specs.NameServerReplies.{name_server_reply}

-- the answers of a type from a name on, of which k at most are CNAMEs (section 3.3.3)
abbrev pub wild_followed : ZoneState → ℕ → ℕ → List (List ℕ) → List Record
wild_followed z t zero name = unaliased (had_records z name 5) (had_records z name t)
wild_followed z t (suc k) name = aliased z (wild_followed z t k) (had_records z name 5) (had_records z name t)

-- the five cases of `zone_reply`, if a name has the records of a wildcard
abbrev pub wild_reply : ZoneState → Question → ZoneReply
wild_reply z q =
    if is_cut_off z q.qname then referral z (cut_records z q.qname)
    else (if follows q.qtype && are_some (had_records z q.qname 5) then authoritative (wild_followed z q.qtype 8 q.qname)
    else (if are_some (had_records z q.qname q.qtype) then authoritative (had_records z q.qname q.qtype)
    else (if is_covered z q.qname then denied z 0
    else denied z 3)))

-- no wildcard exists in a zone: no owner ends with a name whose first label is `*`
abbrev pub HasNoWildcard : ZoneState → Type 0
HasNoWildcard z = (name : List (List ℕ)) → exists z (star ∷ name) ≡ false

-- whether a label of a record's owner is `*`
abbrev pub is_star : List ℕ → Bool
is_star l = bytes_eq l star

abbrev pub has_star : Record → Bool
has_star r = list_any is_star (folded r.owner)

-- if no wildcard exists the reply is that without wildcards, and none exists if no label of an owner is `*`
abbrev pub WildcardsAlone : Type 0
WildcardsAlone = (z : ZoneState) (q : Question) → HasNoWildcard z → wild_reply z q ≡ zone_reply z q

abbrev pub WildcardsAreStars : Type 0
WildcardsAreStars = (z : ZoneState) → list_any has_star z.records ≡ false → HasNoWildcard z

-- a name that exists and is no alias has no wildcard's records (RFC 4592, section 2.2.1)
abbrev pub ExistingNamesAreTheirOwn : Type 0
ExistingNamesAreTheirOwn = (z : ZoneState) (q : Question) → exists z q.qname ≡ true
    → list_any (is_asked q.qname 5) z.records ≡ false → wild_reply z q ≡ zone_reply z q

-- ---- when the reply of a name server is that

-- no alias is in the way, no DNAME record is in the zone, and the type isn't DS
pub record IsDirect (z : ZoneState) (q : Question) : Type 0 where
  pub within : ends_name q.qname z.apex ≡ true
  pub no_ds : nat_eq q.qtype 43 ≡ false
  pub no_dname : list_any (is_of 39) z.records ≡ false
  pub no_alias : (follows q.qtype && are_some (had_records z q.qname 5)) ≡ false

-- the records of a zone are within its apex
abbrev pub AreInZone : ZoneState → Type 0
AreInZone z = AllByRecursion (IsInZone z.apex) z.records

abbrev pub DirectRepliesAreWild : Type 0
DirectRepliesAreWild = (z : ZoneState) (q : Question) → AreInZone z → IsDirect z q → name_server_reply z q ≡ wild_reply z q

abbrev pub DirectRepliesAreTheZones : Type 0
DirectRepliesAreTheZones = (z : ZoneState) (q : Question) → AreInZone z → IsDirect z q → HasNoWildcard z
    → name_server_reply z q ≡ zone_reply z q

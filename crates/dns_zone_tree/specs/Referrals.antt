-- Referrals that are made with a zone (RFC 1034, section 4.3.2, step 3b).
use Rattle.std.specs.Prelude.{ℕ, ◌≡◌, List, map}
use Rattle.std.specs.List.{AllByRecursion}
use Rattle.dns_base.specs.Records.{record_of}
use Rattle.dns_zone.specs.Cuts.{glue}
use Rattle.dns_zone.specs.Owned.{ZoneState}
use Rattle.dns_zone.specs.Places.{at_places}
use Rattle.dns_zone_tree.specs.Kinds.{kind_places}
use Rattle.dns_zone_tree.specs.declared.referrals.Referral.{Referral}

-- the NS records at places, and the addresses of the hosts that they name
pub record IsReferral (z : ZoneState) (servers : List ℕ) (r : Referral) : Type 0 where
  pub authority : r.authority ≡ map record_of (at_places z.records servers)
  pub glued : at_places z.records r.glue.items ≡ glue z (at_places z.records servers)
  pub additional : r.additional ≡ map record_of (glue z (at_places z.records servers))

-- those of a zone, each to the cut that it is of
abbrev pub AreReferrals : ZoneState → List Referral → Type 0
AreReferrals z rs = AllByRecursion (λ (r : Referral). IsReferral z (kind_places 2 r.cut) r) rs

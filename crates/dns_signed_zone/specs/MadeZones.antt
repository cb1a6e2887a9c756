-- Signed zones that are made of records, and records that are none.
use Rattle.std.specs.Prelude.{◌≡◌, List, Err}
use Rattle.dns_zone.specs.Owned.{ZoneState}
use Rattle.dns_zone_tree.specs.TreeErrors.{Makes, tree_error}
use Rattle.dns_denial.specs.Checks.{Breaks}
use Rattle.dns_denial.specs.Nsecs.{NsecState}
use Rattle.dns_nsec_data.specs.NsecData.{Fails, IsChainOf}
use Rattle.dns_signed_zone.specs.SignedZones.{SignedState}
use Rattle.dns_signed_zone.specs.declared.signed_zone_error.SignedZoneError.{SignedZoneError}
use Rattle.dns_signed_zone.specs.declared.signed_zone_error.SignedZoneError.TheVariants.{Tree, Nsec, Chain}

-- the zone, and its NSECs are those of its NSEC records
pub record IsMadeOf (z : ZoneState) (s : SignedState) : Type 0 where
  pub zone : s.zone ≡ z
  pub nsecs : IsChainOf z.records s.nsecs

-- why records are no zone, their NSEC records no chain, or where that isn't whole
abbrev pub Refuses : ZoneState → SignedZoneError → Type 0
Refuses z (Tree e) = Makes (tree_error z.apex z.records) z (Err e)
Refuses z (Nsec e) = Fails z.records e
Refuses z (Chain e) = (ns : List NsecState) × IsChainOf z.records ns × Breaks z ns e

-- Where a name stands that is at or below no cut.
use Rattle.std.proofs.Common.{◌≡◌, ℕ, List, Option, Some, None, false, ap, sym, ◌∙◌}
use Rattle.dns_zone.specs.declared.cuts.Standing.{Standing}
use Rattle.dns_zone.specs.declared.cuts.Standing.TheVariants.{Cut, Owner, Nothing}
use Rattle.dns_zone.specs.Cuts.{is_cut_off}
use Rattle.dns_zone.specs.ZoneIndex.{places_in}
use Rattle.dns_zone.specs.Owned.{ZoneState}
use Rattle.dns_zone.specs.Places.{Kinds}
use Rattle.dns_zone.specs.Standings.{Owns, OwnsSo, StandsSo}

module _ (z : ZoneState) (name : List (List ℕ)) (kinds : Option Kinds) where
  pub stands_within : (s : Standing) → OwnsSo kinds s → is_cut_off z name ≡ false → Owns z name kinds → StandsSo z name s
  stands_within (Cut servers) o n h = absurd o
  stands_within (Owner owned) o n h = (n, λ t. ap (places_in t) (sym o) ∙ h t)
  stands_within Nothing o n h = (n, λ t. ap (places_in t) (sym o) ∙ h t)

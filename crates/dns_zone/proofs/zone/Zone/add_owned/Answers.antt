use Rattle.std.proofs.Common.{nat_eq, ap, ◌∙◌}
use Rattle.std.specs.Prelude.{◌||◌}
use Rattle.std.specs.BTreeSet.{contains}
use Rattle.std.specs.List.{list_any, slice_get}
use Rattle.std.specs.Ordering.{nat_cmp}
use Rattle.dns_zone.specs.Owned.{is_asked}
use Rattle.dns_zone.specs.Places.{passes}
use Rattle.dns_zone.proofs.GlueLaws.{none_passes, or_none}
use Rattle.dns_zone.proofs.KeepLaws.{on_ok}
use Rattle.dns_zone.proofs.PlaceLaws.{is_place}
use Rattle.dns_zone.proofs.zone.Zone.add_owned.Goals as goal

pub returns-in-Some : goal.returns-in-Some
returns-in-Some c =
    on_ok c.add_all.result c.add_all.ensures
    (λ f name e i. f i ∙ ap (λ b. contains nat_cmp c.args.addresses.now i || b) (ap (list_any (nat_eq i)) (c.in-Some.ensures name e).1 ∙ is_place (is_asked name c.args.rtype) c.args.self.now.records i))

pub returns-in-None : goal.returns-in-None
returns-in-None c = λ name e i.
    or_none (contains nat_cmp c.args.addresses.now i) (passes (is_asked name c.args.rtype) (slice_get c.args.self.now.records i)) (none_passes (is_asked name c.args.rtype) c.args.self.now.records i (c.in-None.ensures name e))

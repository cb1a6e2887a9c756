use Rattle.std.proofs.Common.{◌≡◌, None, sym, subst}
use Rattle.dns_zone.specs.Owned.{ZoneState}
use Rattle.dns_zone_tree.specs.TreeErrors.{tree_error}
use Rattle.rows_authority.proofs.signed.zoned.Goals as goal

pub chained-requires : goal.chained-requires
chained-requires c = subst (λ (z : ZoneState). tree_error z.apex z.records ≡ None) (sym c.in-Ok.ensures.1) c.in-Ok.ensures.0

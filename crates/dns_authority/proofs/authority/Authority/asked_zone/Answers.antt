use Rattle.std.proofs.Common.{sym}
use Rattle.dns_authority.proofs.authority.Authority.asked_zone.Goals as goal

pub returns-then-asks_ds : goal.returns-then-asks_ds
returns-then-asks_ds c = rw (sym c.asks_ds.ensures, c.if-asks_ds.true) c.zone_for_ds.ensures

pub returns : goal.returns
returns c = rw (sym c.asks_ds.ensures, c.if-asks_ds.false) c.zone_for.ensures

use Rattle.std.proofs.Common.{refl, sym}
use Rattle.dns_authority.proofs.authority.Authority.zone_for_ds.Goals as goal

pub returns-in-Some : goal.returns-in-Some
returns-in-Some c = rw (sym c.in-Some.ensures) refl

pub returns-in-None : goal.returns-in-None
returns-in-None c = rw (sym c.in-None.ensures) c.zone_for.ensures

use Rattle.std.proofs.Common.{refl, sym}
use Rattle.dns_authority.proofs.authority.better_above.Goals as goal

pub returns-then-is_named : goal.returns-then-is_named
returns-then-is_named c = rw (sym c.is_named.ensures, c.if-is_named.true) refl

pub returns : goal.returns
returns c = rw (sym c.is_named.ensures, c.if-is_named.false) c.better.ensures

use Rattle.std.proofs.Common.{◌≡◌, ap, sym, ◌∙◌}
use Rattle.dns_authority.proofs.authority.Authority.classed.Goals as goal

pub returns-then-is_internet : goal.returns-then-is_internet
returns-then-is_internet g c = rw (sym c.is_internet.ensures, c.if-is_internet.true) c.found.ensures

pub returns : goal.returns
returns g c = rw (sym c.is_internet.ensures, c.if-is_internet.false) c.coded.ensures

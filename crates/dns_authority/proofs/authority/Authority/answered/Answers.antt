use Rattle.std.proofs.Common.{◌≡◌, ap, sym, ◌∙◌}
use Rattle.dns_authority.proofs.authority.Authority.answered.Goals as goal

pub returns-in-Some : goal.returns-in-Some
returns-in-Some g c = rw (sym c.in-Some.ensures) c.classed.ensures

pub returns-in-None : goal.returns-in-None
returns-in-None g c = rw (sym c.in-None.ensures) c.coded.ensures

use Rattle.std.proofs.Common.{◌≡◌, ap, sym, ◌∙◌}
use Rattle.dns_authority.proofs.authority.Authority.stream.Goals as goal

pub returns-then-is_query : goal.returns-then-is_query
returns-then-is_query g c = rw (sym c.is_query.ensures, c.if-is_query.true) c.answered.ensures

pub returns : goal.returns
returns g c = rw (sym c.is_query.ensures, c.if-is_query.false) c.coded.ensures

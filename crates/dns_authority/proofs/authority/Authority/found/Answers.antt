use Rattle.std.proofs.Common.{◌≡◌, ap, sym, ◌∙◌}
use Rattle.dns_authority.proofs.ZoneForLaws.{asked_ends}
use Rattle.dns_authority.proofs.authority.Authority.found.Goals as goal

pub asked-requires : goal.asked-requires
asked-requires g c = asked_ends c.args.question.now c.args.self.now.zones c.in-Some.zone.now (sym c.in-Some.ensures)

pub returns-in-Some : goal.returns-in-Some
returns-in-Some g c = rw (sym c.in-Some.ensures) c.asked.ensures

pub returns-in-None : goal.returns-in-None
returns-in-None g c = rw (sym c.in-None.ensures) c.coded.ensures

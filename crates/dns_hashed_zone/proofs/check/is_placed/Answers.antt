use Rattle.dns_denial.proofs.StandLaws.{placed_by}
use Rattle.dns_hashed_zone.proofs.check.is_placed.Goals as goal

pub returns : goal.returns
returns c = placed_by c.args.rtype c.args.kinds.now c.has.result c.has.ensures

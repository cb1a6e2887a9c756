use Rattle.std.proofs.Common.{true, false, refl}
use Rattle.dns_denial.specs.Checks.{is_placed}
use Rattle.dns_hashed_zone.proofs.TypeLaws3.{firm_by}
use Rattle.dns_hashed_zone.proofs.check.is_firm.Goals as goal

pub returns-then-not-is_cut : goal.returns-then-not-is_cut
returns-then-not-is_cut c = firm_by c.args.zone.now c.args.name.now c.args.kinds.now c.requires false (is_placed 43 c.args.kinds.now) true c.if-not-is_cut.ensures refl refl

pub returns : goal.returns
returns c = firm_by c.args.zone.now c.args.name.now c.args.kinds.now c.requires true c.is_placed.result c.is_placed.result c.if-not-is_cut.ensures c.is_placed.ensures refl

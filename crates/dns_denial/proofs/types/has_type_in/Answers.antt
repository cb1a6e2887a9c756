use Rattle.std.proofs.Common.{◌∙◌}
use Rattle.dns_denial.proofs.StandLaws.{held_has}
use Rattle.dns_denial.proofs.types.has_type_in.Goals as goal

pub returns : goal.returns
returns c = c.is_kept.ensures ∙ held_has c.args.zone.now c.args.name.now c.args.kinds.now c.requires.held c.args.rtype c.requires.exact

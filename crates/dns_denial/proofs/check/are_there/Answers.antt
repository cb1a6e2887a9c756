use Rattle.std.proofs.Common.{ap, ◌∙◌}
use Rattle.std.specs.List.{list_all}
use Rattle.dns_denial.specs.Checks.{is_there}
use Rattle.dns_denial.proofs.check.are_there.Goals as goal

pub returns : goal.returns
returns c = c.are_all_there.ensures ∙ ap (list_all (is_there c.args.zone.now c.args.nsec.now)) c.types-types.ensures

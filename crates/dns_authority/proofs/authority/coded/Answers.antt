use Rattle.std.proofs.Common.{◌≡◌, ap, ◌∙◌}
use Rattle.dns_service.specs.Once.{once}
use Rattle.dns_authority.proofs.authority.coded.Goals as goal

pub returns : goal.returns
returns g c = c.single.ensures ∙ ap once c.in_ok-item.ensures

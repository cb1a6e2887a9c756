use Rattle.dns_presentation.proofs.Tests.{decided}
use Rattle.dns_presentation.proofs.types.spells.Goals as goal

pub returns : goal.returns
returns c = decided _ _ _ c.eq_ignore_ascii_case.ensures.test

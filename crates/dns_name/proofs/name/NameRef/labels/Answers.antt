use Rattle.dns_name.proofs.Whole.{spelt_on}
use Rattle.dns_name.proofs.name.NameRef.labels.Goals as goal

pub of-requires : goal.of-requires
of-requires c = spelt_on c.self.inside.octets.now c.self.invariant

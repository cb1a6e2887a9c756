use Rattle.dns_signing.proofs.Layers.{unknown}
use Rattle.dns_signing.proofs.laws.unknown_keys_are_refused.Goals as goal

pub returns : goal.returns
returns c = unknown

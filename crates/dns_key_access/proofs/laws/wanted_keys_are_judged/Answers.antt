use Rattle.std.proofs.Common.{ap}
use Rattle.dns_key_access.specs.Layer.{answer_by}
use Rattle.dns_key_access.proofs.Judged.{notify_judged, transfer_judged}
use Rattle.dns_key_access.proofs.laws.wanted_keys_are_judged.Goals as goal

pub returns : goal.returns
returns c = record {
  transfers = λ answer a z r q k h g t. ap (answer_by answer r k) (transfer_judged a z r q h g t);
  notifies = λ answer a z r q k h g. ap (answer_by answer r k) (notify_judged a z r q h g);
}

use Rattle.dns_core.proofs.Placing.{gain_more}
use Rattle.dns_core.proofs.StepsByClient.{sent_step}
use Rattle.dns_core.proofs.StepsTurned.{outs_front, placed_front}
use Rattle.dns_core.proofs.split_laws.more_steps_send_more.Goals as goal

pub returns : goal.returns
returns c = record { one = placed_front; all = outs_front; more = sent_step; gain = gain_more }

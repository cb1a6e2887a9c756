use Rattle.dns_core.proofs.StepsCut.{cut_outs}
use Rattle.dns_core.proofs.split_laws.pieces_of_steps_may_be_cut.Goals as goal

pub returns : goal.returns
returns c = λ answers settings client at secs a b q r. cut_outs answers settings client at secs a b (λ s. c.pieces_may_be_cut.ensures answers client at secs a b s) q r

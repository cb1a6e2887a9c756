use Rattle.dns_session.proofs.Cutting.{cut_phase}
use Rattle.dns_session.proofs.laws.pieces_may_be_cut.Goals as goal

pub returns : goal.returns
returns c = λ answers client at secs a b s. cut_phase answers s.phase client at secs a b s

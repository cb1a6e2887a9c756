use Rattle.std.proofs.Common.{◌++◌}
use Rattle.dns_session.specs.Pieces.{piece_of}
use Rattle.dns_core.proofs.Cut.{cut_sent}
use Rattle.dns_core.proofs.CutForAll.{cut_out}
use Rattle.dns_core.proofs.laws.cut_pieces_change_nothing.Goals as goal

pub returns-clause-one : goal.returns-clause-one
returns-clause-one c = λ answers settings client at secs a b p r. cut_sent answers (piece_of client at secs (a ++ b)) (piece_of client at secs a) (piece_of client at secs b) (λ s. c.pieces_may_be_cut.ensures answers client at secs a b s) settings p r

pub returns-clause-all : goal.returns-clause-all
returns-clause-all c = λ answers settings client at secs a b p r. cut_out answers settings client at secs a b (λ s. c.pieces_may_be_cut.ensures answers client at secs a b s) p r

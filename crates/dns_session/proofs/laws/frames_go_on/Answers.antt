use Rattle.dns_framing.proofs.FramesLemmas.{goes}
use Rattle.dns_session.proofs.laws.frames_go_on.Goals as goal

pub returns : goal.returns
returns c = λ o p. (goes o p).all

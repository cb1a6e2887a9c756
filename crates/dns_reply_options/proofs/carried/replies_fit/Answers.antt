-- A reply that is cut to its limit fits.
use Rattle.dns_reply_options.proofs.Limits.{at_least}
use Rattle.dns_reply_options.proofs.carried.replies_fit.Goals as goal

pub returns : goal.returns
returns c = λ h m. c.cut_fits.ensures.fits _ m (at_least h)

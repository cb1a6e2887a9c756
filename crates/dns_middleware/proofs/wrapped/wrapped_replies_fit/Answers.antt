use Rattle.dns_middleware.proofs.ReplyLaws.{replies_fit}
use Rattle.dns_middleware.proofs.wrapped.wrapped_replies_fit.Goals as goal

pub returns : goal.returns
returns c = replies_fit c.cut_fits.ensures.fits

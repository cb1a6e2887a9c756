-- A rewritten reply over UDP fits.
use Rattle.dns_layers.proofs.MandatoryLaws.{post_fits}
use Rattle.dns_layers.proofs.mandatory_post.replies_fit.Goals as goal

pub returns : goal.returns
returns c = post_fits c.cut_fits.ensures.fits

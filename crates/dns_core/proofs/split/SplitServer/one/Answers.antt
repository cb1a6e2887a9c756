use Rattle.dns_session.specs.Serving.{serving}
use Rattle.dns_core.proofs.split.SplitServer.one.Goals as goal

pub returns-in-Offer : goal.returns-in-Offer
returns-in-Offer g c = c.offer.ensures.steps (serving (g.W.SharedService.answer c.args.service.now) (g.W.SharedService.hint c.args.service.now))

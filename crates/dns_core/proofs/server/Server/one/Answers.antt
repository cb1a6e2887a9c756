use Rattle.dns_session.specs.Serving.{serving}
use Rattle.dns_core.proofs.server.Server.one.Goals as goal

pub returns-in-Offer : goal.returns-in-Offer
returns-in-Offer g c = c.offer.ensures.goes (serving (g.W.SharedService.answer c.args.service.now) (g.W.SharedService.hint c.args.service.now))

pub returns-in-Reconfigure : goal.returns-in-Reconfigure
returns-in-Reconfigure g c = c.wide.ensures (serving (g.W.SharedService.answer c.args.service.now) (g.W.SharedService.hint c.args.service.now))

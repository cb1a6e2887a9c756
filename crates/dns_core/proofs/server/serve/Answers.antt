use Rattle.dns_session.specs.Serving.{serving}
use Rattle.dns_core.proofs.server.serve.Goals as goal

pub returns : goal.returns
returns g c = c.in_ok-each_event.ensures c.args.settings.now (c.new-server.ensures.serves (serving (g.W.SharedService.answer c.args.service.now) (g.W.SharedService.hint c.args.service.now)))

use Rattle.dns_service.specs.PolledRequest.{request_answer}
use Rattle.dns_core.proofs.Stepping.{look_goes}
use Rattle.dns_core.proofs.split.SplitServer.look.Goals as goal

pub returns : goal.returns
returns g c = λ answers settings q h. look_goes (request_answer g.W.Future.ReplyFuture.answer g.W.Stream.ReplyStream.answer) answers settings c.args.self.now.inner c.look_at.new.clients q c.args.at c.args.secs c.args.client c.in_ok-outs.outs.items (rw c.shown-look.ensures at (c.in_ok-outs.ensures.here answers)) c.in_ok-outs.ensures.others h

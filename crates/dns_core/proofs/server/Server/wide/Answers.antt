use Rattle.dns_service.specs.PolledRequest.{request_answer}
use Rattle.dns_core.proofs.AllHear.{wide_goes}
use Rattle.dns_core.proofs.server.Server.wide.Goals as goal

pub returns : goal.returns
returns g c = λ answers settings q lt h. wide_goes (request_answer g.W.Future.ReplyFuture.answer g.W.Stream.ReplyStream.answer) answers settings c.args.self.now c.look_all.new.clients c.note.new.book q c.args.event.now c.in_ok-outs.outs.items c.requires lt (rw c.shown-look.ensures at (c.in_ok-outs.ensures.looked answers)) c.in_ok-outs.ensures.same_keys c.in_ok-outs.ensures.rising c.note.ensures h

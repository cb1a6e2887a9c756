use Rattle.dns_session.specs.Serving.{serving}
use Rattle.dns_service.specs.PolledRequest.{request_answer}
use Rattle.dns_core.proofs.AfterOwnEvent.{own_goes}
use Rattle.dns_core.proofs.Stepping.{own_goes as step_own_goes}
use Rattle.dns_core.proofs.server.Server.own.Goals as goal

pub returns-clause-goes : goal.returns-clause-goes
returns-clause-goes g c = λ settings q lt h. own_goes (request_answer g.W.Future.ReplyFuture.answer g.W.Stream.ReplyStream.answer) (serving (g.W.SharedService.answer c.args.service.now) (g.W.SharedService.hint c.args.service.now)) settings c.args.self.now c.step_at.new.clients c.give_back.new.book q c.args.event.now c.in_ok-outs.outs.items c.in_ok-outs.freed c.requires.own c.requires.begins c.in_ok-outs.ensures.here c.in_ok-outs.ensures.others c.in_ok-outs.ensures.version c.give_back.ensures h

pub returns-clause-steps : goal.returns-clause-steps
returns-clause-steps g c = λ settings q h. step_own_goes (request_answer g.W.Future.ReplyFuture.answer g.W.Stream.ReplyStream.answer) (serving (g.W.SharedService.answer c.args.service.now) (g.W.SharedService.hint c.args.service.now)) settings c.args.self.now c.step_at.new.clients c.give_back.new.book q c.args.event.now c.in_ok-outs.outs.items c.in_ok-outs.freed c.requires.own c.requires.begins c.in_ok-outs.ensures.here c.in_ok-outs.ensures.others c.in_ok-outs.ensures.version c.give_back.ensures h

use Rattle.std.proofs.Common.{inl, inr, sym}
use Rattle.dns_session.specs.Serving.{serving}
use Rattle.dns_service.specs.PolledRequest.{request_answer}
use Rattle.dns_core.proofs.Offered.{datagram_late, shut_as}
use Rattle.dns_core.proofs.StepBegins.{datagram_late as step_datagram_late}
use Rattle.dns_core.proofs.server.Server.datagram.Goals as goal
use Rattle.dns_core.proofs.server.Server.datagram.Goals.{then-look-via-then-look, then-look-via-else-look+then-contains}

pub returns-then-look-clause-goes : goal.returns-then-look-clause-goes
returns-then-look-clause-goes g c = λ settings q lt h.
    datagram_late (request_answer g.W.Future.ReplyFuture.answer g.W.Stream.ReplyStream.answer) (serving (g.W.SharedService.answer c.args.service.now) (g.W.SharedService.hint c.args.service.now)) settings c.args.self.now q c.args.event.now c.args.addr c.args.octets.now c.new.result.items c.requires.kind
    (elim c.then-look.branch [
      | then-look-via-then-look w ↦ inl (shut_as c.shown-look.result c.args.self.now.book c.shown-look.ensures w.if-look.true)
      | then-look-via-else-look+then-contains w ↦ inr (sym w.if-contains.ensures)
    ]) c.new.ensures.items h

pub returns-then-look-clause-steps : goal.returns-then-look-clause-steps
returns-then-look-clause-steps g c = λ settings q h.
    step_datagram_late (request_answer g.W.Future.ReplyFuture.answer g.W.Stream.ReplyStream.answer) (serving (g.W.SharedService.answer c.args.service.now) (g.W.SharedService.hint c.args.service.now)) settings c.args.self.now q c.args.event.now c.args.addr c.args.octets.now c.new.result.items c.requires.kind
    (elim c.then-look.branch [
      | then-look-via-then-look w ↦ inl (shut_as c.shown-look.result c.args.self.now.book c.shown-look.ensures w.if-look.true)
      | then-look-via-else-look+then-contains w ↦ inr (sym w.if-contains.ensures)
    ]) c.new.ensures.items h

use Rattle.std.proofs.Common.{sym}
use Rattle.std.proofs.lemmas.Result.{MatchResult-weaker}
use Rattle.dns_service.specs.PolledRequest.{request_answer}
use Rattle.dns_core.proofs.Offered.{offer_used, offer_closed, offer_away}
use Rattle.dns_core.proofs.StepBegins.{offer_used as step_offer_used, offer_closed as step_offer_closed, offer_away as step_offer_away}
use Rattle.dns_core.proofs.server.Server.offer.Goals as goal

pub returns-then-contains-clause-goes : goal.returns-then-contains-clause-goes
returns-then-contains-clause-goes g c = λ answers settings q lt h. offer_used (request_answer g.W.Future.ReplyFuture.answer g.W.Stream.ReplyStream.answer) answers settings c.args.self.now q c.args.event.now c.args.addr c.new.result.items c.requires (sym c.if-contains.ensures) c.new.ensures.items h

pub returns-in-Closed-clause-goes : goal.returns-in-Closed-clause-goes
returns-in-Closed-clause-goes g c = λ answers settings q lt h. offer_closed (request_answer g.W.Future.ReplyFuture.answer g.W.Stream.ReplyStream.answer) answers settings c.args.self.now c.admit.new.self q c.args.event.now c.args.addr c.new-in-Closed.result.items c.requires c.in-Closed.ensures.cause c.in-Closed.ensures.state c.new-in-Closed.ensures.items h

pub returns-in-Full-clause-goes : goal.returns-in-Full-clause-goes
returns-in-Full-clause-goes g c = λ answers. MatchResult-weaker c.turn_away.result c.turn_away.ensures (λ outs away settings q lt h. offer_away (request_answer g.W.Future.ReplyFuture.answer g.W.Stream.ReplyStream.answer) answers settings c.args.self.now c.turn_away.new.used c.admit.new.self c.in-Full.taken c.in-Full.limit c.in-Full.accepted q c.args.event.now c.args.addr outs.items c.requires (sym c.if-contains.ensures) c.in-Full.ensures.cause c.in-Full.ensures.state away.0 away.1 h) (λ e k. k)

pub returns-in-Admitted-clause-goes : goal.returns-in-Admitted-clause-goes
returns-in-Admitted-clause-goes g c = λ answers. c.connect.ensures.goes answers c.args.self.now.book c.in-Admitted.ensures.cause c.in-Admitted.ensures.state

pub returns-then-contains-clause-steps : goal.returns-then-contains-clause-steps
returns-then-contains-clause-steps g c = λ answers settings q h. step_offer_used (request_answer g.W.Future.ReplyFuture.answer g.W.Stream.ReplyStream.answer) answers settings c.args.self.now q c.args.event.now c.args.addr c.new.result.items c.requires (sym c.if-contains.ensures) c.new.ensures.items h

pub returns-in-Closed-clause-steps : goal.returns-in-Closed-clause-steps
returns-in-Closed-clause-steps g c = λ answers settings q h. step_offer_closed (request_answer g.W.Future.ReplyFuture.answer g.W.Stream.ReplyStream.answer) answers settings c.args.self.now c.admit.new.self q c.args.event.now c.args.addr c.new-in-Closed.result.items c.requires (sym c.if-contains.ensures) c.in-Closed.ensures.cause c.in-Closed.ensures.state c.new-in-Closed.ensures.items h

pub returns-in-Full-clause-steps : goal.returns-in-Full-clause-steps
returns-in-Full-clause-steps g c = λ answers. MatchResult-weaker c.turn_away.result c.turn_away.ensures (λ outs away settings q h. step_offer_away (request_answer g.W.Future.ReplyFuture.answer g.W.Stream.ReplyStream.answer) answers settings c.args.self.now c.turn_away.new.used c.admit.new.self c.in-Full.taken c.in-Full.limit c.in-Full.accepted q c.args.event.now c.args.addr outs.items c.requires (sym c.if-contains.ensures) c.in-Full.ensures.cause c.in-Full.ensures.state away.0 away.1 h) (λ e k. k)

pub returns-in-Admitted-clause-steps : goal.returns-in-Admitted-clause-steps
returns-in-Admitted-clause-steps g c = λ answers. c.connect.ensures.steps answers c.args.self.now.book c.in-Admitted.ensures.cause c.in-Admitted.ensures.state

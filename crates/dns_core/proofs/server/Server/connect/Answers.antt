use Rattle.std.proofs.lemmas.Result.{MatchResult-weaker}
use Rattle.dns_service.specs.PolledRequest.{request_answer}
use Rattle.dns_core.proofs.Offered.{offer_goes}
use Rattle.dns_core.proofs.StepBegins.{offer_goes as step_offer_goes}
use Rattle.dns_core.proofs.server.Server.connect.Goals as goal

pub returns-clause-goes : goal.returns-clause-goes
returns-clause-goes g c = λ answers before admits after. MatchResult-weaker c.begin.result c.begin.ensures (λ outs kept settings q lt h.
    rw kept.0 (offer_goes (request_answer g.W.Future.ReplyFuture.answer g.W.Stream.ReplyStream.answer) answers settings (record c.args.self.now { book = before }) c.begin.new.clients c.begin.new.used c.args.self.now.book c.args.look.now c.in_ok-core.core q c.args.event.now c.args.addr c.new-nothing.result.items c.requires.kind
    c.requires.unused admits after c.new-nothing.ensures.items
    (c.in_ok-core.ensures.begun answers) c.in_ok-core.ensures.version (kept.1 answers) h)) (λ e k. k)

pub returns-clause-steps : goal.returns-clause-steps
returns-clause-steps g c = λ answers before admits after. MatchResult-weaker c.begin.result c.begin.ensures (λ outs kept settings q h.
    rw kept.0 (step_offer_goes (request_answer g.W.Future.ReplyFuture.answer g.W.Stream.ReplyStream.answer) answers settings (record c.args.self.now { book = before }) c.begin.new.clients c.begin.new.used c.args.self.now.book c.args.look.now c.in_ok-core.core q c.args.event.now c.args.addr c.new-nothing.result.items c.requires.kind
    c.requires.unused admits after c.new-nothing.ensures.items
    (c.in_ok-core.ensures.begun answers) c.in_ok-core.ensures.version (kept.1 answers) h)) (λ e k. k)

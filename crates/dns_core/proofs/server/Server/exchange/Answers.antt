use Rattle.std.proofs.Common.{◌∙◌, ap, sym}
use Rattle.std.proofs.lemmas.Result.{MatchResult-weaker}
use Rattle.dns_events.specs.declared.look.Look.{Look}
use Rattle.dns_session.specs.Serving.{serving}
use Rattle.dns_session.specs.Slate.{conf_of}
use Rattle.dns_service.specs.PolledRequest.{request_answer}
use Rattle.dns_core.proofs.Offered.{datagram_goes}
use Rattle.dns_core.proofs.StepBegins.{datagram_goes as step_datagram_goes}
use Rattle.dns_core.proofs.server.Server.exchange.Goals as goal

pub returns-clause-goes : goal.returns-clause-goes
returns-clause-goes g c = MatchResult-weaker c.begin.result c.begin.ensures (λ outs kept settings q lt h.
    let b = serving (g.W.SharedService.answer c.args.service.now) (g.W.SharedService.hint c.args.service.now) in
    rw kept.0 (datagram_goes (request_answer g.W.Future.ReplyFuture.answer g.W.Stream.ReplyStream.answer) b settings c.args.self.now c.begin.new.clients c.begin.new.used c.in_ok-core.core q c.args.event.now c.args.addr c.args.octets.now c.in_ok-core.outs.items c.requires.kind
    (ap (λ (x : Look). x.closed) (sym c.requires.shown) ∙ c.requires.running) c.requires.unused
    (λ s u k. c.in_ok-core.ensures.begun s u (k ∙ ap conf_of (sym c.requires.shown)))
    (c.in_ok-core.ensures.version ∙ ap (λ (x : Look). x.version) c.requires.shown) (kept.1 b) h)) (λ e k. k)

pub returns-clause-steps : goal.returns-clause-steps
returns-clause-steps g c = MatchResult-weaker c.begin.result c.begin.ensures (λ outs kept settings q h.
    let b = serving (g.W.SharedService.answer c.args.service.now) (g.W.SharedService.hint c.args.service.now) in
    rw kept.0 (step_datagram_goes (request_answer g.W.Future.ReplyFuture.answer g.W.Stream.ReplyStream.answer) b settings c.args.self.now c.begin.new.clients c.begin.new.used c.in_ok-core.core q c.args.event.now c.args.addr c.args.octets.now c.in_ok-core.outs.items c.requires.kind
    (ap (λ (x : Look). x.closed) (sym c.requires.shown) ∙ c.requires.running) c.requires.unused
    (λ s u k. c.in_ok-core.ensures.begun s u (k ∙ ap conf_of (sym c.requires.shown)))
    (c.in_ok-core.ensures.version ∙ ap (λ (x : Look). x.version) c.requires.shown) (kept.1 b) h)) (λ e k. k)

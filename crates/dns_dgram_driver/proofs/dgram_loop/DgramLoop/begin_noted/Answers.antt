use Rattle.dns_session.specs.Serving.{serving}
use Rattle.dns_service.specs.PolledRequest.{request_answer}
use Rattle.dns_events.specs.declared.event.EventKind.TheVariants.{Datagram}
use Rattle.std.proofs.Common.{refl}
use Rattle.dns_dgram_driver.specs.Steps.{event_with}
use Rattle.dns_dgram_driver.proofs.ObservedLaws.{if_ok_by, on_err_by, tells_none, tells_one}
use Rattle.dns_dgram_driver.proofs.Turns.{begins_by, begin_fails}
use Rattle.dns_dgram_driver.proofs.dgram_loop.DgramLoop.begin_noted.Goals as goal

pub returns-in-Err-clause-observed : goal.returns-in-Err-clause-observed
returns-in-Err-clause-observed g c = rw c.begin.ensures.rest (record { observed = tt; no_memory = tells_none (record { since = λ n r t. begin_fails (request_answer g.W.Future.ReplyFuture.answer g.W.Stream.ReplyStream.answer) (serving (g.W.SharedService.answer c.args.self.now.service.now) (g.W.SharedService.hint c.args.self.now.service.now)) c.args.self.now.state.now {e = event_with c.args.head (Datagram c.args.from c.args.octets)} c.requires.of refl t (record { noted = refl; received = refl; sent = refl }) }) })

pub returns-in-Ok-clause-observed : goal.returns-in-Ok-clause-observed
returns-in-Ok-clause-observed g c = rw (c.send_for.ensures.rest, c.begin.ensures.rest) (record {
  observed = if_ok_by c.send_for.result _ _ c.send_for.ensures.observed.observed
      (λ u d. tells_one (rw c.begin.ensures.rest at d) (λ x. record { since = λ n r t. begins_by (request_answer g.W.Future.ReplyFuture.answer g.W.Stream.ReplyStream.answer) (serving (g.W.SharedService.answer c.args.self.now.service.now) (g.W.SharedService.hint c.args.self.now.service.now)) c.args.self.now.state.now {e = event_with c.args.head (Datagram c.args.from c.args.octets)} c.args.octets c.args.from c.requires.running c.requires.of refl c.in-Ok.ensures.here c.in-Ok.ensures.others t x }));
  no_memory = on_err_by c.send_for.result c.send_for.ensures.observed.no_memory (λ d. tells_one d (λ u. record { since = λ n r t. begin_fails (request_answer g.W.Future.ReplyFuture.answer g.W.Stream.ReplyStream.answer) (serving (g.W.SharedService.answer c.args.self.now.service.now) (g.W.SharedService.hint c.args.self.now.service.now)) c.args.self.now.state.now {e = event_with c.args.head (Datagram c.args.from c.args.octets)} c.requires.of refl t u }));
})

use Rattle.dns_session.specs.Serving.{serving}
use Rattle.dns_service.specs.PolledRequest.{request_answer}
use Rattle.dns_events.specs.declared.event.EventKind.TheVariants.{Turn}
use Rattle.std.proofs.Common.{refl}
use Rattle.dns_dgram_driver.specs.Steps.{event_with}
use Rattle.dns_dgram_driver.proofs.ObservedLaws.{tells_none, tells_one}
use Rattle.dns_dgram_driver.proofs.Turns.{turns_by, fails_turn}
use Rattle.dns_dgram_driver.proofs.dgram_loop.DgramLoop.turn_noted.Goals as goal

pub returns-in-Err-clause-observed : goal.returns-in-Err-clause-observed
returns-in-Err-clause-observed g c = record { observed = tt; no_memory = tells_none (record { since = λ n r t. fails_turn (request_answer g.W.Future.ReplyFuture.answer g.W.Stream.ReplyStream.answer) (serving (g.W.SharedService.answer c.args.self.now.service.now) (g.W.SharedService.hint c.args.self.now.service.now)) c.args.self.now.state.now {e = event_with c.args.head (Turn 0)} refl t (record { noted = refl; received = refl; sent = refl }) }) }

pub returns-in-Err-send_for-clause-observed : goal.returns-in-Err-send_for-clause-observed
returns-in-Err-send_for-clause-observed g c = rw c.in-Err-send_for.ensures.rest (record { observed = tt; no_memory = tells_one c.in-Err-send_for.ensures.observed.no_memory (λ u. record { since = λ n r t. fails_turn (request_answer g.W.Future.ReplyFuture.answer g.W.Stream.ReplyStream.answer) (serving (g.W.SharedService.answer c.args.self.now.service.now) (g.W.SharedService.hint c.args.self.now.service.now)) c.args.self.now.state.now {e = event_with c.args.head (Turn 0)} refl t u }) })

pub returns-in-Ok-send_for-clause-observed : goal.returns-in-Ok-send_for-clause-observed
returns-in-Ok-send_for-clause-observed g c =
    let answers = (serving (g.W.SharedService.answer c.args.self.now.service.now) (g.W.SharedService.hint c.args.self.now.service.now)) in
    rw c.in-Ok-send_for.ensures.rest (record {
      observed = tells_one c.in-Ok-send_for.ensures.observed.observed
          (λ x. record { since = λ n r t. turns_by (request_answer g.W.Future.ReplyFuture.answer g.W.Stream.ReplyStream.answer) answers c.args.self.now.state.now {e = event_with c.args.head (Turn 0)} refl refl (c.in-Ok.ensures.here c.args.head.client answers c.requires.number) (λ d. c.in-Ok.ensures.others c.args.head.client d c.requires.number) t x });
      no_memory = tt;
    })

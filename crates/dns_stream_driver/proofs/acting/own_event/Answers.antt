-- The frame that stands first is written.
use Rattle.dns_service.specs.PolledRequest.{request_answer}
use Rattle.dns_stream_driver.specs.Rounds.{below_of}
use Rattle.dns_stream_driver.proofs.CloseCauses.{for_write, first_write}
use Rattle.dns_stream_driver.proofs.Choices.{chosen_write}
use Rattle.dns_stream_driver.proofs.acting.own_event.Goals as goal

pub returns-in-Some : goal.returns-in-Some
returns-in-Some g c =
    let a = request_answer g.W.Future.ReplyFuture.answer g.W.Stream.ReplyStream.answer in
    record {
      chosen = record {
        observed = λ t.
            let m = c.write_event.ensures.moved.observed t in
            (m.0, chosen_write a c.args.client (below_of c.args.kept.now.turn) _ c.args.core.now _ _ _ c.in-Some.frame.now c.in-Some.ensures.value (λ answers s h. c.in-Some.ensures.queue answers s h) m.1 c.write_timeout.ensures.value c.write_event.ensures.kind c.write_event.ensures.client);
      };
      clock = c.write_event.ensures.clock;
      blame = for_write a (below_of c.args.kept.now.turn) c.args.core.now _ _ _ c.in-Some.frame.now (λ answers s h. c.in-Some.ensures.queue answers s h) c.write_event.ensures.kind c.write_event.ensures.blame;
      again = record {
        observed = λ t.
            let m = c.write_event.ensures.again.observed t in
            (m.0, first_write a c.args.core.now _ _ _ c.in-Some.frame.now (λ answers s h. c.in-Some.ensures.queue answers s h) m.1);
      };
      no_memory = tt;
      later = c.write_event.ensures.blame.later;
    }

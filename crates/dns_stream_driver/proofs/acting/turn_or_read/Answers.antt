use Rattle.std.proofs.Common.{arith}
use Rattle.dns_service.specs.PolledRequest.{request_answer}
use Rattle.dns_stream_driver.specs.Rounds.{below_of}
use Rattle.dns_stream_driver.proofs.OwnEvents.{read_chosen, read_blame, read_again}
use Rattle.dns_stream_driver.proofs.CloseCauses.{first_turn, for_turn}
use Rattle.dns_stream_driver.proofs.Choices.{chosen_turn}
use Rattle.dns_stream_driver.proofs.Waits.{timed_turn}
use Rattle.dns_stream_driver.proofs.acting.turn_or_read.Goals as goal

pub returns-in-Some : goal.returns-in-Some
returns-in-Some g c =
    let a = request_answer g.W.Future.ReplyFuture.answer g.W.Stream.ReplyStream.answer in
    record {
      chosen = record {
        observed = λ t. (
          t,
          chosen_turn a c.args.client (below_of c.args.kept.now.turn) c.in-Some.request c.args.core.now c.turn_event.result (g.L.Link.traffic c.args.link.now)
              (λ answers s h. c.requires.queue answers s h) (λ answers s h. c.in-Some.ensures answers s h) c.turn_event.ensures.kind c.turn_event.ensures.client,
        );
      };
      clock = record {
        observed = λ t.
            let r = c.turn_event.ensures.dated.observed t.1 in
            ((t.0, r.0), timed_turn c.turn_event.result c.in-Some.request (g.L.Link.traffic c.args.link.now).full_writes (g.C.Clock.readings c.args.clock.now) (g.C.Clock.readings c.turn_event.new.clock) c.turn_event.ensures.kind r.1);
      };
      blame = for_turn a (below_of c.args.kept.now.turn) c.in-Some.request c.args.core.now c.turn_event.result (g.L.Link.faults c.args.link.now)
          (λ answers s h. c.requires.queue answers s h) (λ answers s h. c.in-Some.ensures answers s h) c.turn_event.ensures.kind;
      again = record { observed = λ t. (t, first_turn a c.args.core.now c.turn_event.result.kind c.in-Some.request (g.L.Link.traffic c.args.link.now) c.turn_event.ensures.kind) };
      no_memory = tt;
      later = omega arith;
    }

pub returns-in-None : goal.returns-in-None
returns-in-None g c =
    let a = request_answer g.W.Future.ReplyFuture.answer g.W.Stream.ReplyStream.answer in
    let below = below_of c.args.kept.now.turn in
    record {
      chosen = read_chosen a c.read_event.result (g.L.Link.tells c.args.link.now) (g.L.Link.tells c.read_event.new.link) c.args.client below c.args.core.now (g.L.Link.traffic c.args.link.now) (g.L.Link.traffic c.read_event.new.link)
          c.requires.value (λ answers s h. c.requires.queue answers s h) (λ answers s h. c.in-None.ensures answers s h) c.read_event.ensures.moved c.read_event.ensures.kind;
      clock = c.read_event.ensures.clock;
      blame = read_blame a c.read_event.result c.args.client below c.args.core.now (g.L.Link.faults c.args.link.now) (g.L.Link.faults c.read_event.new.link)
          (λ answers s h. c.requires.queue answers s h) (λ answers s h. c.in-None.ensures answers s h) c.read_event.ensures.blame c.read_event.ensures.kind;
      again = read_again a c.read_event.result (g.L.Link.tells c.args.link.now) (g.L.Link.tells c.read_event.new.link) c.args.client c.args.core.now (g.L.Link.traffic c.args.link.now) (g.L.Link.traffic c.read_event.new.link) c.read_event.ensures.again c.read_event.ensures.kind;
      no_memory = c.read_event.ensures.no_memory;
      later = c.read_event.ensures.later;
    }

use Rattle.dns_service.specs.PolledRequest.{request_answer}
use Rattle.dns_dgram_driver.proofs.Keeping.{turned_one}
use Rattle.dns_dgram_driver.proofs.exchanges.turn_kept.Goals as goal

pub returns-in-Ok-clause-turned : goal.returns-in-Ok-clause-turned
returns-in-Ok-clause-turned g c = λ answers.
    turned_one (request_answer g.W.Future.ReplyFuture.answer g.W.Stream.ReplyStream.answer) answers c.args.kept.now c.turn.new.self c.in-Ok.octets c.packet_to.result c.in-Ok.done
    (c.in-Ok.ensures.follows answers) (c.in-Ok.ensures.spent answers) c.packet_to.ensures

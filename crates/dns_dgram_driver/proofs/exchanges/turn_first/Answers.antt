use Rattle.dns_service.specs.PolledRequest.{request_answer}
use Rattle.dns_dgram_driver.proofs.Places.{turned_here, turned_others, turned_order}
use Rattle.dns_dgram_driver.proofs.exchanges.turn_first.Goals as goal

pub returns-clause-here : goal.returns-clause-here
returns-clause-here g c = turned_here (request_answer g.W.Future.ReplyFuture.answer g.W.Stream.ReplyStream.answer) c.in_ok-packet.ensures c.go_behind.ensures

pub returns-clause-others : goal.returns-clause-others
returns-clause-others g c = turned_others (request_answer g.W.Future.ReplyFuture.answer g.W.Stream.ReplyStream.answer) c.in_ok-packet.ensures c.go_behind.ensures

pub returns-clause-order : goal.returns-clause-order
returns-clause-order g c = turned_order (request_answer g.W.Future.ReplyFuture.answer g.W.Stream.ReplyStream.answer) c.in_ok-packet.ensures c.go_behind.ensures

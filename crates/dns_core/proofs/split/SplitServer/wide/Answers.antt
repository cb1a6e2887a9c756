use Rattle.dns_service.specs.PolledRequest.{request_answer}
use Rattle.dns_core.proofs.Stepping.{wide_goes}
use Rattle.dns_core.proofs.split.SplitServer.wide.Goals as goal

pub returns : goal.returns
returns g c = λ answers settings q h. wide_goes (request_answer g.W.Future.ReplyFuture.answer g.W.Stream.ReplyStream.answer) answers settings c.args.self.now.inner c.note.new.book q c.args.event.now c.requires c.note.ensures h

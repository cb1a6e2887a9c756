use Rattle.dns_session.specs.Serving.{serving}
use Rattle.std.proofs.Common.{◌≡◌, [], length}
use Rattle.dns_framing.specs.PolledRequest.{request_answer}
use Rattle.dns_session.proofs.Taking.{TakesOn}
use Rattle.dns_session.proofs.connection.OpenConnection.take_lent.Given as goal

abbrev pub invariant-taking : goal.invariant-taking
invariant-taking g l = record {
  empty : l.self.framer ≡ [];
  takes : TakesOn (request_answer g.W.Future.ReplyFuture.answer g.W.Stream.ReplyStream.answer) (serving (g.W.SharedService.answer l.service) (g.W.SharedService.hint l.service)) l.at l.secs (record l.fn.self { framer = l.fn.piece }) (record l.self { framer = l.rest });
}

abbrev pub decreases-taking : goal.decreases-taking
decreases-taking g l = length l.rest

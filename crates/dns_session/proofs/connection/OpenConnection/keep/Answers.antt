use Rattle.std.proofs.Common.{refl}
use Rattle.std.proofs.lemmas.Result.{on_ok_weaker}
use Rattle.dns_framing.specs.PolledRequest.{request_answer}
use Rattle.dns_session.proofs.Taking.{asks_by}
use Rattle.dns_session.proofs.connection.OpenConnection.keep.Goals as goal

pub returns : goal.returns
returns g c =
    on_ok_weaker c.enter.result (λ enters answers r kept.
    asks_by (request_answer g.W.Future.ReplyFuture.answer g.W.Stream.ReplyStream.answer) answers c.args.self.now (record c.args.self.now { unfinished = c.enter.new.self }) r c.args.kept c.requires enters refl kept) c.enter.ensures

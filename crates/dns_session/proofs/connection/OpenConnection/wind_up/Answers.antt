use Rattle.dns_framing.specs.PolledRequest.{request_answer}
use Rattle.dns_session.proofs.Stepped.{wound_at_once, wound_later}
use Rattle.dns_session.proofs.connection.OpenConnection.wind_up.Goals as goal
use Rattle.std.proofs.Common.{◌∙◌, sym}
use Rattle.dns_session.proofs.Stepped.{no_items, some_items}

pub returns-then-is_empty : goal.returns-then-is_empty
returns-then-is_empty g c = λ answers conf.
    wound_at_once (request_answer g.W.Future.ReplyFuture.answer g.W.Stream.ReplyStream.answer) answers c.args.self.now c.args.why conf (no_items c.args.self.now.invoker.queue.items (sym c.is_empty.ensures ∙ c.if-is_empty.true))

pub returns : goal.returns
returns g c = λ answers conf.
    wound_later (request_answer g.W.Future.ReplyFuture.answer g.W.Stream.ReplyStream.answer) answers c.args.self.now c.args.why conf (some_items c.args.self.now.invoker.queue.items (sym c.is_empty.ensures ∙ c.if-is_empty.false))

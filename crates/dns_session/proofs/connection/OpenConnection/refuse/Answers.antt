use Rattle.std.proofs.Common.{ap, sym, ◌∙◌}
use Rattle.dns_session.specs.Invoker.{finds_room}
use Rattle.dns_session.proofs.Taking.{unanswered}
use Rattle.dns_session.proofs.connection.OpenConnection.refuse.Goals as goal

pub returns-then-not-finds_room-clause-ok : goal.returns-then-not-finds_room-clause-ok
returns-then-not-finds_room-clause-ok g c =
    unanswered c.args.at c.args.self.now c.set_moment.new.self c.args.message.now c.set_moment.ensures (sym c.finds_room.ensures ∙ c.if-not-finds_room.true)

pub returns-in-Err-clause-err : goal.returns-in-Err-clause-err
returns-in-Err-clause-err g c = sym (ap finds_room c.set_moment.ensures) ∙ (sym c.finds_room.ensures ∙ c.if-not-finds_room.false)

use Rattle.std.proofs.Common.{◌≡◌, ◌+◌, ◌-◌, ◌<◌, arith, refl}
use Rattle.std.proofs.lemmas.Result.{IfOk-weaker, on_ok_weaker}
use Rattle.dns_framing.specs.PolledRequest.{request_answer}
use Rattle.dns_session.specs.Unfinished.{row_start}
use Rattle.dns_session.proofs.Rows.{changes_nothing, passed_changes, past_row}
use Rattle.dns_session.proofs.TurnsAt.{turned_before, turned_past}
use Rattle.dns_session.proofs.connection_request.turn_at.Goals as goal

pub returns-then-request-start-clause-here : goal.returns-then-request-start-clause-here
returns-then-request-start-clause-here g c =
    let before : c.args.request < row_start c.args.unfinished.now = omega (arith, c.if-request-start.true, c.row_start-start.ensures) in
    IfOk-weaker c.turn_passed.result _ _ (λ p t h. turned_before (request_answer g.F.ReplyFuture.answer g.R.ReplyStream.answer) c.args.unfinished.now _ c.args.request c.args.invoker.now c.turn_passed.new.invoker p.0 p.1 before refl refl t) c.turn_passed.ensures.here

pub returns-then-request-start-clause-others : goal.returns-then-request-start-clause-others
returns-then-request-start-clause-others g c =
    let before : c.args.request < row_start c.args.unfinished.now = omega (arith, c.if-request-start.true, c.row_start-start.ensures) in
    on_ok_weaker c.turn_passed.result (λ others h. passed_changes c.args.unfinished.now _ c.args.request before refl refl others h) c.turn_passed.ensures.others

pub returns-then-request-unfinished-clause-here : goal.returns-then-request-unfinished-clause-here
returns-then-request-unfinished-clause-here g c = λ h.
    turned_past (request_answer g.F.ReplyFuture.answer g.R.ReplyStream.answer) c.args.unfinished.now c.args.request c.args.invoker.now (past_row c.args.unfinished.now c.args.request h c.if-request-unfinished.true)

pub returns-then-request-unfinished-clause-others : goal.returns-then-request-unfinished-clause-others
returns-then-request-unfinished-clause-others g c = λ h. changes_nothing c.args.request c.args.unfinished.now h

pub returns-clause-here : goal.returns-clause-here
returns-clause-here g c =
    let there : row_start c.args.unfinished.now + (c.args.request - c.row_start-start.result) ≡ c.args.request = omega (arith, c.if-request-start.false, c.row_start-start.ensures) in
    rw there at c.turn_in_row.ensures.here

pub returns-clause-others : goal.returns-clause-others
returns-clause-others g c =
    let there : row_start c.args.unfinished.now + (c.args.request - c.row_start-start.result) ≡ c.args.request = omega (arith, c.if-request-start.false, c.row_start-start.ensures) in
    rw there at c.turn_in_row.ensures.others

use Rattle.std.proofs.Common.{◌≡◌, arith, refl, false, true}
use Rattle.std.proofs.lemmas.Grind.{common_steps}
use Rattle.dns_framing.specs.PolledRequest.{request_answer}
use Rattle.dns_session.proofs.Rows.{set_changes}
use Rattle.dns_session.proofs.TurnsAt.{gone_changes, gone_from_row, stays_in_row}
use Rattle.dns_session.proofs.connection_request.turn_in_row.Goals as goal

pub index_mut-requires : goal.index_mut-requires
index_mut-requires g c = let a = c.args.unfinished.now.row.ok.0 in omega (arith, a, c.requires)

pub returns-then-not-done-clause-here : goal.returns-then-not-done-clause-here
returns-then-not-done-clause-here g c = λ h.
    let stays : c.in_ok-counts.done ≡ false = grind (arith, common_steps, c.if-not-done.true) in
    stays_in_row (request_answer g.F.ReplyFuture.answer g.R.ReplyStream.answer) c.args.unfinished.now _ c.args.place c.index_mut.result.now c.turn_counted.new.self c.args.invoker.now c.turn_counted.new.invoker c.in_ok-counts.counts.0 c.in_ok-counts.counts.1 c.in_ok-counts.done c.requires c.index_mut.ensures.value refl refl refl c.in_ok-counts.ensures.turns c.in_ok-counts.ensures.before c.in_ok-counts.ensures.behind stays

pub returns-then-not-done-clause-others : goal.returns-then-not-done-clause-others
returns-then-not-done-clause-others g c = λ h. set_changes c.args.unfinished.now _ c.args.place c.turn_counted.new.self c.requires refl refl refl h

pub returns-clause-here : goal.returns-clause-here
returns-clause-here g c = λ h.
    let ended : c.in_ok-counts.done ≡ true = grind (arith, common_steps, c.if-not-done.false) in
    gone_from_row (request_answer g.F.ReplyFuture.answer g.R.ReplyStream.answer) c.args.unfinished.now _ c.let_go.new.self c.args.place c.index_mut.result.now c.turn_counted.new.self c.args.invoker.now c.turn_counted.new.invoker c.in_ok-counts.counts.0 c.in_ok-counts.counts.1 c.in_ok-counts.done c.requires c.index_mut.ensures.value refl refl refl c.in_ok-counts.ensures.turns c.in_ok-counts.ensures.before c.in_ok-counts.ensures.behind ended c.in_ok-let_go.ensures h

pub returns-clause-others : goal.returns-clause-others
returns-clause-others g c = λ h. gone_changes (request_answer g.F.ReplyFuture.answer g.R.ReplyStream.answer) c.args.unfinished.now _ c.let_go.new.self c.args.place c.turn_counted.new.self c.requires refl refl refl c.in_ok-let_go.ensures h

use Rattle.std.proofs.Common.{◌≡◌, Some, None, refl, sym}
use Rattle.std.specs.Option.{IsSome}
use Rattle.std.specs.Ordering.{nat_cmp}
use Rattle.std.specs.BTreeMap.{get}
use Rattle.std.specs.Prelude.{not, ◌&&◌, if◌then◌else◌}
use Rattle.dns_session.specs.Connections.{is_in_transaction}
use Rattle.dns_framing.specs.PolledRequest.{request_answer}
use Rattle.dns_session.proofs.TurnsAt.{turned_at}
use Rattle.dns_session.proofs.connection_request.turn_passed.Goals as goal

pub returns-clause-here : goal.returns-clause-here
returns-clause-here g c =
    let old = get nat_cmp c.args.passed.now c.args.request in
    let turned = c.turn_counted.new.self in
    let done = c.in_ok-turned.turned.1 in
    let is : old ≡ Some c.in-Some.kept.now = sym c.in-Some.ensures.value in
    let some : IsSome old = rw is refl in
    let here : get nat_cmp (c.get_mut.follows.lender turned) c.args.request ≡ Some turned = ((c.get_mut.follows.holds turned).3 some).1 in
    let left : get nat_cmp c.let_go.new.passed c.args.request ≡ (if done then None else Some turned) = rw here at c.let_go.ensures.here in
    let before : c.let_go.result.0 ≡ is_in_transaction c.in-Some.kept.now.status = rw c.let_go.ensures.counts c.in_ok-turned.ensures.before in
    let behind : c.let_go.result.1 ≡ (not done && is_in_transaction turned.status) = rw c.let_go.ensures.counts c.in_ok-turned.ensures.behind in
    turned_at (request_answer g.F.ReplyFuture.answer g.R.ReplyStream.answer) old (get nat_cmp c.let_go.new.passed c.args.request) c.in-Some.kept.now turned c.args.invoker.now c.turn_counted.new.invoker c.let_go.result.0 c.let_go.result.1 done is c.in_ok-turned.ensures.turns before behind left

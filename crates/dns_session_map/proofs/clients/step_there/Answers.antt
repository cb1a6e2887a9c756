use Rattle.dns_session.specs.Serving.{serving}
use Rattle.std.proofs.Common.{rules, ◌≡◌, Some, sym}
use Rattle.std.specs.Ordering.{nat_cmp}
use Rattle.std.specs.BTreeMap.{get}
use Rattle.dns_service.specs.PolledRequest.{request_answer}
use Rattle.dns_session_map.proofs.One.{steps_there, at_there}
use Rattle.dns_session_map.proofs.clients.step_there.Goals as goal

pub returns-in_ok-stepped-in-Some-clause-here : goal.returns-in_ok-stepped-in-Some-clause-here
returns-in_ok-stepped-in-Some-clause-here g c =
    let b = serving (g.W.SharedService.answer c.args.service.now) (g.W.SharedService.hint c.args.service.now) in
    let is : get nat_cmp c.args.clients.now c.args.client ≡ Some c.in-Some.core.now = sym c.in-Some.ensures.value in
    let now : get nat_cmp (c.get_mut.follows.lender c.step_core.new.core) c.args.client ≡ Some c.step_core.new.core = ((c.get_mut.follows.holds c.step_core.new.core).3 (search rules)).1 in
    steps_there (request_answer g.W.Future.ReplyFuture.answer g.W.Stream.ReplyStream.answer) b (get nat_cmp c.args.clients.now c.args.client) (get nat_cmp (c.get_mut.follows.lender c.step_core.new.core) c.args.client) c.in-Some.core.now c.step_core.new.core c.args.event.now c.in_ok-stepped-in-Some.stepped.outs.items c.in_ok-stepped-in-Some.stepped.finished c.in_ok-stepped-in-Some.stepped.freed is now c.in_ok-stepped-in-Some.ensures.goes (c.in_ok-stepped-in-Some.ensures.over b)

pub returns-in_ok-stepped-in-Some-clause-version : goal.returns-in_ok-stepped-in-Some-clause-version
returns-in_ok-stepped-in-Some-clause-version g c = λ v.
    let is : get nat_cmp c.args.clients.now c.args.client ≡ Some c.in-Some.core.now = sym c.in-Some.ensures.value in
    let now : get nat_cmp (c.get_mut.follows.lender c.step_core.new.core) c.args.client ≡ Some c.step_core.new.core = ((c.get_mut.follows.holds c.step_core.new.core).3 (search rules)).1 in
    at_there (get nat_cmp c.args.clients.now c.args.client) (get nat_cmp (c.get_mut.follows.lender c.step_core.new.core) c.args.client) c.in-Some.core.now c.step_core.new.core v is now c.in_ok-stepped-in-Some.ensures.version

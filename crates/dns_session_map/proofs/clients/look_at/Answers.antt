use Rattle.std.proofs.Common.{rules, ◌≡◌, Some, sym}
use Rattle.std.specs.Ordering.{nat_cmp}
use Rattle.std.specs.BTreeMap.{get}
use Rattle.dns_service.specs.PolledRequest.{request_answer}
use Rattle.dns_session_map.proofs.One.{looks_there}
use Rattle.dns_session_map.proofs.clients.look_at.Goals as goal

pub returns-in_ok-outs-in-Some-clause-here : goal.returns-in_ok-outs-in-Some-clause-here
returns-in_ok-outs-in-Some-clause-here g c = λ answers.
    let is : get nat_cmp c.args.clients.now c.args.number ≡ Some c.in-Some.core.now = sym c.in-Some.ensures.value in
    let now : get nat_cmp (c.get_mut.follows.lender c.saw.new.self) c.args.number ≡ Some c.saw.new.self = ((c.get_mut.follows.holds c.saw.new.self).3 (search rules)).1 in
    looks_there (request_answer g.W.Future.ReplyFuture.answer g.W.Stream.ReplyStream.answer) answers (get nat_cmp c.args.clients.now c.args.number) (get nat_cmp (c.get_mut.follows.lender c.saw.new.self) c.args.number) c.in-Some.core.now c.saw.new.self c.args.look.now c.in_ok-outs-in-Some.outs.items is now (c.in_ok-outs-in-Some.ensures.follows answers) c.in_ok-outs-in-Some.ensures.version

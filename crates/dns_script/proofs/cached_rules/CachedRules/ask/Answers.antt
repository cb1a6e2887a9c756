use Rattle.std.proofs.Common.{refl, subst, arith}
use Rattle.std.specs.Prelude.{OnErr}
use Rattle.dns_service.specs.Req.{Req}
use Rattle.dns_script.specs.CachedRules.{CachedState, IsBehindCalls, request_of_ask, rule_turns}
use Rattle.dns_script.proofs.Called.{on_err}
use Rattle.dns_script.proofs.cached_rules.CachedRules.ask.Goals as goal

pub returns-in_err-request-clause-err : goal.returns-in_err-request-clause-err
returns-in_err-request-clause-err c =
    let s = c.args.self.now in
    let behind : IsBehindCalls (rule_turns s.rules) (request_of_ask c.args.ask) s.cached s.cached = record { calls = 0; few = omega arith; behind = refl } in
    on_err _ behind

pub returns-clause-err : goal.returns-clause-err
returns-clause-err c =
    let i = c.self.inside in
    subst (λ (s : CachedState). OnErr c.ask_request.result (IsBehindCalls (rule_turns s.rules) (request_of_ask c.args.ask) s.cached c.ask_request.new.cache)) c.self.view_is
    (subst (λ (r : Req (Unit {0})). OnErr c.ask_request.result (IsBehindCalls (rule_turns i.turns.rules) r i.cache c.ask_request.new.cache)) c.in_ok-request.ensures c.ask_request.ensures.err)

use Rattle.std.proofs.Common.{refl, sym, ◌∙◌, arith}
use Rattle.dns_script.proofs.Called.{behind_more, called_first, called_on, on_err, stopped}
use Rattle.dns_script.specs.CachedRules.{IsBehindCalls, rule_turns}
use Rattle.dns_script.proofs.cached_rules.ask_request.Goals as goal

pub loop-k-init : goal.loop-k-init
loop-k-init c = record {
  so_far = called_first (rule_turns c.args.turns.now.rules) c.args.request.now c.args.cache.now;
  made = refl;
  few = omega arith;
}

pub loop-k-preserved : goal.loop-k-preserved
loop-k-preserved c =
    let answers = rule_turns c.args.turns.now.rules in
    let r = c.args.request.now in
    record {
      so_far = called_on answers r c.loop-k.k c.loop-k.cache c.call.new.cache c.args.cache.now c.loop-k-test.true
          (sym (rw c.in_default.is at c.in_ok-line.ensures.line)) c.in_ok-line.ensures.cached c.loop-k.invariant.so_far;
      made = behind_more answers r c.loop-k.k c.loop-k.cache c.call.new.cache c.args.cache.now c.loop-k.invariant.made c.in_ok-line.ensures.cached;
      few = omega (arith, c.loop-k-test.true);
    }

pub returns-in_err-line-clause-err : goal.returns-in_err-line-clause-err
returns-in_err-line-clause-err c =
    on_err _ (stopped (rule_turns c.args.turns.now.rules) c.args.request.now c.loop-k.k c.loop-k.cache c.call.new.cache c.args.cache.now c.loop-k-test.true c.loop-k.invariant.made c.in_err-line.ensures.err)

pub returns-clause-err : goal.returns-clause-err
returns-clause-err c =
    let behind : IsBehindCalls (rule_turns c.args.turns.now.rules) c.args.request.now c.args.cache.now c.loop-k.cache = record { calls = c.loop-k.k; few = c.loop-k.invariant.few; behind = c.loop-k.invariant.made } in
    on_err _ behind

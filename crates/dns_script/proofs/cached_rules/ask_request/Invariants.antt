use Rattle.std.proofs.Common.{◌≡◌, ◌-◌, ◌≤◌}
use Rattle.dns_script.specs.CachedRules.{called_from, calls_behind, first_ready, rule_turns}
use Rattle.dns_script.proofs.cached_rules.ask_request.Given as goal

-- the calls that are left give what all give, and the cache is after those that were made
abbrev pub invariant-loop-k : goal.invariant-loop-k
invariant-loop-k l = record {
  so_far : called_from (rule_turns l.turns.rules) l.request (1000 - l.k) l.k l.cache ≡ first_ready (rule_turns l.turns.rules) l.request l.fn.cache;
  made : l.cache ≡ calls_behind (rule_turns l.turns.rules) l.request l.k 0 l.fn.cache;
  few : l.k ≤ 1000;
}

use Rattle.std.proofs.Common.{◌≡◌, ◌≤◌, length, ◌+◌, ◌-◌, IfSome, None}
use Rattle.dns_name.specs.Names.{name_by, end_of, end_by, rest_of, near}
use Rattle.dns_name.proofs.parsed.walked_end.Given as goal

abbrev pub invariant-pieces : goal.invariant-pieces
invariant-pieces l = record {
  within : l.at ≤ length (near l.reach.limit l.hops l.message);
  unjumped : (l.end ≡ None) → l.hops ≡ 0;
  size : l.size ≤ 254;
  hops : l.hops ≤ 255;
  ended : IfSome l.end (λ e. e ≤ l.reach.limit);
  walk : end_by l.end (rest_of l.message l.reach l.at l.size l.hops) ≡ end_of (name_by l.message l.reach l.start);
}

abbrev pub decreases-pieces : goal.decreases-pieces
decreases-pieces l = (255 - l.size) + (255 - l.hops)

use Rattle.std.proofs.Common.{◌≡◌, ◌≤◌, ◌<◌, ◌-◌, None}
use Rattle.dns_name.specs.Names.{name_by, end_of, end_by, rest_of}
use Rattle.dns_name.proofs.parsed.plain_end.Given as goal

abbrev pub invariant-labels : goal.invariant-labels
invariant-labels l = record {
  after : l.start ≤ l.at;
  walk : l.at < l.bound → end_by None (rest_of l.message l.fn.reach l.at (l.at - l.start) 0) ≡ end_of (name_by l.message l.fn.reach l.start);
}

abbrev pub decreases-labels : goal.decreases-labels
decreases-labels l = l.bound - l.at

use Rattle.std.proofs.Common.{◌≡◌, ◌++◌, drop}
use Rattle.dns_notifier.specs.Announced.{known_serials}
use Rattle.dns_notifier.proofs.known.known_serials.Given as goal

abbrev pub invariant-each : goal.invariant-each
invariant-each l = l.known.items ++ known_serials (drop l.entry-index l.entries) l.left ≡ known_serials l.fn.entries l.fn.summaries

use Rattle.std.proofs.Common.{drop, string_bytes}
use Rattle.dns_zone_copies.proofs.Reported.{Says}
use Rattle.dns_zone_copies.proofs.copies.Copies.report.Given as goal

abbrev pub invariant-each : goal.invariant-each
invariant-each l = Says l.self.secondaries.items (drop l.secondary-index l.self.secondaries.items) (string_bytes l.text)

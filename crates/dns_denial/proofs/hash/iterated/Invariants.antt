use Rattle.std.proofs.Common.{◌≡◌}
use Rattle.dns_denial.specs.Nsec3.{iterated}
use Rattle.dns_denial.proofs.hash.iterated.Given as goal

abbrev pub invariant-rounds : goal.invariant-rounds
invariant-rounds l = l.hash ≡ iterated l.salt l.octets l.round

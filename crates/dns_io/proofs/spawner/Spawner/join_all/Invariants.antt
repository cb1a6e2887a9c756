use Rattle.std.proofs.Common.{◌≡◌}
use Rattle.dns_io.specs.Causes.{Observed}
use Rattle.dns_io.proofs.spawner.Spawner.join_all.Given as goal

abbrev pub invariant-loop : goal.invariant-loop
invariant-loop g l = record {
  given : Observed (g.Self.Spawner.tells l.self) (g.Self.Spawner.tells l.initial.self) (g.Self.Spawner.given l.self ≡ g.Self.Spawner.given l.initial.self);
  same : g.Self.Spawner.faults l.self ≡ g.Self.Spawner.faults l.initial.self;
}

use Rattle.std.proofs.Common.{◌≡◌, Bor, map}
use Rattle.std.specs.Prelude.{ℕ}
use Rattle.dns_zone_tree.proofs.glue.in_order.Given as goal

abbrev pub invariant-each : goal.invariant-each
invariant-each l = l.places.items ≡ map (λ (x : Bor ℕ). x.now) l.yielded

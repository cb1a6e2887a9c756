use Rattle.std.proofs.Common.{◌≡◌, ◌≤◌, length, drop}
use Rattle.std.specs.Option.{option_copied}
use Rattle.dns_authority.specs.Authorities.{zone_above}
use Rattle.dns_authority.proofs.authority.Authority.zone_above.Given as goal

abbrev pub invariant-each : goal.invariant-each
invariant-each l = record {
  within : l.left ≤ length l.self.zones;
  best : option_copied l.best ≡ zone_above l.question.qname (drop l.left l.self.zones);
}

abbrev pub decreases-each : goal.decreases-each
decreases-each l = l.left

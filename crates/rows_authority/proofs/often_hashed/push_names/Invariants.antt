use Rattle.dns_zone.specs.Owned.{AreLawful}
use Rattle.rows_authority.proofs.often_hashed.push_names.Given as goal

abbrev pub invariant-each : goal.invariant-each
invariant-each l = AreLawful l.records.items

use Rattle.std.proofs.Common.{drop, map}
use Rattle.zoned.proofs.Loaded.{Leads}
use Rattle.zoned.specs.Loading.{allowed_network, no_zones}
use Rattle.zoned.proofs.load.load_generation.Given as goal

abbrev pub invariant-each : goal.invariant-each
invariant-each l =
    Leads l.secondaries l.config.zone.items (no_zones (map allowed_network l.config.allow_transfer.items))
    (drop l.entry-index l.config.zone.items) l.generation

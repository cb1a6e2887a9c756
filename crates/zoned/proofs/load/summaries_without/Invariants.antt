use Rattle.std.proofs.Common.{drop}
use Rattle.zoned.proofs.Loaded.{Makes}
use Rattle.zoned.proofs.load.summaries_without.Given as goal

abbrev pub invariant-each : goal.invariant-each
invariant-each l =
    Makes l.secondaries l.config.zone.items l.summaries (drop l.entry-index l.config.zone.items) l.left l.others.items

use Rattle.std.proofs.Common.{take}
use Rattle.zoned.specs.Keys.{AreJudged}
use Rattle.zoned.proofs.keys.load_access.Given as goal

abbrev pub invariant-zones : goal.invariant-zones
invariant-zones l =
    AreJudged l.keys l.for_all (take l.entry-index l.config.zone.items) l.access.transfers.items l.access.notifies.items

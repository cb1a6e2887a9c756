use Rattle.std.proofs.Common.{take}
use Rattle.std.specs.List.{AllZip}
use Rattle.zoned.specs.Keys.{IsKeyOf}
use Rattle.zoned.proofs.keys.load_keys.Given as goal

abbrev pub invariant-keys : goal.invariant-keys
invariant-keys l = AllZip IsKeyOf (take l.entry-index l.config.key.items) l.keys

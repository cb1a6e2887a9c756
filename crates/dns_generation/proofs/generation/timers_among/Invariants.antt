use Rattle.std.proofs.Common.{◌≡◌, drop}
use Rattle.dns_generation.specs.Generations.{timers_among}
use Rattle.dns_generation.proofs.generation.timers_among.Given as goal

abbrev pub invariant-loop-record : goal.invariant-loop-record
invariant-loop-record l = timers_among (drop l.record-index l.records) ≡ timers_among l.records

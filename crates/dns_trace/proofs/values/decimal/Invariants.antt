use Rattle.std.proofs.Common.{◌≡◌, ◌<◌, ◌^◌, drop}
use Rattle.dns_trace.specs.Values.{digits_after}
use Rattle.dns_trace.proofs.values.decimal.Given as goal

-- the digits that are left go on with the number so far
abbrev pub invariant-loop-digit : goal.invariant-loop-digit
invariant-loop-digit l = record {
  so_far : digits_after l.value (drop l.digit-index l.word) ≡ digits_after 0 l.word;
  bound : l.value < 10 ^ l.digit-index;
}

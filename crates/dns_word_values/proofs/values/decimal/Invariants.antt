use Rattle.std.proofs.Common.{◌≡◌, ◌<◌, drop}
use Rattle.dns_word_values.specs.Values.{decimal_after}
use Rattle.dns_word_values.proofs.values.decimal.Given as goal

-- the digits that are left go on with the number so far
abbrev pub invariant-loop-digit : goal.invariant-loop-digit
invariant-loop-digit l = record {
  so_far : decimal_after l.top l.value (drop l.digit-index l.word) ≡ decimal_after l.top 0 l.word;
  below : 0 < l.digit-index → l.value < l.top;
  few : l.value < 4294967296;
}

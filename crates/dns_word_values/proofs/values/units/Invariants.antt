use Rattle.std.proofs.Common.{◌≡◌, ◌<◌, drop, None, IfSome}
use Rattle.dns_word_values.specs.Values.{units_after}
use Rattle.dns_word_values.proofs.values.units.Given as goal

abbrev pub invariant-loop-octet : goal.invariant-loop-octet
invariant-loop-octet l = record {
  so_far : units_after l.total l.number (drop l.octet-index l.word) ≡ units_after 0 None l.word;
  few : l.total < 4294967296;
  below : IfSome l.number (λ n. n < 4294967296);
}

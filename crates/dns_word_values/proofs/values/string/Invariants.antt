use Rattle.std.proofs.Common.{◌≡◌, drop, []}
use Rattle.dns_word_values.specs.Values.{IsEscape, unescaped}
use Rattle.dns_word_values.specs.declared.values.Escape.TheVariants.{Clear}
use Rattle.dns_word_values.proofs.values.string.Given as goal

abbrev pub invariant-loop-octet : goal.invariant-loop-octet
invariant-loop-octet l = record {
  so_far : unescaped l.escape l.octets.items (drop l.octet-index l.word) ≡ unescaped Clear [] l.word;
  escape : IsEscape l.escape;
}

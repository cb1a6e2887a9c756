use Rattle.std.proofs.Common.{◌≡◌, drop}
use Rattle.dns_presentation.specs.Fields.{strings_after}
use Rattle.dns_presentation.proofs.rdata.push_strings.Given as goal

abbrev pub invariant-loop-word : goal.invariant-loop-word
invariant-loop-word l = strings_after l.target.items (drop l.word-index l.words) ≡ strings_after l.fn.target.items l.words

use Rattle.std.proofs.Common.{◌≡◌, drop}
use Rattle.dns_presentation.specs.Names.{absolute_after, is_absolute}
use Rattle.dns_presentation.proofs.names.is_absolute.Given as goal

abbrev pub invariant-loop-octet : goal.invariant-loop-octet
invariant-loop-octet l = absolute_after l.escaped l.dot (drop l.octet-index l.word) ≡ is_absolute l.word

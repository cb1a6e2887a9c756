use Rattle.std.proofs.Common.{◌≡◌, drop}
use Rattle.std.specs.List.{list_all}
use Rattle.dns_presentation.specs.Names.{stands_alone}
use Rattle.dns_presentation.proofs.names.stand_alone.Given as goal

abbrev pub invariant-loop-octet : goal.invariant-loop-octet
invariant-loop-octet l = list_all stands_alone (drop l.octet-index l.word) ≡ list_all stands_alone l.word

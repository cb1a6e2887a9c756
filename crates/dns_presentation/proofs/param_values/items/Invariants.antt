use Rattle.std.proofs.Common.{◌≡◌, drop, []}
use Rattle.dns_presentation.specs.ServiceParams.{items_after, items_of}
use Rattle.dns_presentation.proofs.param_values.items.Given as goal

abbrev pub invariant-loop-octet : goal.invariant-loop-octet
invariant-loop-octet l = items_after l.item l.escaped l.octets.items l.word.items (drop l.octet-index l.value) ≡ items_of l.item l.value

use Rattle.std.proofs.Common.{◌≡◌}
use Rattle.dns_word_values.specs.TypeSets.{windows_to}
use Rattle.dns_word_values.proofs.type_sets.windows.Given as goal

abbrev pub invariant-loop-window : goal.invariant-loop-window
invariant-loop-window l = l.octets.items ≡ windows_to l.types l.window

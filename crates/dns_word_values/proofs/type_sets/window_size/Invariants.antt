use Rattle.std.proofs.Common.{◌≡◌, ◌≤◌, drop}
use Rattle.dns_word_values.specs.TypeSets.{size_after}
use Rattle.dns_word_values.proofs.type_sets.window_size.Given as goal

-- the types that are left go on with the size so far
abbrev pub invariant-loop-rtype : goal.invariant-loop-rtype
invariant-loop-rtype l = record {
  so_far : size_after l.window l.size (drop l.rtype-index l.types) ≡ size_after l.window 0 l.types;
  few : l.size ≤ 32;
}

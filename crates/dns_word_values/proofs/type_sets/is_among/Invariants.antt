use Rattle.std.proofs.Common.{◌≡◌, drop}
use Rattle.std.specs.List.{list_any}
use Rattle.std.specs.Prelude.{nat_eq}
use Rattle.dns_word_values.proofs.type_sets.is_among.Given as goal

abbrev pub invariant-loop-rtype : goal.invariant-loop-rtype
invariant-loop-rtype l = list_any (λ u. nat_eq u l.wanted) (drop l.rtype-index l.types) ≡ list_any (λ u. nat_eq u l.wanted) l.types

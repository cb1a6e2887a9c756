-- However records are cut into messages, the same comes of them.
use Rattle.std.proofs.Common.{◌≡◌, List, [], ◌∷◌, ◌++◌, refl, ap, sym, ◌∙◌}
use Rattle.std.specs.List.{flat_map}
use Rattle.dns_message.specs.declared.record.Record.{Record}
use Rattle.dns_incoming.specs.Incoming.{IncomingState, taken_record}
use Rattle.dns_incoming.specs.IncomingLaws.{CutsAreTheSame, all_taken, cut_taken}

-- some records, and then others
pub taken_then : (rs more : List Record) (s : IncomingState) → all_taken s (rs ++ more) ≡ all_taken (all_taken s rs) more
taken_then [] more s = refl
taken_then (r ∷ rs) more s = taken_then rs more (taken_record s r)

pub cuts_are_the_same : CutsAreTheSame
cuts_are_the_same s [] = refl
cuts_are_the_same s (rs ∷ more) = cuts_are_the_same (all_taken s rs) more ∙ sym (taken_then rs (flat_map (λ (xs : List Record). xs) more) s)

use Rattle.std.proofs.Common.{◌≡◌, ◌++◌, List, ℕ, length}
use Rattle.std.specs.Fmt.{HasWritten, IsPlainFormatter}
use Rattle.dns_name.specs.NameText.{more_text}
use Rattle.dns_name.proofs.name_text.write_more.Given as goal

abbrev pub invariant-labels : goal.invariant-labels
invariant-labels g l =
    IsPlainFormatter l.initial.f → (bs : List ℕ) × HasWritten g.W.Write.write_str_gives l.initial.f bs l.f × (bs ++ more_text l.labels ≡ more_text l.initial.labels)

abbrev pub decreases-labels : goal.decreases-labels
decreases-labels g l = length l.labels

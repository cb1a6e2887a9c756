use Rattle.std.proofs.Common.{◌≡◌, List, ℕ, ◌++◌, length}
use Rattle.std.specs.Fmt.{HasWritten, IsPlainFormatter}
use Rattle.dns_lists.specs.Texts.{more_numbers_text}
use Rattle.dns_lists.proofs.key_tag.write_more.Given as goal

abbrev pub invariant-each : goal.invariant-each
invariant-each g l =
    IsPlainFormatter l.fn.f
    → (done : List ℕ) × HasWritten g.W.Write.write_str_gives l.fn.f done l.f × (done ++ more_numbers_text l.left ≡ more_numbers_text l.fn.tags)

abbrev pub decreases-each : goal.decreases-each
decreases-each g l = length l.left

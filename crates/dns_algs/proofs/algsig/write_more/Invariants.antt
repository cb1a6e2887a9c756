use Rattle.std.proofs.Common.{◌≡◌, List, ℕ, ◌++◌, length}
use Rattle.std.specs.Fmt.{HasWritten, IsPlainFormatter}
use Rattle.dns_algs.specs.Algorithms.{more_algorithms_text}
use Rattle.dns_algs.proofs.algsig.write_more.Given as goal

abbrev pub invariant-each : goal.invariant-each
invariant-each g l =
    IsPlainFormatter l.fn.f
    → (done : List ℕ) × HasWritten g.W.Write.write_str_gives l.fn.f done l.f × (done ++ more_algorithms_text l.left ≡ more_algorithms_text l.fn.octets)

abbrev pub decreases-each : goal.decreases-each
decreases-each g l = length l.left

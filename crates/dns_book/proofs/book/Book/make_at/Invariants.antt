use Rattle.std.proofs.Common.{◌≡◌}
use Rattle.crossbeam_utils.specs.Seq.{cell_view, IsSamePass}
use Rattle.dns_book.proofs.book.Book.make_at.Given as goal

abbrev pub invariant-loop : goal.invariant-loop
invariant-loop g l =
    (goal.iterator-loop g).can_next l.iterator' × (goal.iterator-loop g).is_finite l.iterator' × IsSamePass l.initial.pass l.pass × (cell_view l.pass ≡ cell_view l.initial.pass)

use Rattle.std.proofs.Common.{◌+◌, length}
use Rattle.rows_io.proofs.book.+fit_in_some_order.Given as goal

abbrev pub decreases-fit_in_some_order : goal.decreases-fit_in_some_order
decreases-fit_in_some_order l = length l.first.now + length l.second.now

use Rattle.dns_book.proofs.book.Book.try_once.Given as goal

abbrev pub ghosts-attempt : goal.ghosts-attempt
ghosts-attempt g a = record { ask = a.call.now; current = a.current }

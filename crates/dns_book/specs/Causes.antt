-- Whether a book was shut down, by what a seat knows.
use Rattle.std.specs.Prelude.{◌≡◌, ◌⊎◌, true, List, [], ◌∷◌}
use Rattle.dns_admission.specs.declared.call.Call.TheVariants.{Shutdown}
use Rattle.dns_book.specs.declared.history.Entry.{Entry}
use Rattle.dns_book.specs.declared.history.Known.{Known}
use Rattle.dns_book.specs.History.{but_last}

-- a shutdown stands in the history
abbrev pub HasShutdown : List Entry → Type 0
HasShutdown [] = ⊥
HasShutdown (e ∷ es) = (e.call ≡ Shutdown) ⊎ HasShutdown es

-- the book began closed, or a shutdown stands before the seat's last call
abbrev pub WasShutDown : Known → Type 0
WasShutDown k = (k.opening.closed ≡ true) ⊎ HasShutdown (but_last k.seen)

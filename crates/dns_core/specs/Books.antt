-- The events that all clients hear, as calls of the book, and as its entries.
use Rattle.std.specs.Prelude.{List, [], ◌∷◌, Bool, false, not, ◌&&◌}
use Rattle.dns_events.specs.declared.look.Look.{Look as State}
use Rattle.dns_admission.specs.declared.call.Call.TheVariants as call
use Rattle.dns_admission.specs.Machine.{state_after, has_version}
use Rattle.dns_events.specs.declared.event.Event.{Event}
use Rattle.dns_events.specs.declared.event.EventKind.{EventKind}
use Rattle.dns_events.specs.declared.event.EventKind.TheVariants.{Reconfigure, Shutdown}

-- the book after an event
abbrev pub book_rule : State → EventKind → State
book_rule b (Reconfigure dgram stream) = state_after b (call.Reconfigure dgram stream)
book_rule b Shutdown = state_after b call.Shutdown
book_rule b _ = b

-- an event that changes the book is an entry of it
abbrev pub is_entry : State → EventKind → Bool
is_entry b (Reconfigure dgram stream) = not b.closed && has_version b
is_entry b Shutdown = not b.closed
is_entry b _ = false

-- the book after some events
abbrev pub books : State → List Event → State
books b [] = b
books b (e ∷ es) = books (book_rule b e.kind) es

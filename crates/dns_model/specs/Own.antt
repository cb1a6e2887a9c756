-- The events that a client hears, in order: its own, and those that all clients hear, whose number says nothing.
use Rattle.std.specs.Prelude.{ℕ, ◌==◌, ◌||◌, List, filter, Bool, true, false}
use Rattle.dns_events.specs.declared.event.Event.{Event}
use Rattle.dns_events.specs.declared.event.EventKind.{EventKind}
use Rattle.dns_events.specs.declared.event.EventKind.TheVariants.{Reconfigure, Shutdown}

-- all clients hear it
abbrev pub is_wide : EventKind → Bool
is_wide (Reconfigure dgram stream) = true
is_wide Shutdown = true
is_wide _ = false

abbrev pub concerns : ℕ → Event → Bool
concerns c e = is_wide e.kind || (e.client == c)

abbrev pub own : ℕ → List Event → List Event
own c es = filter (concerns c) es

-- What a look at the book tells a client that looked before: the configurations, if their version is new, and then the
-- shutdown, if that is new.
use Rattle.std.specs.Prelude.{ℕ, ◌==◌, List, [], ◌∷◌, ◌++◌, Bool, not, ◌&&◌, if◌then◌else◌}
use Rattle.dns_events.specs.declared.look.Look.{Look}
use Rattle.dns_events.specs.declared.event.Event.{Event}
use Rattle.dns_events.specs.declared.event.EventKind.{EventKind}
use Rattle.dns_events.specs.declared.event.EventKind.TheVariants.{Reconfigure, Shutdown}
use Rattle.dns_session.specs.Serving.{Serving}
use Rattle.dns_session.specs.Slate.{Slate, Effect}
use Rattle.dns_session.specs.After.{slate_after, sent_after}

-- an event that all clients hear, whose moment and number say nothing
abbrev pub wide : EventKind → Event
wide kind = record { at = 0; secs = 0; client = 0; kind = kind }

abbrev pub new_configurations : ℕ → Look → List Event
new_configurations version look = if look.version == version then [] else wide (Reconfigure look.dgram look.stream) ∷ []

abbrev pub new_end : Bool → Look → List Event
new_end over look = if look.closed && not over then wide Shutdown ∷ [] else []

-- of a look, to one that knows this version, and whether a Shutdown came
abbrev pub news : ℕ → Bool → Look → List Event
news version over look = new_configurations version look ++ new_end over look

-- what its news do to a client, and what it is sent for them
abbrev pub look_effect : Serving → ℕ → Look → Slate → Effect
look_effect answers version look s =
    let es = news version s.conf.over look in
    (slate_after answers s es, sent_after answers s es)

-- The steps of events of which some clients hear at once: they look after each event that all clients hear.
use Rattle.std.specs.Prelude.{ℕ, List, [], ◌∷◌, ◌++◌, map, if◌then◌else◌}
use Rattle.dns_events.specs.declared.event.Event.{Event}
use Rattle.dns_events.specs.declared.event.Step.{Step}
use Rattle.dns_events.specs.declared.event.Step.TheVariants.{Own, Look}
use Rattle.dns_core.specs.Own.{is_wide}

abbrev pub look_by : Event → ℕ → Step
look_by e c = Look e.at e.secs c

abbrev pub undelayed : List ℕ → List Event → List Step
undelayed cs [] = []
undelayed cs (e ∷ es) = Own e ∷ (if is_wide e.kind then map (look_by e) cs ++ undelayed cs es else undelayed cs es)

-- The changes of the server in some steps: the events that change the book, in order.
use Rattle.std.specs.Prelude.{List, [], ◌∷◌, ◌++◌}
use Rattle.dns_events.specs.declared.look.Look.{Look as State}
use Rattle.dns_admission.specs.Machine.{new_state}
use Rattle.dns_events.specs.declared.event.Event.{Event}
use Rattle.dns_events.specs.declared.event.Step.{Step}
use Rattle.dns_core.specs.Books.{books}
use Rattle.dns_core.specs.Placed.{entries}
use Rattle.dns_events.specs.declared.settings.Settings.{Settings}

abbrev pub changes_from : State → List Step → List Event
changes_from b [] = []
changes_from b (s ∷ ss) = entries b s ++ changes_from (books b (entries b s)) ss

abbrev pub changes : Settings → List Step → List Event
changes settings steps = changes_from (new_state settings.dgram settings.stream) steps

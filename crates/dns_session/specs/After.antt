-- What several events of one client do, from the oldest to the newest: the slate after them, and what is sent for them.
use Rattle.std.specs.Prelude.{List, [], ◌∷◌, ◌++◌}
use Rattle.dns_events.specs.declared.event.Event.{Event}
use Rattle.dns_events.specs.declared.event.Output.{Output}
use Rattle.dns_session.specs.Serving.{Serving}
use Rattle.dns_session.specs.Slate.{Slate}
use Rattle.dns_session.specs.Rule.{rule}

-- the answers are those of the wrapped service, by request and poll
module _ (answers : Serving) where
  abbrev pub slate_after : Slate → List Event → Slate
  slate_after s [] = s
  slate_after s (e ∷ es) = slate_after (rule answers e s).0 es

  abbrev pub sent_after : Slate → List Event → List Output
  sent_after s [] = []
  sent_after s (e ∷ es) = (rule answers e s).1 ++ sent_after (rule answers e s).0 es

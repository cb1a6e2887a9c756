-- Whether outputs close a connection.
use Rattle.std.specs.Prelude.{List, [], ◌∷◌, Option, Some, None}
use Rattle.dns_events.specs.declared.event.Output.{Output}
use Rattle.dns_events.specs.declared.event.Output.TheVariants.{Closed}
use Rattle.dns_events.specs.declared.event.Why.{Why}

abbrev pub why_closed : Output → Option Why
why_closed (Closed client why) = Some why
why_closed _ = None

-- why the last of some outputs closes the connection
abbrev pub closed_by : List Output → Option Why
closed_by [] = None
closed_by (o ∷ []) = why_closed o
closed_by (o ∷ p ∷ os) = closed_by (p ∷ os)

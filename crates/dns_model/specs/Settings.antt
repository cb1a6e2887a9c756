-- The configurations that a client finds in the settings of a server.
use Rattle.std.specs.Prelude.{false}
use Rattle.dns_session.specs.Slate.{Conf}
use Rattle.dns_events.specs.declared.settings.Settings.{Settings}

abbrev pub opening : Settings → Conf
opening settings = record { dgram = settings.dgram; stream = settings.stream; over = false }

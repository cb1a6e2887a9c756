-- The slate of a client by the events that it heard.
use Rattle.std.specs.Prelude.{List}
use Rattle.dns_events.specs.declared.event.Event.{Event}
use Rattle.dns_session.specs.Serving.{Serving}
use Rattle.dns_session.specs.Slate.{Slate, fresh}
use Rattle.dns_core.specs.Sent.{slate_after}
use Rattle.dns_core.specs.Settings.{opening}
use Rattle.dns_events.specs.declared.settings.Settings.{Settings}

abbrev pub slate_by : Serving → Settings → List Event → Slate
slate_by answers settings es = slate_after answers (fresh (opening settings)) es

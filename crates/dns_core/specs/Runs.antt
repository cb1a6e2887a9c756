-- Events that replace the configurations.
use Rattle.std.specs.Prelude.{◌≡◌}
use Rattle.dns_service.specs.Config.{Dgram, Stream}
use Rattle.dns_events.specs.declared.event.Event.{Event}
use Rattle.dns_events.specs.declared.event.EventKind.TheVariants.{Reconfigure}

abbrev pub IsReconfigure : Event → Type 0
IsReconfigure e = (dgram : Dgram) × (stream : Stream) × (e.kind ≡ Reconfigure dgram stream)

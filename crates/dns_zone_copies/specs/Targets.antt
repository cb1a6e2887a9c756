-- What of the secondaries a target of NOTIFY watches (RFC 1996, sections 3.10 and 3.11).
use Rattle.std.specs.Prelude.{List, map}
use Rattle.dns_secondary.specs.declared.watched.WatchedZone.{WatchedZone}
use Rattle.dns_zone_copies.specs.Secondaries.{SecondaryState}

-- the zone of a secondary, and the address of its primary
abbrev pub watched_zone : SecondaryState → WatchedZone
watched_zone s = record { apex = s.apex; primary = s.primary.ip }

abbrev pub watched_zones : List SecondaryState → List WatchedZone
watched_zones secondaries = map watched_zone secondaries

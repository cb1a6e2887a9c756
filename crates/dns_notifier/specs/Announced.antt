-- Which serials were announced (RFC 1996, section 3.7).
use Rattle.std.specs.Prelude.{ℕ, Bool, List, [], ◌∷◌, ◌++◌, Option, Some, None, option_map}
use Rattle.dns_name.specs.Canonical.{same_name}
use Rattle.dns_config.specs.declared.config.ZoneEntry.{ZoneEntry}
use Rattle.dns_config.specs.declared.key.KeyName.{KeyName}
use Rattle.dns_generation.specs.declared.generation.ZoneSummary.{ZoneSummary}
use Rattle.dns_secondary.specs.declared.timers.SoaTimers.{SoaTimers}
use Rattle.dns_peer_keys.specs.PeerKeys.{key_named}
use Rattle.dns_tsig.specs.Keys.{KeyParts}
use Rattle.dns_notifier.specs.declared.known.Known.{Known}

-- the serial of a zone that is served; one without data has none
abbrev pub serials_of : List (List ℕ) → Option SoaTimers → List Known
serials_of apex None = []
serials_of apex (Some t) = record { apex = apex; serial = t.serial.0 } ∷ []

-- those of the zones of a configuration, each with its summary, in their order
abbrev pub known_serials : List ZoneEntry → List ZoneSummary → List Known
known_serials [] summaries = []
known_serials (entry ∷ entries) [] = []
known_serials (entry ∷ entries) (summary ∷ summaries) = serials_of entry.name.name summary.timers ++ known_serials entries summaries

-- a serial is that of the zone with this apex
abbrev pub is_of : List (List ℕ) → Known → Bool
is_of apex known = same_name known.apex apex

-- the key that is named for an address, or that none is; nothing if no key has the name
abbrev pub key_shared : List KeyParts → Option KeyName → Option (Option KeyParts)
key_shared keys None = Some None
key_shared keys (Some n) = option_map (λ found. Some found.1) (key_named n.name keys)

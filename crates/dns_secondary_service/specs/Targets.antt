-- The verdict of a secondary on a NOTIFY (RFC 1996, sections 3.10 and 3.11).
use Rattle.std.specs.Prelude.{ℕ, List, Option, Some, None, Result, Ok, Err}
use Rattle.std.specs.List.{position}
use Rattle.dns_name.specs.declared.address.IpAddr.{IpAddr}
use Rattle.dns_layers.specs.declared.notifiable.NotifyError.{NotifyError}
use Rattle.dns_layers.specs.declared.notifiable.NotifyError.TheVariants.{NotAuthForZone}
use Rattle.dns_secondary.specs.Copies.{wakes}
use Rattle.dns_secondary.specs.declared.watched.WatchedZone.{WatchedZone}

-- taken if a zone is woken, and else NOTAUTH
abbrev pub verdict_by : Option ℕ → Result (Unit {0}) NotifyError
verdict_by (Some index) = Ok tt
verdict_by None = Err NotAuthForZone

abbrev pub notify_verdict : List WatchedZone → ℕ → List (List ℕ) → IpAddr → Result (Unit {0}) NotifyError
notify_verdict zones class name source = verdict_by (position (wakes class name source) zones)

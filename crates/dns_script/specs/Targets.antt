-- The notify lines of a script: each is a zone, how often its verdict is pending, and the verdict.
use Rattle.std.specs.Prelude.{ℕ, List, [], ◌∷◌, nat_lt, if◌then◌else◌, Option, Result, Err}
use Rattle.dns_name.specs.declared.address.IpAddr.{IpAddr}
use Rattle.dns_name.specs.declared.serial.Serial.{Serial}
use Rattle.dns_name.specs.Canonical.{same_name}
use Rattle.dns_service.specs.declared.service.Polled.TheVariants.{Pending, Ready}
use Rattle.dns_layers.specs.declared.notifiable.NotifyError.{NotifyError}
use Rattle.dns_layers.specs.declared.notifiable.NotifyError.TheVariants.{NotAuthForZone}
use Rattle.dns_middleware.specs.Notify.{PolledVerdict}
use Rattle.dns_script.specs.declared.notify_rule.NotifyRule.{NotifyRule}

-- pending that many times, and then the verdict
abbrev pub pending_first : ℕ → Result (Unit {0}) NotifyError → ℕ → PolledVerdict
pending_first n verdict k = if nat_lt k n then Pending else Ready verdict

-- that of the first line for the zone, up to ASCII case; without one the server isn't authoritative
abbrev pub zone_verdict : List NotifyRule → List (List ℕ) → ℕ → PolledVerdict
zone_verdict [] apex = pending_first 0 (Err NotAuthForZone)
zone_verdict (rule ∷ rules) apex = if same_name rule.apex apex then pending_first rule.pends rule.verdict else zone_verdict rules apex

-- the class, the serial and the sender don't matter
abbrev pub script_verdicts : List NotifyRule → ℕ → List (List ℕ) → Option Serial → IpAddr → ℕ → PolledVerdict
script_verdicts rules class apex serial source = zone_verdict rules apex

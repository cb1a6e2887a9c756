-- The verdicts of a target on what it is asked.
use Rattle.std.specs.Prelude.{ℕ, List, Option}
use Rattle.dns_name.specs.declared.address.IpAddr.{IpAddr}
use Rattle.dns_name.specs.declared.serial.Serial.{Serial}
use Rattle.dns_layers.specs.declared.notice.Notice.{Notice}
use Rattle.dns_layers.specs.Notify.{PolledVerdict}

-- by class, name, serial and sender
abbrev pub Verdicts : Type 0
Verdicts = ℕ → List (List ℕ) → Option Serial → IpAddr → ℕ → PolledVerdict

-- the verdicts on a notice
abbrev pub verdict_on : Verdicts → Notice → ℕ → PolledVerdict
verdict_on verdicts n = verdicts n.class n.apex_name n.serial n.source

-- A secondary's copy of a zone: when it is checked, when it is replaced, when it is given up (RFC 1034, section 4.3.5), and which
-- NOTIFY wakes the check (RFC 1996, section 3).
use Rattle.std.specs.Prelude.{ℕ, ◌-◌, Bool, true, false, ◌&&◌, List, max, nat_eq, nat_le, if◌then◌else◌, Option, Some, None}
use Rattle.std.specs.Str.{bytes_eq}
use Rattle.std.specs.declared.cmp.Ordering.{Ordering}
use Rattle.std.specs.declared.cmp.Ordering.TheVariants.{Less, Equal, Greater}
use Rattle.dns_name.specs.Addresses.{address_octets}
use Rattle.dns_name.specs.Canonical.{same_name}
use Rattle.dns_name.specs.Serials.{serial_cmp}
use Rattle.dns_name.specs.declared.address.IpAddr.{IpAddr}
use Rattle.dns_name.specs.declared.serial.Serial.{Serial}
use Rattle.dns_message.specs.declared.rdata.RecordData.{RecordData}
use Rattle.dns_message.specs.declared.rdata.RecordData.TheVariants.{Soa}
use Rattle.dns_secondary.specs.declared.timers.SoaTimers.{SoaTimers}
use Rattle.dns_secondary.specs.declared.copy.Pause.{Pause}
use Rattle.dns_secondary.specs.declared.copy.Pause.TheVariants.{AtOnce, Refresh, Retry}
use Rattle.dns_secondary.specs.declared.watched.WatchedZone.{WatchedZone}

-- what an SOA record says of copies of its zone (RFC 1035, section 3.3.13)
abbrev pub timers_of : RecordData → Option SoaTimers
timers_of (Soa mname rname serial refresh retry expire minimum)
    = Some (record { serial = serial; refresh = refresh; retry = retry; expire = expire })
timers_of _ = None

-- the address of the primary; the SOA record of the copy, if there is one; when the copy came or was found current last; since when
-- and for what it waits
pub record CopyState : Type 0 where
  pub primary : IpAddr
  pub held : Option SoaTimers
  pub current : ℕ
  pub since : ℕ
  pub pause : Pause

-- ---- when

-- an interval, in seconds, has passed
abbrev pub has_passed : ℕ → ℕ → ℕ → Bool
has_passed interval since now = nat_le interval (now - since)

-- the next check comes after REFRESH, and after RETRY if one couldn't be completed; no sooner than a second, and after a minute
-- if there is no copy
abbrev pub interval_of : Pause → Option SoaTimers → ℕ
interval_of AtOnce held = 0
interval_of Refresh None = 60
interval_of Refresh (Some t) = max t.refresh 1
interval_of Retry None = 60
interval_of Retry (Some t) = max t.retry 1

abbrev pub is_due : CopyState → ℕ → Bool
is_due c now = has_passed (interval_of c.pause c.held) c.since now

-- a copy that couldn't be checked for the EXPIRE interval is obsolete
abbrev pub is_obsolete : Option SoaTimers → ℕ → ℕ → Bool
is_obsolete None current now = false
is_obsolete (Some t) current now = has_passed t.expire current now

-- a copy that is obsolete is discarded
abbrev pub without_obsolete : CopyState → ℕ → CopyState
without_obsolete c now = if is_obsolete c.held c.current now then record c { held = None } else c

-- ---- what comes of a check

-- from its beginning a check counts as one that couldn't be completed
abbrev pub checking : CopyState → ℕ → CopyState
checking c now = record c { since = now; pause = Retry }

-- one that is asked for meanwhile isn't forgotten
abbrev pub pause_after : Pause → Pause
pause_after AtOnce = AtOnce
pause_after Refresh = Refresh
pause_after Retry = Refresh

-- the copy is current
abbrev pub found_current : CopyState → ℕ → CopyState
found_current c now = record c { current = now; since = now; pause = pause_after c.pause }

abbrev pub is_greater : Option Ordering → Bool
is_greater (Some Greater) = true
is_greater _ = false

-- a serial is newer than that of the copy (RFC 1982, section 3.2); any is if there is no copy
abbrev pub is_newer : Option SoaTimers → Serial → Bool
is_newer None s = true
is_newer (Some t) s = is_greater (serial_cmp s.0 t.serial.0)

-- a zone with a newer serial replaces the copy; with another one it leaves it
abbrev pub offered : CopyState → SoaTimers → ℕ → CopyState
offered c t now = if is_newer c.held t.serial then record (found_current c now) { held = Some t } else found_current c now

-- ---- who may wake a check

abbrev pub same_address : IpAddr → IpAddr → Bool
same_address a b = bytes_eq (address_octets a) (address_octets b)

-- a NOTIFY of class IN for the zone, from its primary (RFC 1996, section 3.11); one from another host is ignored (section 3.10)
abbrev pub wakes : ℕ → List (List ℕ) → IpAddr → WatchedZone → Bool
wakes class name source w = nat_eq class 1 && (same_name name w.apex && same_address source w.primary)

-- a check is due at once
abbrev pub woken : CopyState → CopyState
woken c = record c { pause = AtOnce }

-- How long waits last, by how many ended in vain before, one after the other.
use Rattle.std.specs.Prelude.{ℕ, ◌+◌, nat_lt, min, Bool, if◌then◌else◌}
use Rattle.dns_events.specs.declared.event.EventKind.{EventKind}
use Rattle.dns_events.specs.declared.event.EventKind.TheVariants.{Tick, Turn}

-- one wait more in vain; the count ends
abbrev pub one_more : ℕ → ℕ
one_more vain = min (vain + 1) 4294967295

-- none in vain since something came or went
abbrev pub anew_where : Bool → ℕ → ℕ
anew_where moved vain = if moved then 0 else vain

-- a Tick is one wait more in vain, a Turn leaves the count, and what came or was written begins anew
abbrev pub vain_after : EventKind → ℕ → ℕ
vain_after Tick vain = one_more vain
vain_after (Turn request) vain = vain
vain_after _ vain = 0

-- in milliseconds, if a request is to be polled again: twice as long after each, up to 16
abbrev pub repoll_wait_after : ℕ → ℕ
repoll_wait_after vain =
    if nat_lt vain 1 then 1 else (if nat_lt vain 2 then 2 else (if nat_lt vain 3 then 4 else (if nat_lt vain 4 then 8 else 16)))

-- in milliseconds, if nothing is to be done
abbrev pub idle_wait_after : ℕ → ℕ
idle_wait_after vain = if nat_lt vain 16 then 250 else (if nat_lt vain 32 then 1000 else 4000)

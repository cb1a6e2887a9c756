-- What of a client waits for its driver: the requests that aren't done, and how long it may still be idle.
use Rattle.std.specs.Prelude.{ℕ, ◌+◌, ◌-◌, List, [], ◌∷◌, drop, Option, Some, None, if◌then◌else◌}
use Rattle.dns_session.specs.Slate.{Slate, SlateRequest, Phase, Open}
use Rattle.dns_session.specs.Timers.{deadline}

-- the number of the first one of requests, of which the first has number n
abbrev pub first_unfinished_from : ℕ → List SlateRequest → Option ℕ
first_unfinished_from n [] = None
first_unfinished_from n (r ∷ rs) = if r.done then first_unfinished_from (n + 1) rs else Some n

abbrev pub first_unfinished : List SlateRequest → Option ℕ
first_unfinished rs = first_unfinished_from 0 rs

-- the number of the first request after number k that isn't done
abbrev pub next_unfinished : ℕ → List SlateRequest → Option ℕ
next_unfinished k rs = first_unfinished_from (k + 1) (drop (k + 1) rs)

-- for how long from a moment on a connection may still be idle (RFC 7766, section 6.2.3); not at all if it isn't open
abbrev pub idle_left_in : Phase → ℕ → ℕ → ℕ → ℕ
idle_left_in Open reset_at timeout at = deadline reset_at timeout at - at
idle_left_in _ reset_at timeout at = 0

abbrev pub idle_left : ℕ → Slate → ℕ
idle_left at s = idle_left_in s.phase s.reset_at s.connection.idle_timeout at

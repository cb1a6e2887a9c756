-- How busy a client's connection is: it takes one request more if fewer wait for their responses than may, and fewer than 65,536
-- octets wait to be written; and once it is idle for too long, it is closed (RFC 7766, section 6.2.3).
use Rattle.std.specs.Prelude.{ℕ, ◌+◌, ◌&&◌, min, nat_lt, Bool, if◌then◌else◌, Option, Some, None}
use Rattle.forwardd.specs.declared.client.Load.{Load}

abbrev pub has_room : ℕ → Load → Bool
has_room unwritten l = nat_lt l.waiting l.most && nat_lt unwritten 65536

-- the last moment that there is
abbrev pub last_moment : ℕ
last_moment = 18446744073709551615

-- when it was idle for too long: never while a request waits
abbrev pub due_of : Load → Option ℕ
due_of l = if nat_lt 0 l.waiting then None else Some (min (l.used + l.idle) last_moment)

-- The machine of a book: of a state and a call the reply, and the state afterwards.
-- A state is what a look shows: version, whether closed, slots taken, and both configurations.
use Rattle.std.specs.Prelude.{ℕ, ◌+◌, ◌-◌, ◌^◌, Bool, true, false, nat_lt, if◌then◌else◌, Ok, Err}
use Rattle.dns_events.specs.Config.{Dgram, Stream}
use Rattle.dns_events.specs.declared.error.Error.TheVariants.{CommandCouldNotBeSent}
use Rattle.dns_events.specs.declared.look.Look.{Look as State}
use Rattle.dns_admission.specs.declared.admission.Admission.TheVariants.{Admitted, Full, Closed}
use Rattle.dns_admission.specs.declared.call.Call.{Call}
use Rattle.dns_admission.specs.declared.call.Call.TheVariants.{Admit, Release, Reconfigure, Shutdown, Look}
use Rattle.dns_admission.specs.declared.call.Reply.{Reply}
use Rattle.dns_admission.specs.declared.call.Reply.TheVariants as reply

-- open, with no slot taken
abbrev pub resumed_state : Dgram → Stream → ℕ → State
resumed_state dgram stream version = record { version = version; closed = false; taken = 0; dgram = dgram; stream = stream }

abbrev pub new_state : Dgram → Stream → State
new_state dgram stream = resumed_state dgram stream 0

abbrev pub limit_of : State → ℕ
limit_of s = s.stream.max_concurrent_connections

abbrev pub last_version : ℕ
last_version = 2 ^ 64 - 1

abbrev pub has_slot : State → Bool
has_slot s = nat_lt s.taken (limit_of s)

abbrev pub has_version : State → Bool
has_version s = nat_lt s.version last_version

-- the state with one slot more
abbrev pub admitted : State → State
admitted s = record s { taken = s.taken + 1 }

-- the state with both configurations replaced
abbrev pub replaced : State → Dgram → Stream → State
replaced s d t = record s { version = s.version + 1; dgram = d; stream = t }

abbrev pub state_after : State → Call → State
state_after s Admit = if s.closed then s else (if has_slot s then admitted s else s)
state_after s Release = record s { taken = s.taken - 1 }
state_after s (Reconfigure d t) = if s.closed then s else (if has_version s then replaced s d t else s)
state_after s Shutdown = record s { closed = true }
state_after s Look = s

abbrev pub reply_of : State → Call → Reply
reply_of s Admit =
    if s.closed then reply.Admission Closed
    else (if has_slot s then reply.Admission (Admitted (admitted s))
    else reply.Admission (Full s.taken (limit_of s) s.stream.accept_connections_at_max))
reply_of s Release = reply.Left (s.taken - 1)
reply_of s (Reconfigure d t) =
    if s.closed then reply.Version (Ok s.version)
    else (if has_version s then reply.Version (Ok (s.version + 1)) else reply.Version (Err CommandCouldNotBeSent))
reply_of s Shutdown = reply.Look (record s { closed = true })
reply_of s Look = reply.Look s

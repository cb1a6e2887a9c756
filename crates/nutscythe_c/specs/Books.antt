-- What the calls of a book of slots leave, and of a configuration, by their status.
use Rattle.std.specs.Prelude.{ℕ, ◌≡◌, nat_eq, true, false, Option, Some, None, Ok, Err, if◌then◌else◌}
use Rattle.dns_admission.specs.declared.admission.Admission.TheVariants.{Admitted, Full, Closed}
use Rattle.dns_admission.specs.declared.call.Call.{Call}
use Rattle.dns_admission.specs.declared.call.Call.TheVariants.{Admit, Release, Reconfigure, Shutdown}
use Rattle.dns_admission.specs.declared.call.Reply.{Reply}
use Rattle.dns_admission.specs.declared.call.Reply.TheVariants.{Admission, Left, Version, Look}
use Rattle.dns_admission.specs.Machine.{new_state, reply_of, state_after}
use Rattle.dns_events.specs.declared.look.Look.{Look as State}
use Rattle.dns_events.specs.declared.settings.Settings.{Settings}
use Rattle.dns_embed.specs.Connections.{configured, unless_closing}
use Rattle.nutscythe_c.specs.declared.handle_value.HandleValue.{HandleValue}
use Rattle.nutscythe_c.specs.declared.handle_value.HandleValue.TheVariants.{Connection as KeptConnection, Book as KeptBook}
use Rattle.nutscythe_c.specs.declared.status.Status.{Status}
use Rattle.nutscythe_c.specs.declared.status.Status.TheVariants.{Done, Nothing, Dropped, Close, NoMemory, NoHandle, OutOfRange}

-- a book of the configurations in settings, of which no slot is taken
abbrev pub OpensBook : Settings → Option HandleValue → Option HandleValue → Status → Type 0
OpensBook s before after Done = after ≡ Some (KeptBook (new_state s.dgram s.stream))
OpensBook s before after NoMemory = after ≡ before
OpensBook s before after t = ⊥

-- the call of a number
abbrev pub call_of : ℕ → Option Call
call_of n =
    if nat_eq n 0 then Some Admit
    else (if nat_eq n 1 then Some Release
    else (if nat_eq n 2 then Some Shutdown else None))

-- what a book tells: a slot was taken, or all are and the connection is accepted to be closed, or isn't accepted, or the server
-- was shut down
abbrev pub book_status : Reply → Status
book_status (Admission (Admitted look)) = Done
book_status (Admission (Full taken limit true)) = Close
book_status (Admission (Full taken limit false)) = Dropped
book_status (Admission Closed) = Nothing
book_status (Left n) = Done
book_status (Version (Ok n)) = Done
book_status (Version (Err e)) = OutOfRange
book_status (Look look) = Done

-- a book is called
abbrev pub Called : Call → State → Option HandleValue → Status → Type 0
Called call s after t = (after ≡ Some (KeptBook (state_after s call))) × (t ≡ book_status (reply_of s call))

abbrev pub Calls : Option Call → Option HandleValue → Option HandleValue → Status → Type 0
Calls (Some call) (Some (KeptBook s)) after t = Called call s after t
Calls (Some call) before after t = (t ≡ NoHandle) × (after ≡ before)
Calls None before after t = (t ≡ OutOfRange) × (after ≡ before)

-- a connection or a book takes the configurations in settings, unless the connection is to be closed
abbrev pub Configures : Settings → Option HandleValue → Option HandleValue → Status → Type 0
Configures s (Some (KeptConnection c)) after t = (t ≡ Done)
    × (after ≡ Some (KeptConnection (unless_closing c (configured s.stream.connection_config c))))
Configures s (Some (KeptBook b)) after t = Called (Reconfigure s.dgram s.stream) b after t
Configures s before after t = (t ≡ NoHandle) × (after ≡ before)

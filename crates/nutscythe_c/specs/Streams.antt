-- What the calls of a connection leave, by their status.
use Rattle.std.specs.Prelude.{ℕ, ◌≡◌, ◌<◌, ◌≤◌, ◌++◌, ◌==◌, Bool, true, false, List, length, drop, slice_get, Option, Some, None, if◌then◌else◌}
use Rattle.dns_events.specs.declared.settings.Settings.{Settings}
use Rattle.dns_framing.specs.Frames.{framed}
use Rattle.dns_embed.specs.declared.connection.Connection.{Connection}
use Rattle.dns_embed.specs.declared.connection.Next.TheVariants.{Waits, Query, NoRoom as TooShort, Response as Answered, Short}
use Rattle.dns_embed.specs.declared.connection.Written.{Written}
use Rattle.dns_embed.specs.declared.connection.Written.TheVariants as Write
use Rattle.dns_embed.specs.Connections.{NextIs, NothingDone, WriteIs, at_moment, closing, deadline_of, has_room, is_idle, offering, opened, unless_closing}
use Rattle.nutscythe_c.specs.declared.handle_value.HandleValue.{HandleValue}
use Rattle.nutscythe_c.specs.declared.handle_value.HandleValue.TheVariants.{Connection as KeptConnection}
use Rattle.nutscythe_c.specs.declared.status.Status.{Status}
use Rattle.nutscythe_c.specs.declared.status.Status.TheVariants.{Done, Nothing, Response, Dropped, Close, NoMemory, NoHandle, NoRoom, TooLong}
use Rattle.nutscythe_c.specs.Calls.{Unwritten}

abbrev pub Opens : ℕ → Settings → Option HandleValue → Option HandleValue → Status → Type 0
Opens at s before after Done = after ≡ Some (KeptConnection (opened at s.stream.connection_config))
Opens at s before after NoMemory = after ≡ before
Opens at s before after t = ⊥

-- octets stand after those that came before, unless it is to be closed
abbrev pub Fed : List ℕ → Connection → Connection → Status → Type 0
Fed o c d Done = d ≡ unless_closing c (record c { framer = c.framer ++ o })
Fed o c d NoMemory = d ≡ c
Fed o c d t = ⊥

abbrev pub Feeds : List ℕ → Option HandleValue → Option HandleValue → Status → Type 0
Feeds o (Some (KeptConnection c)) after t = (d : Connection) × (after ≡ Some (KeptConnection d)) × Fed o c d t
Feeds o before after t = (t ≡ NoHandle) × (after ≡ before)

-- the next frame is taken, or stays
abbrev pub Given : ℕ → Connection → Connection → List ℕ → List ℕ → ℕ → ℕ → Status → Type 0
Given at c d before after len len' Done = NextIs at c d before after (Query len')
Given at c d before after len len' Nothing = NextIs at c d before after Waits × (len' ≡ len)
Given at c d before after len len' NoRoom = NextIs at c d before after (TooShort len')
Given at c d before after len len' Response = NextIs at c d before after Answered × (len' ≡ len)
Given at c d before after len len' Close = NextIs at c d before after Short × (len' ≡ len)
Given at c d before after len len' NoMemory = NothingDone at c d × Unwritten before after len len'
Given at c d before after len len' t = ⊥

abbrev pub Gives : ℕ → Option HandleValue → Option HandleValue → List ℕ → List ℕ → ℕ → ℕ → Status → Type 0
Gives at (Some (KeptConnection c)) kept before after len len' t = (d : Connection) × (kept ≡ Some (KeptConnection d))
    × Given at c d before after len len' t
Gives at held kept before after len len' t = (t ≡ NoHandle) × (kept ≡ held) × Unwritten before after len len'

-- a reply is queued exactly if there is room for its frame, and it isn't to be closed
abbrev pub Offered : ℕ → List ℕ → Connection → Connection → Status → Type 0
Offered at o c d Done = (has_room at c ≡ true) × (length o ≤ 65535) × (d ≡ unless_closing c (offering at c (framed o)))
Offered at o c d Dropped = (has_room at c ≡ false) × (length o ≤ 65535) × (d ≡ unless_closing c (offering at c (framed o)))
Offered at o c d TooLong = (65535 < length o) × (d ≡ c)
Offered at o c d NoMemory = d ≡ at_moment at c
Offered at o c d t = ⊥

abbrev pub Offers : ℕ → List ℕ → Option HandleValue → Option HandleValue → Status → Type 0
Offers at o (Some (KeptConnection c)) after t = (d : Connection) × (after ≡ Some (KeptConnection d)) × Offered at o c d t
Offers at o before after t = (t ≡ NoHandle) × (after ≡ before)

-- one of which no frame waits is closed, if it was to be
abbrev pub nothing_left : Bool → Status
nothing_left true = Close
nothing_left false = Nothing

-- the first frame of the queue stands in the buffer, or is longer than that, and its length is written in both cases
abbrev pub Shows : Bool → Option (List ℕ) → List ℕ → List ℕ → ℕ → ℕ → Status → Type 0
Shows is_closing None before after len len' t = (t ≡ nothing_left is_closing) × Unwritten before after len len'
Shows is_closing (Some m) before after len len' Done = (len' ≡ length m) × (len' ≤ length before) × (after ≡ m ++ drop len' before)
Shows is_closing (Some m) before after len len' NoRoom = (len' ≡ length m) × (length before < len') × (after ≡ before)
Shows is_closing (Some m) before after len len' t = ⊥

abbrev pub Fronts : Option HandleValue → List ℕ → List ℕ → ℕ → ℕ → Status → Type 0
Fronts (Some (KeptConnection c)) before after len len' t = Shows c.is_closing (slice_get c.invoker.queue.items 0) before after len len' t
Fronts kept before after len len' t = (t ≡ NoHandle) × Unwritten before after len len'

-- what became of the front frame
abbrev pub written_status : Written → Status
written_status Write.Nothing = Nothing
written_status Write.Frame = Done
written_status Write.TimedOut = Close

abbrev pub Wrote : ℕ → ℕ → Connection → Connection → Status → Type 0
Wrote at took c d t = (w : Written) × WriteIs at took c d w × (t ≡ written_status w)

abbrev pub Writes : ℕ → ℕ → Option HandleValue → Option HandleValue → Status → Type 0
Writes at took (Some (KeptConnection c)) after t = (d : Connection) × (after ≡ Some (KeptConnection d)) × Wrote at took c d t
Writes at took before after t = (t ≡ NoHandle) × (after ≡ before)

abbrev pub Expires : ℕ → Option HandleValue → ℕ → ℕ → Status → Type 0
Expires now (Some (KeptConnection c)) before after t = (t ≡ Done) × (after ≡ deadline_of now c)
Expires now kept before after t = (t ≡ NoHandle) × (after ≡ before)

-- the connection is to be closed exactly if it was idle for too long
abbrev pub Ticked : Bool → Status → Type 0
Ticked true t = t ≡ Close
Ticked false t = t ≡ Done

abbrev pub Ticks : ℕ → Option HandleValue → Status → Type 0
Ticks now (Some (KeptConnection c)) t = Ticked (is_idle now c) t
Ticks now kept t = t ≡ NoHandle

-- a connection is to be closed: at once, unless frames wait
abbrev pub Closed : Connection → Connection → Status → Type 0
Closed c d t = (d ≡ closing c) × (t ≡ (if length c.invoker.queue.items == 0 then Close else Done))

abbrev pub Closes : Option HandleValue → Option HandleValue → Status → Type 0
Closes (Some (KeptConnection c)) after t = (d : Connection) × (after ≡ Some (KeptConnection d)) × Closed c d t
Closes before after t = (t ≡ NoHandle) × (after ≡ before)

-- The number of a status, and what becomes of the counts of faults by it. In each, a is a count before the call and b after it.
use Rattle.std.specs.Prelude.{◌≡◌, ℕ, Result, Ok, Err}
use Rattle.dns_io.specs.Causes.{Rose}
use Rattle.dns_run.specs.declared.status.Status.{Status}
use Rattle.dns_run.specs.declared.status.Status.TheVariants.{Done, Usage, Refused, ReadFault, WriteFault, OutOfMemory, TooLong, HostFault}
use Rattle.dns_flood.specs.declared.writing.WriteError.{WriteError}
use Rattle.dns_flood.specs.declared.writing.WriteError.TheVariants.{OutOfMemory as NoMemory, Fault}

abbrev pub status_number : Status → ℕ
status_number Done = 0
status_number Usage = 2
status_number Refused = 3
status_number ReadFault = 4
status_number WriteFault = 5
status_number OutOfMemory = 6
status_number TooLong = 7
status_number HostFault = 8

-- the status if all was written, or why it wasn't
abbrev pub status_once_written : Status → Result (Unit {0}) WriteError → Status
status_once_written s (Ok u) = s
status_once_written s (Err NoMemory) = OutOfMemory
status_once_written s (Err Fault) = WriteFault

-- what was to be had and is there, or the status that says why it isn't
abbrev pub status_of : {A : Type 0} → Result A Status → Status
status_of (Ok x) = Done
status_of (Err s) = s

-- the source's count rises with ReadFault, and with no other status
abbrev pub SourceFaults : Status → ℕ → ℕ → Type 0
SourceFaults ReadFault a b = Rose a b
SourceFaults _ a b = b ≡ a

-- the sink's count rises with WriteFault, and with no other status
abbrev pub SinkFaults : Status → ℕ → ℕ → Type 0
SinkFaults WriteFault a b = Rose a b
SinkFaults _ a b = b ≡ a

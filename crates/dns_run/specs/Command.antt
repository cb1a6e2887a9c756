-- What the words of the command line ask for.
use Rattle.std.specs.Prelude.{ℕ, ◌==◌, ◌<◌, ◌≤◌, nat_lt, List, length, codes, Option, Some, None, Result, Ok, Err, if◌then◌else◌}
use Rattle.std.specs.Str.{bytes_eq}
use Rattle.dns_trace.specs.Values.{num_of, number}
use Rattle.dns_trace.specs.Words.{word_at}
use Rattle.dns_trace.specs.declared.reason.Reason.{Reason}
use Rattle.dns_run.specs.declared.command.Command.{Command}
use Rattle.dns_run.specs.declared.command.Command.TheVariants.{Replay, Steps, Trace, Flood, Cache}

-- if both are numbers
abbrev pub flood_of : Result ℕ Reason → Result ℕ Reason → Option Command
flood_of (Ok seed) (Ok count) = Some (Flood seed count)
flood_of (Ok seed) (Err e) = None
flood_of (Err e) count = None

-- a number of replies, from 1 on
abbrev pub cache_of : Result ℕ Reason → Option Command
cache_of (Ok capacity) = if nat_lt 0 capacity then Some (Cache capacity) else None
cache_of (Err e) = None

-- one word
abbrev pub script_command : List ℕ → Option Command
script_command w =
    if bytes_eq w (codes "replay") then Some Replay
    else if bytes_eq w (codes "steps") then Some Steps
    else if bytes_eq w (codes "trace") then Some Trace
    else None

-- `cache CAP`
abbrev pub cache_command : List (List ℕ) → Option Command
cache_command ws = if bytes_eq (word_at ws 0) (codes "cache") then cache_of (number 20 65537 (word_at ws 1)) else None

-- `flood SEED COUNT`
abbrev pub flood_command : List (List ℕ) → Option Command
flood_command ws = if bytes_eq (word_at ws 0) (codes "flood")
    then flood_of (num_of (word_at ws 1)) (number 20 4000001 (word_at ws 2)) else None

-- the one word `replay`, `steps` or `trace`; `cache` and a number from 1 to 65,536; or `flood` and two numbers, of which the latter is at
-- most 4,000,000
abbrev pub command_of : List (List ℕ) → Option Command
command_of ws =
    if length ws == 1 then script_command (word_at ws 0)
    else if length ws == 2 then cache_command ws
    else if length ws == 3 then flood_command ws
    else None

-- a cache has room for 1 to 65,536 replies
abbrev pub IsFit : Command → Type 0
IsFit (Cache capacity) = (0 < capacity) × (capacity ≤ 65536)
IsFit _ = Unit {0}

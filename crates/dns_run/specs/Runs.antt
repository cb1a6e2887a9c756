-- What a run answers, by what was read and written. In each, a and b are what is left of the source before and after the call. What
-- the sink has taken before and after it are c and d; if tells, left and taken stand before them, they are the source and the
-- sink themselves.
use Rattle.std.specs.Prelude.{◌≡◌, ℕ, ◌+◌, ◌≤◌, List, [], ◌++◌, length, Result, Ok, Err, IsOk, IsErr}
use Rattle.dns_io.specs.Causes.{Observed}
use Rattle.dns_io.specs.Moves.{ReadExactly, ReadAtMost, Cut}
use Rattle.dns_io.specs.declared.source.TheConstants.{LIMIT}
use Rattle.dns_events.specs.declared.event.Output.{Output}
use Rattle.dns_trace.specs.declared.reason.Reason.{Reason}
use Rattle.dns_flood.specs.FloodText.{flood_text}
use Rattle.dns_flood.specs.Plan.{Plan}
use Rattle.dns_flood.specs.PlanOutputs.{plan_outputs, plan_step_outputs}
use Rattle.dns_flood.specs.CachedRules.{cache_text}
use Rattle.dns_flood.specs.ScriptText.{script_text}
use Rattle.dns_flood.specs.Scripts.{ask_script, event_script, step_script}
use Rattle.dns_flood.specs.Line.{lines_of, refused_line}
use Rattle.dns_run.specs.declared.command.Command.{Command}
use Rattle.dns_run.specs.declared.command.Command.TheVariants.{Replay, Steps, Trace, Flood, Cache}
use Rattle.dns_run.specs.declared.status.Status.{Status}
use Rattle.dns_run.specs.declared.status.Status.TheVariants.{Done, Refused, ReadFault, WriteFault, OutOfMemory, TooLong}

-- what is written for a script, which this is, or for the first bad line of a text that is none
abbrev pub text_or_refusal : {E : Type 0} → (Plan E → List ℕ) → Result (Plan E) (ℕ × Reason) → List ℕ
text_or_refusal text (Ok p) = text p
text_or_refusal text (Err e) = refused_line e.0 e.1

-- what is written for a script whose clients are sent this
abbrev pub clients_text : {E : Type 0} → (Plan E → List Output) → Plan E → List ℕ
clients_text sent p = lines_of (sent p)

-- what is written for a script: the lines of what clients are sent, or the line of its first bad line
abbrev pub run_text : {E : Type 0} → (Plan E → List Output) → Result (Plan E) (ℕ × Reason) → List ℕ
run_text sent = text_or_refusal (clients_text sent)

-- what is written for what a text says before it is served: nothing, or the line of its refusal
abbrev pub refusal_text : {E : Type 0} → Result (Plan E) (ℕ × Reason) → List ℕ
refusal_text (Ok p) = []
refusal_text (Err e) = refused_line e.0 e.1

-- all of the source was read, and it was not too long
abbrev pub Whole : List ℕ → List ℕ → Type 0
Whole a b = (b ≡ []) × (length a ≤ LIMIT)

-- the script that a text is, or the status of a text that is none
abbrev pub Says : {E : Type 0} → Result (Plan E) Status → Result (Plan E) (ℕ × Reason) → Type 0
Says (Ok s) read = read ≡ Ok s
Says (Err Refused) read = IsErr read
Says (Err WriteFault) read = IsErr read
Says (Err OutOfMemory) read = Unit {0}
Says (Err _) read = ⊥

-- what was read, by the status, if this is what a text says
abbrev pub ReadsSource : {E : Type 0} → (List ℕ → Result (Plan E) (ℕ × Reason)) → Status → List ℕ → List ℕ → Type 0
ReadsSource read Done a b = Whole a b × IsOk (read a)
ReadsSource read Refused a b = Whole a b × IsErr (read a)
ReadsSource read WriteFault a b = Whole a b
ReadsSource read OutOfMemory a b = ReadAtMost (LIMIT + 1) a b
ReadsSource read ReadFault a b = ReadAtMost LIMIT a b
ReadsSource read TooLong a b = ReadExactly (LIMIT + 1) a b
ReadsSource read _ a b = ⊥

-- what was written, by the status: a text, a front of it, or nothing
abbrev pub WritesText : Status → List ℕ → List ℕ → List ℕ → Type 0
WritesText Done text c d = d ≡ c ++ text
WritesText Refused text c d = d ≡ c ++ text
WritesText WriteFault text c d = Cut text c d
WritesText OutOfMemory text c d = Cut text c d
WritesText _ text c d = d ≡ c

-- the statuses of a flood
abbrev pub EndsFlood : Status → Type 0
EndsFlood Done = Unit {0}
EndsFlood WriteFault = Unit {0}
EndsFlood OutOfMemory = Unit {0}
EndsFlood _ = ⊥

-- for a flood the source isn't touched
abbrev pub RunReads : {R : Type 0} → (R → Type 0) → (R → List ℕ) → Command → Status → R → R → Type 0
RunReads tells left Replay s a b = Observed (tells b) (tells a) (ReadsSource event_script s (left a) (left b))
RunReads tells left Steps s a b = Observed (tells b) (tells a) (ReadsSource step_script s (left a) (left b))
RunReads tells left Trace s a b = Observed (tells b) (tells a) (ReadsSource event_script s (left a) (left b))
RunReads tells left (Cache capacity) s a b = Observed (tells b) (tells a) (ReadsSource ask_script s (left a) (left b))
RunReads tells left (Flood seed count) s a b = (b ≡ a) × EndsFlood s

-- of a script the source has to tell its text
abbrev pub RunWrites : {R : Type 0} → (R → Type 0) → (R → List ℕ) → Command → Status → R → R → Type 0 → Type 0 → List ℕ → List ℕ → Type 0
RunWrites tells left Replay s a b observed tell c d
    = Observed (tells b × observed) (tells a × tell) (WritesText s (run_text plan_outputs (event_script (left a))) c d)
RunWrites tells left Steps s a b observed tell c d
    = Observed (tells b × observed) (tells a × tell) (WritesText s (run_text plan_step_outputs (step_script (left a))) c d)
RunWrites tells left Trace s a b observed tell c d
    = Observed (tells b × observed) (tells a × tell) (WritesText s (text_or_refusal script_text (event_script (left a))) c d)
RunWrites tells left (Cache capacity) s a b observed tell c d
    = Observed (tells b × observed) (tells a × tell) (WritesText s (text_or_refusal (cache_text capacity) (ask_script (left a))) c d)
RunWrites tells left (Flood seed count) s a b observed tell c d = Observed observed tell (WritesText s (flood_text seed count) c d)

-- a script gives Done, and another text Refused, unless memory ran out
abbrev pub Decides : {E : Type 0} → Status → Result (Plan E) (ℕ × Reason) → Type 0
Decides Done read = IsOk read
Decides Refused read = IsErr read
Decides OutOfMemory read = Unit {0}
Decides _ read = ⊥

-- a flood is done, unless memory ran out
abbrev pub FloodDecides : Status → Type 0
FloodDecides Done = Unit {0}
FloodDecides OutOfMemory = Unit {0}
FloodDecides _ = ⊥

-- a run without a fault: octets that are not too many decide, and a flood needs none
abbrev pub Completes : {R : Type 0} → (R → Type 0) → (R → List ℕ) → Command → Status → R → R → Type 0
Completes tells left Replay s a b = Observed (tells b) (tells a) (length (left a) ≤ LIMIT → Decides s (event_script (left a)))
Completes tells left Steps s a b = Observed (tells b) (tells a) (length (left a) ≤ LIMIT → Decides s (step_script (left a)))
Completes tells left Trace s a b = Observed (tells b) (tells a) (length (left a) ≤ LIMIT → Decides s (event_script (left a)))
Completes tells left (Cache capacity) s a b = Observed (tells b) (tells a) (length (left a) ≤ LIMIT → Decides s (ask_script (left a)))
Completes tells left (Flood seed count) s a b = FloodDecides s

-- The kinds of scripts, by what stands in them after the settings and the lines of the service and of the target.
use Rattle.std.specs.Prelude.{ℕ, List, Result}
use Rattle.dns_events.specs.declared.event.Event.{Event}
use Rattle.dns_events.specs.declared.event.Step.{Step}
use Rattle.dns_trace.specs.EventLines.{event_line, step_line}
use Rattle.dns_trace.specs.declared.reason.Reason.{Reason}
use Rattle.dns_script.specs.Asks.{ask_line, is_of_asks}
use Rattle.dns_script.specs.Plan.{Plan}
use Rattle.dns_script.specs.Script.{every_word, script}
use Rattle.dns_script.specs.ServeScript.{is_of_rules, no_event}
use Rattle.dns_script.specs.declared.ask.Ask.{Ask}
use Rattle.dns_script.specs.declared.script_line.NoEvent.{NoEvent}

-- events
abbrev pub event_script : List ℕ → Result (Plan Event) (ℕ × Reason)
event_script = script every_word event_line

-- steps, which are events and looks
abbrev pub step_script : List ℕ → Result (Plan Step) (ℕ × Reason)
step_script = script every_word step_line

-- nothing, and no upstream and no zone
abbrev pub server_script : List ℕ → Result (Plan NoEvent) (ℕ × Reason)
server_script = script is_of_rules no_event

-- questions of a cache, and no line but rules beside them
abbrev pub ask_script : List ℕ → Result (Plan Ask) (ℕ × Reason)
ask_script = script is_of_asks ask_line

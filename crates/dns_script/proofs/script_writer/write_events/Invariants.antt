use Rattle.std.proofs.Common.{◌≡◌, ◌++◌, drop}
use Rattle.std.specs.Prelude.{flat_map}
use Rattle.dns_trace.specs.Trace.{event_text}
use Rattle.dns_script.proofs.script_writer.write_events.Given as goal

-- the lines that are left make the whole
abbrev pub invariant-loop-event : goal.invariant-loop-event
invariant-loop-event l = l.text ++ flat_map event_text (drop l.event-index l.events) ≡ l.fn.text ++ flat_map event_text l.events

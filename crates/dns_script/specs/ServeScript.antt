-- The script of a running server: settings and rules, and no event.
use Rattle.std.specs.Prelude.{ℕ, Bool, ◌&&◌, not, List, Result, Err, codes}
use Rattle.std.specs.Str.{bytes_eq}
use Rattle.dns_trace.specs.declared.reason.Reason.{Reason}
use Rattle.dns_trace.specs.declared.reason.Reason.TheVariants.{Word}
use Rattle.dns_script.specs.declared.script_line.NoEvent.{NoEvent}

-- the lines of upstreams and of a zone are none of it
abbrev pub is_of_rules : List ℕ → Bool
is_of_rules w = not (bytes_eq w (codes "upstream")) && (not (bytes_eq w (codes "zone")) && not (bytes_eq w (codes "record")))

-- a line that is none of a setting or a rule is that of no line
abbrev pub no_event : List (List ℕ) → Result NoEvent Reason
no_event ws = Err Word

-- The answers that are left in the streams and futures of the service that plays a script's rules.
use Rattle.std.specs.Prelude.{ℕ, Option, Some, None, drop}
use Rattle.std.specs.Arc.{arc_value}
use Rattle.dns_service.specs.Answer.{Answer}
use Rattle.dns_service.specs.declared.service.Polled.TheVariants.{Pending}
use Rattle.dns_script.specs.declared.script_service.ScriptStream.{ScriptStream}
use Rattle.dns_script.specs.Played.{played_from}

-- the answers that are left in a stream that gave some already
abbrev pub left_of : ScriptStream → ℕ → Answer
left_of s = played_from (arc_value s.message) (drop s.next s.answers)

-- the answers that are left in a future, whose stream may have been taken
abbrev pub answers_left : Option ScriptStream → ℕ → Answer
answers_left None k = Pending
answers_left (Some s) k = left_of s k

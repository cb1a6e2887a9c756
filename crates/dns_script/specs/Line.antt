-- The one spelling of an output and of a refusal.
use Rattle.std.specs.Prelude.{ℕ, List, ◌++◌, codes, decimal, flat_map}
use Rattle.hex.specs.Hex.{encode_lower}
use Rattle.dns_events.specs.declared.event.Output.{Output}
use Rattle.dns_events.specs.declared.event.Output.TheVariants.{Datagram, Frame, Closed, TurnedAway}
use Rattle.dns_events.specs.declared.event.Why.{Why}
use Rattle.dns_events.specs.declared.event.Why.TheVariants.{Ended, Fault, Short, Idle, WriteTimeout, Commanded, Shutdown}
use Rattle.dns_trace.specs.Spelling.{yes_no}
use Rattle.dns_trace.specs.declared.reason.Reason.{Reason}
use Rattle.dns_trace.specs.declared.reason.Reason.TheVariants.{Text, Word, Order, Mix, Repeat, Count, Value, Zone}

abbrev pub why_word : Why → List ℕ
why_word Ended = codes "ended"
why_word Fault = codes "fault"
why_word Short = codes "short"
why_word Idle = codes "idle"
why_word WriteTimeout = codes "writetimeout"
why_word Commanded = codes "commanded"
why_word Shutdown = codes "shutdown"

-- datagram CLIENT HEX, frame CLIENT HEX (with the length in front), closed CLIENT WHY, turned CLIENT yes|no
unfoldable pub line_of : Output → List ℕ
line_of (Datagram client octets) = codes "datagram " ++ (decimal client ++ (codes " " ++ (encode_lower octets ++ codes "\n")))
line_of (Frame client octets) = codes "frame " ++ (decimal client ++ (codes " " ++ (encode_lower octets ++ codes "\n")))
line_of (Closed client why) = codes "closed " ++ (decimal client ++ (codes " " ++ (why_word why ++ codes "\n")))
line_of (TurnedAway client accepted) = codes "turned " ++ (decimal client ++ (codes " " ++ (yes_no accepted ++ codes "\n")))

abbrev pub lines_of : List Output → List ℕ
lines_of os = flat_map line_of os

abbrev pub reason_word : Reason → List ℕ
reason_word Text = codes "text"
reason_word Word = codes "word"
reason_word Order = codes "order"
reason_word Mix = codes "mix"
reason_word Repeat = codes "repeat"
reason_word Count = codes "count"
reason_word Value = codes "value"
reason_word Zone = codes "zone"

-- refused LINE REASON
unfoldable pub refused_line : ℕ → Reason → List ℕ
refused_line n r = codes "refused " ++ (decimal n ++ (codes " " ++ (reason_word r ++ codes "\n")))

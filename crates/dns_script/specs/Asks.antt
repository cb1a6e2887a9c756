-- The lines of questions that a cache is asked. Their script has rules beside them, and no other line.
use Rattle.std.specs.Prelude.{ℕ, Bool, ◌==◌, nat_le, List, length, Result, Ok, Err, codes, if◌then◌else◌}
use Rattle.std.specs.Str.{bytes_eq}
use Rattle.dns_name.specs.declared.address.SocketAddr.{SocketAddr}
use Rattle.dns_trace.specs.EventLines.{moment_of}
use Rattle.dns_trace.specs.Reading.{◌>>=◌, unless}
use Rattle.dns_trace.specs.Values.{addr_of, hex_octets_of, port_of}
use Rattle.dns_trace.specs.Words.{word_at}
use Rattle.dns_trace.specs.declared.reason.Reason.{Reason}
use Rattle.dns_trace.specs.declared.reason.Reason.TheVariants.{Count, Value, Word}
use Rattle.dns_script.specs.declared.ask.Ask.{Ask}

-- the lines of rules are the only ones that the script has of others
abbrev pub is_of_asks : List ℕ → Bool
is_of_asks w = bytes_eq w (codes "rule")

-- ADDR PORT, which stand after the moment
unfoldable pub asker_of : List (List ℕ) → Result SocketAddr Reason
asker_of ws = do
  ip ← addr_of (word_at ws 3)
  port ← port_of (word_at ws 4)
  Ok (record { ip = ip; port = port })

-- HEX, of a message: a header has 12 octets (RFC 1035, section 4.1.1)
unfoldable pub message_word : List ℕ → Result (List ℕ) Reason
message_word w = do
  octets ← hex_octets_of w
  _ ← unless Value (nat_le 12 (length octets))
  Ok octets

-- ask AT SECS ADDR PORT HEX
unfoldable pub ask_of : List (List ℕ) → Result Ask Reason
ask_of ws = do
  _ ← unless Count (length ws == 6)
  moment ← moment_of ws
  addr ← asker_of ws
  message ← message_word (word_at ws 5)
  Ok (record { at = moment.0; secs = moment.1; addr = addr; message = message })

-- the line of an ask, by its first word
unfoldable pub ask_line : List (List ℕ) → Result Ask Reason
ask_line ws = if bytes_eq (word_at ws 0) (codes "ask") then ask_of ws else Err Word

-- The lines of events and of looks, by their words: the first is the line's name, and the others are its values in order. The second to
-- the fourth are the moment, the seconds and the client of each.
use Rattle.std.specs.Prelude.{ℕ, ◌==◌, ◌||◌, List, length, Option, Some, None, Result, Ok, Err, codes, if◌then◌else◌}
use Rattle.std.specs.Str.{bytes_eq}
use Rattle.dns_name.specs.declared.address.SocketAddr.{SocketAddr}
use Rattle.dns_events.specs.declared.event.Event.{Event}
use Rattle.dns_events.specs.declared.event.EventKind.{EventKind}
use Rattle.dns_events.specs.declared.event.EventKind.TheVariants.{Datagram, Turn, Offer, Piece, End, Fault, Close, Write, Tick, Release, Reconfigure, Shutdown}
use Rattle.dns_events.specs.declared.event.Step.{Step}
use Rattle.dns_events.specs.declared.event.Step.TheVariants.{Own, Look}
use Rattle.dns_trace.specs.Words.{word_at}
use Rattle.dns_trace.specs.Reading.{◌>>=◌, unless}
use Rattle.dns_trace.specs.BudgetLine.{budget_values, budgeted}
use Rattle.dns_trace.specs.DgramLine.{dgram_values}
use Rattle.dns_trace.specs.StreamLine.{stream_values}
use Rattle.dns_trace.specs.Values.{num_of, port_of, hex_octets_of, addr_of}
use Rattle.dns_trace.specs.declared.budget_line.Budget.{Budget}
use Rattle.dns_trace.specs.declared.reason.Reason.{Reason}
use Rattle.dns_trace.specs.declared.reason.Reason.TheVariants.{Count, Word}

-- AT SECS
unfoldable pub moment_of : List (List ℕ) → Result (ℕ × ℕ) Reason
moment_of ws = do
  at ← num_of (word_at ws 1)
  secs ← num_of (word_at ws 2)
  Ok (at, secs)

-- AT SECS CLIENT
unfoldable pub event_of : List (List ℕ) → EventKind → Result Event Reason
event_of ws kind = do
  moment ← moment_of ws
  client ← num_of (word_at ws 3)
  Ok (record { at = moment.0; secs = moment.1; client = client; kind = kind })

-- ADDR PORT, which stand after the client
unfoldable pub socket_addr_of : List (List ℕ) → Result SocketAddr Reason
socket_addr_of ws = do
  ip ← addr_of (word_at ws 4)
  port ← port_of (word_at ws 5)
  Ok (record { ip = ip; port = port })

-- datagram AT SECS CLIENT ADDR PORT HEX
unfoldable pub datagram_line : List (List ℕ) → Result Event Reason
datagram_line ws = do
  _ ← unless Count (length ws == 7)
  addr ← socket_addr_of ws
  octets ← hex_octets_of (word_at ws 6)
  event_of ws (Datagram addr octets)

-- turn AT SECS CLIENT REQUEST
unfoldable pub turn_line : List (List ℕ) → Result Event Reason
turn_line ws = do
  _ ← unless Count (length ws == 5)
  request ← num_of (word_at ws 4)
  event_of ws (Turn request)

-- offer AT SECS CLIENT ADDR PORT
unfoldable pub offer_line : List (List ℕ) → Result Event Reason
offer_line ws = do
  _ ← unless Count (length ws == 6)
  addr ← socket_addr_of ws
  event_of ws (Offer addr)

-- piece AT SECS CLIENT HEX
unfoldable pub piece_line : List (List ℕ) → Result Event Reason
piece_line ws = do
  _ ← unless Count (length ws == 5)
  octets ← hex_octets_of (word_at ws 4)
  event_of ws (Piece octets)

-- write AT SECS CLIENT TOOK
unfoldable pub write_line : List (List ℕ) → Result Event Reason
write_line ws = do
  _ ← unless Count (length ws == 5)
  took ← num_of (word_at ws 4)
  event_of ws (Write took)

-- a name and AT SECS CLIENT
unfoldable pub bare_line : List (List ℕ) → EventKind → Result Event Reason
bare_line ws kind = do
  _ ← unless Count (length ws == 4)
  event_of ws kind

-- AT SECS, of an event that all clients hear, whose client is 0
unfoldable pub wide_event_of : List (List ℕ) → EventKind → Result Event Reason
wide_event_of ws kind = do
  moment ← moment_of ws
  Ok (record { at = moment.0; secs = moment.1; client = 0; kind = kind })

-- BUDGET WINDOW, the two last words of twelve, which ten words lack
unfoldable pub last_budget : List (List ℕ) → Result (Option Budget) Reason
last_budget ws = if length ws == 12 then (budget_values ws 10 >>= λ b. Ok (Some b)) else Ok None

-- reconfigure AT SECS SIZE WRITE IDLE WRITE QUEUE LIMIT yes|no, and then BUDGET WINDOW or nothing
unfoldable pub reconfigure_line : List (List ℕ) → Result Event Reason
reconfigure_line ws = do
  _ ← unless Count ((length ws == 10) || (length ws == 12))
  dgram ← dgram_values ws 3
  stream ← stream_values ws 5
  budget ← last_budget ws
  wide_event_of ws (Reconfigure dgram (budgeted budget stream))

-- shutdown AT SECS
unfoldable pub shutdown_line : List (List ℕ) → Result Event Reason
shutdown_line ws = do
  _ ← unless Count (length ws == 3)
  wide_event_of ws Shutdown

-- the line of an event that all clients hear, by its first word
abbrev pub wide_line : List (List ℕ) → Result Event Reason
wide_line ws =
    if bytes_eq (word_at ws 0) (codes "reconfigure") then reconfigure_line ws
    else if bytes_eq (word_at ws 0) (codes "shutdown") then shutdown_line ws
    else Err Word

-- the other events of a connection whose line says no more than its name and AT SECS CLIENT
abbrev pub named_kind : List ℕ → Option EventKind
named_kind w =
    if bytes_eq w (codes "end") then Some End
    else if bytes_eq w (codes "fault") then Some Fault
    else if bytes_eq w (codes "close") then Some Close
    else if bytes_eq w (codes "tick") then Some Tick
    else None

abbrev pub bare_or_wide : Option EventKind → List (List ℕ) → Result Event Reason
bare_or_wide (Some kind) ws = bare_line ws kind
bare_or_wide None ws = wide_line ws

abbrev pub named_line : List (List ℕ) → Result Event Reason
named_line ws = bare_or_wide (named_kind (word_at ws 0)) ws

-- of an event of a connection that was offered, or of one that all clients hear
abbrev pub connection_line : List (List ℕ) → Result Event Reason
connection_line ws =
    if bytes_eq (word_at ws 0) (codes "piece") then piece_line ws
    else if bytes_eq (word_at ws 0) (codes "write") then write_line ws
    else if bytes_eq (word_at ws 0) (codes "release") then bare_line ws Release
    else named_line ws

-- the line of an event, by its first word
abbrev pub event_line : List (List ℕ) → Result Event Reason
event_line ws =
    if bytes_eq (word_at ws 0) (codes "datagram") then datagram_line ws
    else if bytes_eq (word_at ws 0) (codes "turn") then turn_line ws
    else if bytes_eq (word_at ws 0) (codes "offer") then offer_line ws
    else connection_line ws

-- look AT SECS CLIENT
unfoldable pub look_line : List (List ℕ) → Result Step Reason
look_line ws = do
  _ ← unless Count (length ws == 4)
  moment ← moment_of ws
  client ← num_of (word_at ws 3)
  Ok (Look moment.0 moment.1 client)

-- the line of a look, or of an event
unfoldable pub step_line : List (List ℕ) → Result Step Reason
step_line ws = if bytes_eq (word_at ws 0) (codes "look") then look_line ws else (event_line ws >>= λ e. Ok (Own e))

-- The events of a flood, which a generator of numbers makes, and the server that they go to.
use Rattle.std.specs.Prelude.{ℕ, zero, suc, ◌+◌, ◌*◌, ◌/◌, ◌%◌, ◌^◌, nat_lt, if◌then◌else◌, true, List, [], ◌∷◌, ◌++◌, Some, None}
use Rattle.dns_name.specs.declared.address.IpAddr.TheVariants.{V4}
use Rattle.dns_name.specs.declared.address.SocketAddr.{SocketAddr}
use Rattle.dns_service.specs.Config.{Stream, default_connection}
use Rattle.dns_events.specs.declared.event.Event.{Event}
use Rattle.dns_events.specs.declared.event.EventKind.{EventKind}
use Rattle.dns_events.specs.declared.event.EventKind.TheVariants.{Datagram, Turn, Offer, Piece, Write, Tick, Release}
use Rattle.dns_script.specs.declared.rule.Rule.{Rule}
use Rattle.dns_script.specs.declared.rule.ScriptAnswer.TheVariants.{Pend, Reply}
use Rattle.dns_script.specs.declared.rule.ScriptReply.TheVariants.{Rcode}
use Rattle.dns_script.specs.declared.service_lines.ServiceLines.TheVariants.{Rules}
use Rattle.dns_script.specs.Plan.{Plan, empty_plan}
use Rattle.dns_trace.specs.Said.{nothing_said}

-- the number that follows a number of the generator
abbrev pub next_number : ℕ → ℕ
next_number x = (x * 6364136223846793005 + 1442695040888963407) % 2 ^ 64

-- the numbers of the generator: the seed has number 0
abbrev pub number_at : ℕ → ℕ → ℕ
number_at seed zero = seed
number_at seed (suc i) = next_number (number_at seed i)

-- what is drawn of a number: its upper half
abbrev pub drawn : ℕ → ℕ
drawn x = x / 2 ^ 32

-- 192.0.2.1, port 53
abbrev pub flood_sender : SocketAddr
flood_sender = record { ip = V4 (192 ∷ 0 ∷ 2 ∷ 1 ∷ []); port = 53 }

-- the query 0x1234 with RD, for the root's name, type A and class IN
abbrev pub flood_query : List ℕ
flood_query = 18 ∷ 52 ∷ 1 ∷ 0 ∷ 0 ∷ 1 ∷ 0 ∷ 0 ∷ 0 ∷ 0 ∷ 0 ∷ 0 ∷ 0 ∷ 0 ∷ 1 ∷ 0 ∷ 1 ∷ []

-- the second digit of what is drawn, in base 16, decides what happens, and the third the request that is polled
unfoldable pub flood_kind : ℕ → EventKind
flood_kind d =
    let n = d / 16 % 16 in
    if nat_lt n 2 then Offer flood_sender
    else if nat_lt n 5 then Piece (0 ∷ 17 ∷ flood_query)
    else if nat_lt n 6 then Piece (0 ∷ [])
    else if nat_lt n 11 then Turn (d / 256 % 4)
    else if nat_lt n 13 then Write 0
    else if nat_lt n 14 then Tick
    else if nat_lt n 15 then Release
    else Datagram flood_sender flood_query

-- event i, by what is drawn: 512 events in a row are those of sixteen clients, of which the first digit names one
abbrev pub flood_event : ℕ → ℕ → Event
flood_event i d = record { at = i; secs = i; client = 16 * (i / 512) + d % 16; kind = flood_kind d }

-- the first that many events, of which the first has number 1
abbrev pub flood_events : ℕ → ℕ → List Event
flood_events seed zero = []
flood_events seed (suc n) = flood_events seed n ++ flood_event (suc n) (drawn (number_at seed (suc n))) ∷ []

-- the line `stream 1000 1000 4 10000 yes`
abbrev pub flood_stream : Stream
flood_stream = record {
  accept_connections_at_max = true;
  max_concurrent_connections = 10000;
  connection_config = record default_connection { idle_timeout = 1000; response_write_timeout = 1000; max_queued_responses = 4 };
}

-- the line `rule * pend rcode:0 rcode:3`
abbrev pub flood_rule : Rule
flood_rule = record { name = None; answers = Pend ∷ Reply (Rcode 0) ∷ Reply (Rcode 3) ∷ [] }

-- a flood is a script of these two lines and of the events
abbrev pub flood_plan : ℕ → ℕ → Plan Event
flood_plan seed count = record empty_plan
    { said = record nothing_said { stream = Some flood_stream }; service = Rules (flood_rule ∷ []); events = flood_events seed count }

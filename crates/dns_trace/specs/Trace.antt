-- The one text of settings and events.
use Rattle.std.specs.Prelude.{ℕ, List, [], ◌∷◌, ◌++◌, map, flat_map, Option, Some, None, codes, decimal}
use Rattle.hex.specs.Hex.{encode_lower}
use Rattle.dns_name.specs.declared.address.IpAddr.{IpAddr}
use Rattle.dns_name.specs.declared.address.SocketAddr.{SocketAddr}
use Rattle.dns_events.specs.Config.{Connection, Dgram, Stream}
use Rattle.dns_events.specs.declared.event.Event.{Event}
use Rattle.dns_events.specs.declared.event.EventKind.{EventKind}
use Rattle.dns_events.specs.declared.event.EventKind.TheVariants.{Datagram, Turn, Offer, Piece, End, Fault, Close, Write, Tick, Release, Reconfigure, Shutdown}
use Rattle.dns_trace.specs.Spelling.{address_word, line_of_words, number_or_none, octets_word, yes_no}
use Rattle.dns_events.specs.declared.settings.Settings.{Settings}

-- SIZE WRITE
abbrev pub dgram_words : Dgram → List (List ℕ)
dgram_words d = number_or_none d.max_response_size ∷ decimal d.write_timeout ∷ []

-- IDLE WRITE QUEUE LIMIT yes|no
abbrev pub stream_words : Stream → List (List ℕ)
stream_words s =
    decimal s.connection_config.idle_timeout
    ∷ decimal s.connection_config.response_write_timeout
    ∷ decimal s.connection_config.max_queued_responses
    ∷ decimal s.max_concurrent_connections
    ∷ yes_no s.accept_connections_at_max
    ∷ []

-- BUDGET WINDOW
abbrev pub budget_words : Connection → List (List ℕ)
budget_words c = number_or_none c.response_budget ∷ decimal c.budget_window ∷ []

abbrev pub secret_lines : Option (List ℕ) → List (List (List ℕ))
secret_lines None = []
secret_lines (Some secret) = (codes "secret" ∷ encode_lower secret ∷ []) ∷ []

abbrev pub deny_words : IpAddr → List (List ℕ)
deny_words address = codes "deny" ∷ address_word address ∷ []

-- the lines of the configurations, and of the budget of each connection
abbrev pub config_lines : Settings → List (List (List ℕ))
config_lines s =
    (codes "dgram" ∷ dgram_words s.dgram)
    ∷ (codes "stream" ∷ stream_words s.stream)
    ∷ (codes "budget" ∷ budget_words s.stream.connection_config)
    ∷ []

-- whether faulty queries are refused, EDNS, the secret if there is one, who is denied, and the configurations
abbrev pub settings_lines : Settings → List (List (List ℕ))
settings_lines s =
    (codes "strict" ∷ yes_no s.strict ∷ [])
    ∷ (codes "edns" ∷ yes_no s.edns ∷ [])
    ∷ (secret_lines s.cookies ++ (map deny_words s.denied ++ config_lines s))

-- ADDR PORT
abbrev pub addr_words : SocketAddr → List (List ℕ)
addr_words a = address_word a.ip ∷ decimal a.port ∷ []

-- a line's name, AT SECS CLIENT, and more words
abbrev pub client_words : List ℕ → Event → List (List ℕ) → List (List ℕ)
client_words name e more = name ∷ decimal e.at ∷ decimal e.secs ∷ decimal e.client ∷ more

-- a line's name, AT SECS, and more words: all clients hear the event, so that none is named
abbrev pub wide_words : List ℕ → Event → List (List ℕ) → List (List ℕ)
wide_words name e more = name ∷ decimal e.at ∷ decimal e.secs ∷ more

-- the name of a line that says no more than it and AT SECS CLIENT
abbrev pub bare_name : EventKind → Option (List ℕ)
bare_name End = Some (codes "end")
bare_name Fault = Some (codes "fault")
bare_name Close = Some (codes "close")
bare_name Tick = Some (codes "tick")
bare_name Release = Some (codes "release")
bare_name _ = None

abbrev pub kind_words : EventKind → Event → List (List ℕ)
kind_words (Datagram addr octets) e = client_words (codes "datagram") e (addr_words addr ++ octets_word octets ∷ [])
kind_words (Turn request) e = client_words (codes "turn") e (decimal request ∷ [])
kind_words (Offer addr) e = client_words (codes "offer") e (addr_words addr)
kind_words (Piece octets) e = client_words (codes "piece") e (octets_word octets ∷ [])
kind_words End e = client_words (codes "end") e []
kind_words Fault e = client_words (codes "fault") e []
kind_words Close e = client_words (codes "close") e []
kind_words (Write took) e = client_words (codes "write") e (decimal took ∷ [])
kind_words Tick e = client_words (codes "tick") e []
kind_words Release e = client_words (codes "release") e []
kind_words (Reconfigure dgram stream) e =
    wide_words (codes "reconfigure") e (dgram_words dgram ++ (stream_words stream ++ budget_words stream.connection_config))
kind_words Shutdown e = wide_words (codes "shutdown") e []

abbrev pub event_words : Event → List (List ℕ)
event_words e = kind_words e.kind e

-- the line of an event
unfoldable pub event_text : Event → List ℕ
event_text e = line_of_words (event_words e)

-- the lines of settings
unfoldable pub settings_text : Settings → List ℕ
settings_text s = flat_map line_of_words (settings_lines s)

-- the settings, and then one line for each event
unfoldable pub trace : Settings → List Event → List ℕ
trace s es = settings_text s ++ flat_map event_text es

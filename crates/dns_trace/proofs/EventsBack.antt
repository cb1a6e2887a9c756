-- The line of an event in range reads as that event.
use Rattle.std.proofs.Common.{◌≡◌, ℕ, ◌<◌, ◌^◌, List, [], ◌∷◌, ◌++◌, Some, refl, arith}
use Rattle.std.specs.Prelude.{Ok, codes, decimal}
use Rattle.hex.specs.Hex.{IsBytes}
use Rattle.dns_name.specs.declared.address.SocketAddr.{SocketAddr}
use Rattle.dns_events.specs.Config.{Dgram, IsDgram, IsStream, Stream}
use Rattle.dns_events.specs.declared.event.Event.{Event}
use Rattle.dns_events.specs.declared.event.EventKind.{EventKind}
use Rattle.dns_events.specs.declared.event.EventKind.TheVariants.{Datagram, Turn, Offer, Piece, End, Fault, Close, Write, Tick, Release, Reconfigure, Shutdown}
use Rattle.dns_trace.proofs.Addresses.{addr_back, address_is_word}
use Rattle.dns_trace.proofs.Configs.{budget_are_words, budget_back, budget_of, budgeted_back, dgram_are_words, dgram_back, stream_are_words, stream_back, words_append}
use Rattle.dns_trace.proofs.Decimals.{decimal_word, num_back, port_back}
use Rattle.dns_trace.proofs.Hexes.{octets_are_word, octets_back}
use Rattle.dns_trace.proofs.Joined.{AreWords, IsWord}
use Rattle.dns_trace.proofs.Names.{named}
use Rattle.dns_trace.specs.EventLines.{bare_line, datagram_line, event_line, event_of, last_budget, moment_of, offer_line, piece_line, reconfigure_line, shutdown_line, socket_addr_of, turn_line, wide_event_of, write_line}
use Rattle.dns_trace.specs.InRange.{IsEvent, IsKind, IsSocketAddr}
use Rattle.dns_trace.specs.Spelling.{address_word, octets_word}
use Rattle.dns_trace.specs.Trace.{addr_words, budget_words, client_words, dgram_words, event_words, kind_words, stream_words, wide_words}

-- the numbers of an event, and its kind
abbrev of_kind : ℕ → ℕ → ℕ → EventKind → Event
of_kind time secs client kind = record { at = time; secs = secs; client = client; kind = kind }

-- three numbers of 64 bits
record AreSmall (time secs client : ℕ) : Type 0 where
  first : time < 2 ^ 64
  second : secs < 2 ^ 64
  third : client < 2 ^ 64

moment_back : (name : List ℕ) (time secs : ℕ) (more : List (List ℕ)) → time < 2 ^ 64 → secs < 2 ^ 64
    → moment_of (name ∷ decimal time ∷ decimal secs ∷ more) ≡ Ok (time, secs)
unfolding moment_of
moment_back name time secs more a s = rw (num_back time a, num_back secs s) refl

event_back : (name : List ℕ) (time secs client : ℕ) (more : List (List ℕ)) (kind : EventKind) → AreSmall time secs client
    → event_of (name ∷ decimal time ∷ decimal secs ∷ decimal client ∷ more) kind ≡ Ok (of_kind time secs client kind)
unfolding event_of
event_back name time secs client more kind small =
    rw (moment_back name time secs (decimal client ∷ more) small.first small.second, num_back client small.third) refl

socket_back : (name x y z : List ℕ) (addr : SocketAddr) (more : List (List ℕ)) → IsSocketAddr addr
    → socket_addr_of (name ∷ x ∷ y ∷ z ∷ address_word addr.ip ∷ decimal addr.port ∷ more) ≡ Ok addr
unfolding socket_addr_of
socket_back name x y z addr more h = rw (addr_back addr.ip h.ip, port_back addr.port h.port) refl

bare_back : (name : List ℕ) (time secs client : ℕ) (kind : EventKind) → AreSmall time secs client
    → bare_line (name ∷ decimal time ∷ decimal secs ∷ decimal client ∷ []) kind ≡ Ok (of_kind time secs client kind)
unfolding bare_line
bare_back name time secs client kind small = event_back name time secs client [] kind small

datagram_back : (time secs client : ℕ) (addr : SocketAddr) (octets : List ℕ) → AreSmall time secs client → IsSocketAddr addr → IsBytes octets
    → datagram_line (event_words (of_kind time secs client (Datagram addr octets))) ≡ Ok (of_kind time secs client (Datagram addr octets))
unfolding datagram_line
datagram_back time secs client addr octets small h bytes =
    rw (socket_back (codes "datagram") (decimal time) (decimal secs) (decimal client) addr (octets_word octets ∷ []) h, octets_back octets bytes)
    (event_back (codes "datagram") time secs client (addr_words addr ++ octets_word octets ∷ []) (Datagram addr octets) small)

offer_back : (time secs client : ℕ) (addr : SocketAddr) → AreSmall time secs client → IsSocketAddr addr
    → offer_line (event_words (of_kind time secs client (Offer addr))) ≡ Ok (of_kind time secs client (Offer addr))
unfolding offer_line
offer_back time secs client addr small h =
    rw (socket_back (codes "offer") (decimal time) (decimal secs) (decimal client) addr [] h)
    (event_back (codes "offer") time secs client (addr_words addr) (Offer addr) small)

turn_back : (time secs client request : ℕ) → AreSmall time secs client → request < 2 ^ 64
    → turn_line (event_words (of_kind time secs client (Turn request))) ≡ Ok (of_kind time secs client (Turn request))
unfolding turn_line
turn_back time secs client request small h =
    rw (num_back request h) (event_back (codes "turn") time secs client (decimal request ∷ []) (Turn request) small)

write_back : (time secs client took : ℕ) → AreSmall time secs client → took < 2 ^ 64
    → write_line (event_words (of_kind time secs client (Write took))) ≡ Ok (of_kind time secs client (Write took))
unfolding write_line
write_back time secs client took small h =
    rw (num_back took h) (event_back (codes "write") time secs client (decimal took ∷ []) (Write took) small)

piece_back : (time secs client : ℕ) (octets : List ℕ) → AreSmall time secs client → IsBytes octets
    → piece_line (event_words (of_kind time secs client (Piece octets))) ≡ Ok (of_kind time secs client (Piece octets))
unfolding piece_line
piece_back time secs client octets small bytes =
    rw (octets_back octets bytes) (event_back (codes "piece") time secs client (octets_word octets ∷ []) (Piece octets) small)

wide_back : (name : List ℕ) (time secs : ℕ) (more : List (List ℕ)) (kind : EventKind) → time < 2 ^ 64 → secs < 2 ^ 64
    → wide_event_of (name ∷ decimal time ∷ decimal secs ∷ more) kind ≡ Ok (of_kind time secs 0 kind)
unfolding wide_event_of
wide_back name time secs more kind a s = rw (moment_back name time secs more a s) refl

shutdown_back : (time secs : ℕ) → time < 2 ^ 64 → secs < 2 ^ 64 → shutdown_line (event_words (of_kind time secs 0 Shutdown)) ≡ Ok (of_kind time secs 0 Shutdown)
unfolding shutdown_line
shutdown_back time secs a s = wide_back (codes "shutdown") time secs [] Shutdown a s

-- the words of new configurations
abbrev reconfigured : ℕ → ℕ → Dgram → Stream → List (List ℕ)
reconfigured time secs dgram stream = event_words (of_kind time secs 0 (Reconfigure dgram stream))

last_back : (time secs : ℕ) (dgram : Dgram) (stream : Stream) → IsStream stream
    → last_budget (reconfigured time secs dgram stream) ≡ Ok (Some (budget_of stream.connection_config))
unfolding last_budget
last_back time secs dgram stream h =
    rw (budget_back stream.connection_config (reconfigured time secs dgram stream) 10 h.connection_config refl refl) refl

reconfigure_back : (time secs : ℕ) (dgram : Dgram) (stream : Stream) → time < 2 ^ 64 → secs < 2 ^ 64 → IsDgram dgram → IsStream stream
    → reconfigure_line (reconfigured time secs dgram stream) ≡ Ok (of_kind time secs 0 (Reconfigure dgram stream))
unfolding reconfigure_line
reconfigure_back time secs dgram stream a s d h =
    let ws = reconfigured time secs dgram stream in
    rw (
      dgram_back dgram ws 3 d refl refl,
      stream_back stream ws 5 h (record { idle = refl; write = refl; queue = refl; limit = refl; accepts = refl }),
      last_back time secs dgram stream h,
      budgeted_back stream h,
    )
    (wide_back (codes "reconfigure") time secs (dgram_words dgram ++ (stream_words stream ++ budget_words stream.connection_config)) (Reconfigure dgram stream) a s)

kind_back : (time secs client : ℕ) (kind : EventKind) → AreSmall time secs client → IsKind kind client
    → event_line (event_words (of_kind time secs client kind)) ≡ Ok (of_kind time secs client kind)
kind_back time secs client (Datagram addr octets) small h = datagram_back time secs client addr octets small h.0 h.1
kind_back time secs client (Turn request) small h = turn_back time secs client request small h
kind_back time secs client (Offer addr) small h = offer_back time secs client addr small h
kind_back time secs client (Piece octets) small h = piece_back time secs client octets small h
kind_back time secs client End small h = bare_back (codes "end") time secs client End small
kind_back time secs client Fault small h = bare_back (codes "fault") time secs client Fault small
kind_back time secs client Close small h = bare_back (codes "close") time secs client Close small
kind_back time secs client (Write took) small h = write_back time secs client took small h
kind_back time secs client Tick small h = bare_back (codes "tick") time secs client Tick small
kind_back time secs client Release small h = bare_back (codes "release") time secs client Release small
kind_back time secs client (Reconfigure dgram stream) small h =
    rw h.2 (reconfigure_back time secs dgram stream small.first small.second h.0 h.1)
kind_back time secs client Shutdown small h = rw h (shutdown_back time secs small.first small.second)

pub line_back : (e : Event) → IsEvent e → event_line (event_words e) ≡ Ok e
line_back e h = kind_back e.at e.secs e.client e.kind (record { first = h.at; second = h.secs; third = h.client }) h.kind

-- ---- the words of a line

client_are_words : (name : List ℕ) (e : Event) (more : List (List ℕ)) → IsWord name → IsEvent e → AreWords more → AreWords (client_words name e more)
client_are_words name e more n h m = (n, (decimal_word e.at h.at, (decimal_word e.secs h.secs, (decimal_word e.client h.client, m))))

wide_are_words : (name : List ℕ) (e : Event) (more : List (List ℕ)) → IsWord name → IsEvent e → AreWords more → AreWords (wide_words name e more)
wide_are_words name e more n h m = (n, (decimal_word e.at h.at, (decimal_word e.secs h.secs, m)))

addr_are_words : (addr : SocketAddr) → IsSocketAddr addr → AreWords (addr_words addr)
addr_are_words addr h = (address_is_word addr.ip h.ip, (decimal_word addr.port (omega (arith, h.port)), tt))

kind_are_words : (kind : EventKind) (e : Event) → IsEvent e → IsKind kind e.client → AreWords (kind_words kind e)
kind_are_words (Datagram addr octets) e h k =
    client_are_words (codes "datagram") e (addr_words addr ++ octets_word octets ∷ []) (named (codes "datagram") refl (omega arith)) h
    (words_append (addr_words addr) (octets_word octets ∷ []) (addr_are_words addr k.0) (octets_are_word octets k.1, tt))
kind_are_words (Turn request) e h k =
    client_are_words (codes "turn") e (decimal request ∷ []) (named (codes "turn") refl (omega arith)) h (decimal_word request k, tt)
kind_are_words (Offer addr) e h k =
    client_are_words (codes "offer") e (addr_words addr) (named (codes "offer") refl (omega arith)) h (addr_are_words addr k)
kind_are_words (Piece octets) e h k =
    client_are_words (codes "piece") e (octets_word octets ∷ []) (named (codes "piece") refl (omega arith)) h (octets_are_word octets k, tt)
kind_are_words End e h k = client_are_words (codes "end") e [] (named (codes "end") refl (omega arith)) h tt
kind_are_words Fault e h k = client_are_words (codes "fault") e [] (named (codes "fault") refl (omega arith)) h tt
kind_are_words Close e h k = client_are_words (codes "close") e [] (named (codes "close") refl (omega arith)) h tt
kind_are_words (Write took) e h k =
    client_are_words (codes "write") e (decimal took ∷ []) (named (codes "write") refl (omega arith)) h (decimal_word took k, tt)
kind_are_words Tick e h k = client_are_words (codes "tick") e [] (named (codes "tick") refl (omega arith)) h tt
kind_are_words Release e h k = client_are_words (codes "release") e [] (named (codes "release") refl (omega arith)) h tt
kind_are_words (Reconfigure dgram stream) e h k =
    wide_are_words (codes "reconfigure") e (dgram_words dgram ++ (stream_words stream ++ budget_words stream.connection_config)) (named (codes "reconfigure") refl (omega arith)) h
    (words_append (dgram_words dgram) (stream_words stream ++ budget_words stream.connection_config) (dgram_are_words dgram k.0)
    (words_append (stream_words stream) (budget_words stream.connection_config) (stream_are_words stream k.1) (budget_are_words stream.connection_config k.1.connection_config)))
kind_are_words Shutdown e h k = wide_are_words (codes "shutdown") e [] (named (codes "shutdown") refl (omega arith)) h tt

pub event_are_words : (e : Event) → IsEvent e → AreWords (event_words e)
event_are_words e h = kind_are_words e.kind e h h.kind

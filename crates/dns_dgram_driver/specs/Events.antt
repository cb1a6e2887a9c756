-- The events that a driver of datagrams records, and what stands in them.
use Rattle.std.specs.Prelude.{◌≡◌, ℕ, ◌+◌, zero, suc, List, [], ◌∷◌, ◌++◌, true}
use Rattle.dns_io.specs.declared.sock.Packet.{Packet}
use Rattle.dns_events.specs.declared.event.Event.{Event}
use Rattle.dns_events.specs.declared.event.EventKind.{EventKind}
use Rattle.dns_events.specs.declared.event.EventKind.TheVariants.{Datagram, Turn, Fault, Reconfigure, Shutdown}
use Rattle.dns_session.specs.Datagrams.{cut_datagram}
use Rattle.dns_recorder.specs.Own.{is_wide}

-- own events are Datagrams, and Turns of request 0
abbrev pub IsOwnKind : EventKind → Type 0
IsOwnKind (Datagram addr octets) = Unit {0}
IsOwnKind (Turn request) = request ≡ 0
IsOwnKind _ = ⊥

-- beside them stand Faults, and what all clients hear
abbrev pub IsDatagramKind : EventKind → Type 0
IsDatagramKind (Datagram addr octets) = Unit {0}
IsDatagramKind (Turn request) = request ≡ 0
IsDatagramKind Fault = Unit {0}
IsDatagramKind (Reconfigure dgram stream) = Unit {0}
IsDatagramKind Shutdown = Unit {0}
IsDatagramKind _ = ⊥

abbrev pub AllDatagramKinds : List Event → Type 0
AllDatagramKinds [] = Unit {0}
AllDatagramKinds (e ∷ es) = IsDatagramKind e.kind × AllDatagramKinds es

-- those that all clients hear name none: they stand under number 0
abbrev pub WideAreNobodys : List Event → Type 0
WideAreNobodys [] = Unit {0}
WideAreNobodys (e ∷ es) = (is_wide e.kind ≡ true → e.client ≡ 0) × WideAreNobodys es

-- the datagrams among some events, each with its sender's address
abbrev pub packet_in : EventKind → List Packet
packet_in (Datagram addr octets) = record { octets = octets; addr = addr } ∷ []
packet_in _ = []

abbrev pub packets_in : List Event → List Packet
packets_in [] = []
packets_in (e ∷ es) = packet_in e.kind ++ packets_in es

-- of each datagram the first 1,024 octets
abbrev pub cut_packet : Packet → Packet
cut_packet l = record { octets = cut_datagram l.octets; addr = l.addr }

abbrev pub cut_packets : List Packet → List Packet
cut_packets [] = []
cut_packets (l ∷ ls) = cut_packet l ∷ cut_packets ls

-- the numbers of the Datagrams among some events
abbrev pub number_in : ℕ → EventKind → List ℕ
number_in client (Datagram addr octets) = client ∷ []
number_in client _ = []

abbrev pub numbers_in : List Event → List ℕ
numbers_in [] = []
numbers_in (e ∷ es) = number_in e.client e.kind ++ numbers_in es

-- the numbers below n, rising
abbrev pub numbers_below : ℕ → List ℕ
numbers_below zero = []
numbers_below (suc n) = numbers_below n ++ n ∷ []

-- the Turns among some events
abbrev pub turn_count : EventKind → ℕ
turn_count (Turn request) = 1
turn_count _ = 0

abbrev pub turns_in : List Event → ℕ
turns_in [] = 0
turns_in (e ∷ es) = turn_count e.kind + turns_in es

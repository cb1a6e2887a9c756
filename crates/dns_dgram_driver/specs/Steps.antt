-- What the parts of the loop of datagrams do to what recorder, socket, clock and seat tell.
use Rattle.std.specs.Prelude.{◌≡◌, ◌≤◌, ◌⊎◌, ℕ, ◌+◌, ◌-◌, ◌^◌, min, List, [], ◌∷◌, ◌++◌, length, take, drop, Bool, true, false, ◌==◌, ◌||◌, nat_eq, if◌then◌else◌, is_some, Option, Some, None}
use Rattle.dns_name.specs.declared.address.SocketAddr.{SocketAddr}
use Rattle.dns_events.specs.declared.look.Look.{Look}
use Rattle.dns_io.specs.Causes.{Rose}
use Rattle.dns_io.specs.SockTraffic.{SockTraffic}
use Rattle.dns_io.specs.declared.sock.Packet.{Packet}
use Rattle.dns_service.specs.Answer.{Answer}
use Rattle.dns_events.specs.declared.event.Event.{Event}
use Rattle.dns_events.specs.declared.event.EventKind.{EventKind}
use Rattle.dns_events.specs.declared.event.EventKind.TheVariants.{Turn, Datagram as ADatagram}
use Rattle.dns_events.specs.declared.event.Output.{Output}
use Rattle.dns_events.specs.declared.event.Output.TheVariants.{Datagram}
use Rattle.dns_service.specs.declared.polled.PolledRequest.{PolledRequest}
use Rattle.dns_session.specs.Serving.{Serving}
use Rattle.dns_session.specs.Slate.{Slate, Effect, Exchange, IsUnused, conf_of}
use Rattle.dns_session.specs.Datagrams.{datagram}
use Rattle.dns_session.specs.Stands.{IsExchange}
use Rattle.dns_session.specs.Rule.{rule}
use Rattle.dns_session.specs.declared.kept.KeptRequest.{KeptRequest}
use Rattle.dns_recorder.specs.Clocks.{ClockReading, Waited, LateAt}
use Rattle.dns_recorder.specs.Woven.{news_kinds, kinds, AreNobodys}
use Rattle.dns_dgram_driver.specs.Order.{fault_events, IsFaultOf}
use Rattle.dns_dgram_driver.specs.Polled.{is_finished}
use Rattle.dns_dgram_driver.specs.Sent.{nothing_if, count_if, fails_before}
use Rattle.dns_dgram_driver.specs.DatagramsServed.{Clocked}
use Rattle.dns_dgram_driver.specs.declared.notes.EventHead.{EventHead}
use Rattle.dns_dgram_driver.specs.declared.running.KeptExchange.{KeptExchange}
use Rattle.dns_dgram_driver.specs.declared.sends.SendEnd.{SendEnd}
use Rattle.dns_dgram_driver.specs.declared.sends.SendEnd.TheVariants.{Sent, Failed, Late}

-- whose an event is, and when it was noted
abbrev pub head_of : Event → EventHead
head_of e = record { client = e.client; at = e.at; secs = e.secs }

abbrev pub event_with : EventHead → EventKind → Event
event_with head kind = record { at = head.at; secs = head.secs; client = head.client; kind = kind }

abbrev pub noted_octets : EventKind → Option (List ℕ)
noted_octets (ADatagram addr o) = Some o
noted_octets _ = None

-- an event was noted, with a reading of its own
pub record EventDated (e : Event) (n n' : List Event) (c c' : List ClockReading) : Type 0 where
  pub clock : c' ≡ c ++ (e.at, e.secs) ∷ []
  pub noted : n' ≡ n ++ e ∷ []

-- what was heard of the book, with a look more: after a shutdown the configurations stay
abbrev pub hears : Look → Look → Look
hears heard look =
    if heard.closed || (look.version == heard.version) then record heard { version = look.version; closed = heard.closed || look.closed }
    else record look { closed = heard.closed || look.closed }

-- the news of a look were noted
pub record NewsNoted (heard look : Look) (n n' : List Event) (c c' : List ClockReading) : Type 0 where
  pub events : List Event
  pub news : kinds events ≡ news_kinds heard look
  pub nobodys : AreNobodys events
  pub noted : n' ≡ n ++ events
  pub clock : Clocked events c c' 0 0

-- datagrams were sent by a socket, and besides that only sends answered Again
pub record Posts (packets : List Packet) (m m' : SockTraffic) : Type 0 where
  pub received : m'.received ≡ m.received
  pub sent : m'.sent ≡ m.sent ++ packets
  pub empty : m'.empty_receives ≡ m.empty_receives

-- How the send of some datagrams ended, which are one or none. They were sent; a send failed; or so much time has
-- passed since a moment.
pub record SentSo (packets : List Packet) (m m' : SockTraffic) (c c' : List ClockReading) : Type 0 where
  pub posts : Posts packets m m'
  pub waited : Waited m.full_sends m'.full_sends c c'

pub record LateSo (at secs since limit : ℕ) (m m' : SockTraffic) (c c' : List ClockReading) : Type 0 where
  pub posts : Posts [] m m'
  pub waited : LateAt (at, secs) m.full_sends m'.full_sends c c'
  pub late : since + limit ≤ at

abbrev pub SendsTo : SendEnd → List Packet → ℕ → ℕ → SockTraffic → SockTraffic → List ClockReading → List ClockReading → Type 0
SendsTo Sent packets since limit m m' c c' = SentSo packets m m' c c'
SendsTo Failed packets since limit m m' c c' = SentSo [] m m' c c'
SendsTo (Late at secs) packets since limit m m' c c' = LateSo at secs since limit m m' c c'

-- the count of failed sends, by how the sending ended
abbrev pub SendsCause : SendEnd → ℕ → ℕ → Type 0
SendsCause Failed fails fails' = Rose fails fails'
SendsCause _ fails fails' = fails' ≡ fails

-- the count of failed sends, by whether one had failed before and whether one has failed now
abbrev pub SendsRose : Bool → Bool → ℕ → ℕ → Type 0
SendsRose before now fails fails' = ((now ≡ before) × (fails' ≡ fails)) ⊎ ((now ≡ true) × Rose fails fails')

-- What an event led to was sent, or a Fault of its exchange was noted: late with a send that answered Again, or by a send that
-- failed.
pub record SendsOrFaults (head : EventHead) (packets : List Packet) (write : ℕ) (n n' : List Event) (m m' : SockTraffic)
    (fails fails' : ℕ) (c c' : List ClockReading) : Type 0 where
  pub fault : Option Event
  pub late : ℕ
  pub failed : ℕ
  pub noted : n' ≡ n ++ fault_events fault
  pub is_fault_of : (e : Event) → e.client ≡ head.client → IsFaultOf e fault
  pub one : length (fault_events fault) ≡ late + failed
  pub early : count_if (fails_before (head.at + write) (fault_events fault)) ≤ failed
  pub posts : Posts (nothing_if (is_some fault) packets) m m'
  pub again : m.full_sends + late ≤ m'.full_sends
  pub rose : min (fails + failed) (2 ^ 64 - 1) ≤ fails'
  pub clock : Clocked (fault_events fault) c c' m.full_sends m'.full_sends

-- nothing was noted, and nothing sent or received
pub record Unsent (n n' : List Event) (m m' : SockTraffic) : Type 0 where
  pub noted : n' ≡ n
  pub received : m'.received ≡ m.received
  pub sent : m'.sent ≡ m.sent

-- the datagram of the last output, if that is one
abbrev pub octets_of : Output → Option (List ℕ)
octets_of (Datagram client octets) = Some octets
octets_of _ = None

abbrev pub last_octets : List Output → Option (List ℕ)
last_octets [] = None
last_octets (o ∷ []) = octets_of o
last_octets (o ∷ p ∷ os) = last_octets (p ∷ os)

abbrev pub packet_to : Option (List ℕ) → SocketAddr → Option Packet
packet_to None addr = None
packet_to (Some octets) addr = Some (record { octets = octets; addr = addr })

abbrev pub one_or_none : {X : Type 0} → Option X → List X
one_or_none None = []
one_or_none (Some x) = x ∷ []

-- the numbers of what is kept, and what is kept under a number
abbrev pub numbers_of : {W R F : Type 0} → List (KeptExchange W R F) → List ℕ
numbers_of [] = []
numbers_of (x ∷ xs) = x.number ∷ numbers_of xs

-- the number of the first one; and that what is kept begins with these numbers
abbrev pub IsFirstNumber : {W R F : Type 0} → ℕ → List (KeptExchange W R F) → Type 0
IsFirstNumber n xs = take 1 (numbers_of xs) ≡ n ∷ []

abbrev pub StandFirst : {W R F : Type 0} → List ℕ → List (KeptExchange W R F) → Type 0
StandFirst ns xs = (others : List ℕ) × (numbers_of xs ≡ ns ++ others)

-- the first goes after the others, unless it is done
abbrev pub gone_behind : {X : Type 0} → Bool → List X → List X
gone_behind done xs = if done then drop 1 xs else drop 1 xs ++ take 1 xs

abbrev pub kept_at : {W R F : Type 0} → ℕ → List (KeptExchange W R F) → List (KeptExchange W R F)
kept_at c [] = []
kept_at c (x ∷ xs) = if nat_eq c x.number then x ∷ kept_at c xs else kept_at c xs

-- what is kept of an exchange that begins
abbrev pub kept_under : {W R F : Type 0} → ℕ → SocketAddr → Option (KeptRequest F R) → List (KeptExchange W R F)
kept_under n addr None = []
kept_under n addr (Some q) = record { number = n; request = q; addr = addr } ∷ []

module _ {W R F : Type 0} (answer : PolledRequest F R → ℕ → Answer) (answers : Serving) where
  -- what is kept of an exchange that is unfinished: its number, its one request, and the address that its datagrams go to
  pub record IsKeptOf (x : KeptExchange W R F) (s : Slate) : Type 0 where
    pub is_exchange : IsExchange answer answers x.number (Some x.request) s
    pub addr_is : x.addr ≡ s.addr
    pub phase_is : s.phase ≡ Exchange
    pub unfinished : is_finished s ≡ false

  -- what is kept under a number is that one, as long as the exchange is unfinished, and nothing more
  abbrev pub KeepsExchange : List (KeptExchange W R F) → Slate → Type 0
  KeepsExchange [] s = is_finished s ≡ true
  KeepsExchange (x ∷ []) s = IsKeptOf x s
  KeepsExchange (x ∷ y ∷ xs) s = ⊥

  -- at each slate of which this was kept, the datagram is what is sent, and of the slate after it this is kept
  abbrev pub ExchangeLeads : List (KeptExchange W R F) → Option Packet → List (KeptExchange W R F) → Slate → Effect → Type 0
  ExchangeLeads old packet new s t = KeepsExchange old s → (packet ≡ packet_to (last_octets t.1) t.0.addr) × KeepsExchange new t.0

  -- a Turn of an exchange
  pub record TurnedExchange (old : List (KeptExchange W R F)) (packet : Option Packet) (new : List (KeptExchange W R F)) : Type 0 where
    pub leads : (e : Event) (s : Slate) → e.kind ≡ Turn 0 → ExchangeLeads old packet new s (rule answers e s)

  -- a Turn of one exchange that is kept, and whether it is finished then
  pub record TurnedOne (old : KeptExchange W R F) (packet : Option Packet) (done : Bool) (new : KeptExchange W R F) : Type 0 where
    pub packet_is : (e : Event) (s : Slate) → e.kind ≡ Turn 0 → IsKeptOf old s
        → packet ≡ packet_to (last_octets (rule answers e s).1) (rule answers e s).0.addr
    pub done_is : (e : Event) (s : Slate) → e.kind ≡ Turn 0 → IsKeptOf old s → done ≡ is_finished (rule answers e s).0
    pub left : (e : Event) (s : Slate) → e.kind ≡ Turn 0 → IsKeptOf old s → done ≡ false → IsKeptOf new (rule answers e s).0

  -- an exchange is begun by its datagram, after what was heard of the book
  pub record Begun (heard : Look) (e : Event) (addr : SocketAddr) (octets : List ℕ) (old : List (KeptExchange W R F))
      (packet : Option Packet) (new : List (KeptExchange W R F)) : Type 0 where
    pub leads : (s : Slate) → IsUnused s → s.conf ≡ conf_of heard
        → ExchangeLeads old packet new s (datagram e.client addr e.at e.secs octets s)

-- a Turn of the first one
pub record TurnedFirst {W R F : Type 0} (answer : PolledRequest F R → ℕ → Answer) (old : List (KeptExchange W R F))
    (packet : Option Packet) (done : Bool) (new : List (KeptExchange W R F)) : Type 0 where
  pub behind : List (KeptExchange W R F)
  pub was : KeptExchange W R F
  pub now : KeptExchange W R F
  pub old_is : old ≡ was ∷ behind
  pub new_is : new ≡ now ∷ behind
  pub number : now.number ≡ was.number
  pub turned : (answers : Serving) → TurnedOne answer answers was packet done now

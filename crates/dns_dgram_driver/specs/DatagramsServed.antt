-- How the serving of datagrams ends, by what socket, clock, recorder and seat tell.
use Rattle.std.specs.Prelude.{◌≡◌, ◌≢◌, ◌≤◌, ◌⊎◌, ℕ, ◌+◌, ◌-◌, ◌^◌, min, List, ◌∷◌, ◌++◌, length, Bool, true, false}
use Rattle.std.specs.List.{list_any}
use Rattle.dns_events.specs.declared.look.Look.{Look}
use Rattle.dns_book.specs.Gains.{Gained}
use Rattle.dns_book.specs.declared.history.Known.{Known}
use Rattle.dns_io.specs.Causes.{Rose}
use Rattle.dns_io.specs.SockTraffic.{SockTraffic}
use Rattle.dns_io.specs.declared.sock.Packet.{Packet}
use Rattle.dns_events.specs.declared.event.Event.{Event}
use Rattle.dns_session.specs.Serving.{Serving}
use Rattle.dns_events.specs.declared.settings.Settings.{Settings}
use Rattle.dns_recorder.specs.Out.{out}
use Rattle.dns_recorder.specs.Clocks.{ClockReading, Dated, faults_in}
use Rattle.dns_recorder.specs.Counts.{IsWithinCount}
use Rattle.dns_recorder.specs.Woven.{look_entries}
use Rattle.dns_dgram_driver.specs.Events.{WideAreNobodys, packets_in, cut_packets, numbers_in, numbers_below, turns_in}
use Rattle.dns_dgram_driver.specs.Order.{EventsFollowLooks}
use Rattle.dns_dgram_driver.specs.Polled.{TurnsBetween, AllFinished}
use Rattle.dns_dgram_driver.specs.Sent.{settings_shown, all_addressed, packets_delivered, early_faults, IsPart}
use Rattle.dns_dgram_driver.specs.declared.serving.DgramEnd.{DgramEnd}
use Rattle.dns_dgram_driver.specs.declared.serving.DgramEnd.TheVariants.{Shutdown, Counted, Fault, OutOfMemory}

-- what recorder, socket, clock and seat tell, and the count of failed sends, which is known always
pub record World : Type 0 where
  pub noted : List Event
  pub sock_traffic : SockTraffic
  pub failed_sends : ℕ
  pub readings : List ClockReading
  pub known : Known

abbrev pub world : List Event → SockTraffic → ℕ → List ClockReading → Known → World
world noted sock_traffic failed_sends readings known
    = record { noted = noted; sock_traffic = sock_traffic; failed_sends = failed_sends; readings = readings; known = known }

-- the seat made these looks and no other calls, and keeps its name
pub record LooksOnly (k : Known) (looks : List Look) (k' : Known) : Type 0 where
  pub calls : Gained k (look_entries k.name looks) k'
  pub name : k'.name ≡ k.name

pub record OnlyLooks (k k' : Known) : Type 0 where
  pub looks : List Look
  pub made : LooksOnly k looks k'

-- some look showed a shutdown
abbrev pub ShowsShutdown : List Look → Type 0
ShowsShutdown looks = list_any (λ l. l.closed) looks ≡ true

-- the seat made looks and no other calls, and if the serving ended by a shutdown one of them showed it
pub record LooksBy (end : DgramEnd) (k k' : Known) : Type 0 where
  pub looks : List Look
  pub made : LooksOnly k looks k'
  pub shown : end ≡ Shutdown → ShowsShutdown looks

-- the count of failed receives rose if the serving ended by a fault, and else it is the same
abbrev pub ReceivesBy : DgramEnd → ℕ → ℕ → Type 0
ReceivesBy Fault r r' = Rose r r'
ReceivesBy Shutdown r r' = r' ≡ r
ReceivesBy Counted r r' = r' ≡ r
ReceivesBy OutOfMemory r r' = r' ≡ r

-- a count rose if that is said, and else it is the same
abbrev pub RoseIf : Bool → ℕ → ℕ → Type 0
RoseIf true a b = Rose a b
RoseIf false a b = b ≡ a

-- each event carries a reading, in order; there are no more readings than events and sends that answered Again
pub record Clocked (events : List Event) (c c' : List ClockReading) (full full' : ℕ) : Type 0 where
  pub readings : List ClockReading
  pub clock : c' ≡ c ++ readings
  pub dated : Dated readings events
  pub count : length readings + full ≤ length events + full'

module _ (answers : Serving) (settings : Settings) where
  -- Each datagram received is recorded, in order, under a new number, with its sender's address and its first 1,024 octets. Between
  -- two of them stands a Turn of each exchange that is unfinished after the first. There are that many more looks, at most, than
  -- datagrams, receives that answered Again, and Turns.
  pub record Input (events : List Event) (looks : List Look) (more number : ℕ) (m m' : SockTraffic) : Type 0 where
    pub came : List Packet
    pub received : m'.received ≡ m.received ++ came
    pub recorded : packets_in events ≡ cut_packets came
    pub numbered : numbers_in events ≡ numbers_below number
    pub polled : (c : ℕ) → TurnsBetween answers settings c events
    pub looked : length looks + m.empty_receives ≤ length came + turns_in events + m'.empty_receives + more

  -- What was sent is what the events lead to, each datagram to its exchange's address, except for those that a Fault of their exchange
  -- follows. Of the Faults some are late, each with a send that answered Again, and some are of a send that failed. One before the
  -- write timeout in force has passed is of a send that failed.
  pub record Delivered (events : List Event) (m m' : SockTraffic) (fails fails' : ℕ) : Type 0 where
    pub sent : m'.sent ≡ m.sent ++ packets_delivered answers settings events
    pub late : ℕ
    pub failed : ℕ
    pub faults : faults_in events ≡ late + failed
    pub again : m.full_sends + late ≤ m'.full_sends
    pub rose : min (fails + failed) (2 ^ 64 - 1) ≤ fails'
    pub early : early_faults answers settings events ≤ failed

-- that many datagrams may be received: no more than are to be served, and no more than can be numbered
abbrev pub MayCome : ℕ → ℕ → Type 0
MayCome count number = IsWithinCount count number × (number ≤ 2 ^ 64 - 1)

-- that many datagrams came, or as many as can be numbered
abbrev pub IsFull : ℕ → ℕ → Type 0
IsFull count number = ((count ≢ 0) × (number ≡ count)) ⊎ (number ≡ 2 ^ 64 - 1)

abbrev pub EndsBy : Serving → DgramEnd → ℕ → ℕ → Look → List Look → List Event → Type 0
EndsBy answers Shutdown count number first looks events = ShowsShutdown (first ∷ looks) × AllFinished answers (settings_shown first) events
EndsBy answers Counted count number first looks events = IsFull count number × AllFinished answers (settings_shown first) events
EndsBy answers Fault count number first looks events = Unit {0}
EndsBy answers OutOfMemory count number first looks events = ⊥

-- What was noted from a world to another, by a first look and the looks after it. What all clients hear stands under number 0. No more
-- datagrams were received than may come, and if that many came it ended by that.
pub record ServedBy (answers : Serving) (end : DgramEnd) (count : ℕ) (start now : World) : Type 0 where
  pub first : Look
  pub looks : List Look
  pub events : List Event
  pub number : ℕ
  pub noted : now.noted ≡ start.noted ++ events
  pub seat : LooksOnly start.known (first ∷ looks) now.known
  pub order : EventsFollowLooks first looks events
  pub nobodys : WideAreNobodys events
  pub input : Input answers (settings_shown first) events (first ∷ looks) 2 number start.sock_traffic now.sock_traffic
  pub within : MayCome count (length input.came)
  pub clock : Clocked events start.readings now.readings start.sock_traffic.full_sends now.sock_traffic.full_sends
  pub output : Delivered answers (settings_shown first) events start.sock_traffic now.sock_traffic start.failed_sends now.failed_sends
  pub ends : EndsBy answers end count number first looks events
  pub counted : IsFull count number → end ≡ Counted

-- Memory ran out: no more datagrams were received than may come. The Datagrams recorded are the first datagrams received, and what
-- was sent is a part of what the events lead to.
pub record CutOff (answers : Serving) (count : ℕ) (start now : World) : Type 0 where
  pub first : Look
  pub looks : List Look
  pub events : List Event
  pub came : List Packet
  pub unrecorded : List Packet
  pub number : ℕ
  pub packets : List Packet
  pub noted : now.noted ≡ start.noted ++ events
  pub seat : LooksOnly start.known (first ∷ looks) now.known
  pub received : now.sock_traffic.received ≡ start.sock_traffic.received ++ came
  pub within : MayCome count (length came)
  pub recorded : cut_packets came ≡ packets_in events ++ unrecorded
  pub numbered : numbers_in events ≡ numbers_below number
  pub nobodys : WideAreNobodys events
  pub sent : now.sock_traffic.sent ≡ start.sock_traffic.sent ++ packets
  pub part : IsPart packets (all_addressed answers (settings_shown first) events (out answers (settings_shown first) events))

abbrev pub ServedTo : Serving → DgramEnd → ℕ → World → World → Type 0
ServedTo answers OutOfMemory count start now = CutOff answers count start now
ServedTo answers end count start now = ServedBy answers end count start now

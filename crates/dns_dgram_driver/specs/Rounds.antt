-- What the loop of datagrams did from its start to now, and what each part of it does, wherever it began.
use Rattle.std.specs.Prelude.{◌≡◌, ◌≤◌, ℕ, ◌+◌, nat_eq, List, [], ◌∷◌, ◌++◌, take, Bool, true, false, ◌||◌, Option, Some, None, Result, Ok, Err}
use Rattle.std.specs.List.{list_any}
use Rattle.dns_name.specs.declared.address.SocketAddr.{SocketAddr}
use Rattle.dns_events.specs.declared.look.Look.{Look}
use Rattle.dns_name.specs.declared.error.OutOfMemory.{OutOfMemory as No_memory}
use Rattle.dns_io.specs.Causes.{Rose}
use Rattle.dns_io.specs.SockTraffic.{SockTraffic}
use Rattle.dns_service.specs.Answer.{Answer}
use Rattle.dns_events.specs.declared.event.Event.{Event}
use Rattle.dns_service.specs.declared.polled.PolledRequest.{PolledRequest}
use Rattle.dns_session.specs.Serving.{Serving}
use Rattle.dns_session.specs.Slate.{Unused, conf_of}
use Rattle.dns_events.specs.declared.settings.Settings.{Settings}
use Rattle.dns_recorder.specs.Sent.{conf, slate}
use Rattle.dns_recorder.specs.Woven.{seen_with}
use Rattle.dns_recorder.specs.Clocks.{ClockReading}
use Rattle.dns_dgram_driver.specs.Events.{AllDatagramKinds, WideAreNobodys}
use Rattle.dns_dgram_driver.specs.Order.{RecordedPart, looked, acted, EventsFollowLooks}
use Rattle.dns_dgram_driver.specs.Polled.{waits}
use Rattle.dns_dgram_driver.specs.Sent.{settings_shown, count_if}
use Rattle.dns_dgram_driver.specs.DatagramsServed.{World, ReceivesBy, LooksOnly, Clocked, Input, Delivered, CutOff, IsFull, MayCome}
use Rattle.dns_dgram_driver.specs.Steps.{KeepsExchange, SendsRose, EventDated, kept_at, numbers_of}
use Rattle.dns_dgram_driver.specs.declared.running.Running.{Running}
use Rattle.dns_dgram_driver.specs.declared.serving.DgramEnd.{DgramEnd}
use Rattle.dns_dgram_driver.specs.declared.serving.DgramEnd.TheVariants.{Shutdown, Counted, Fault, OutOfMemory}
use Rattle.dns_dgram_driver.specs.declared.receiving.RecvOutcome.{RecvOutcome}
use Rattle.dns_dgram_driver.specs.declared.receiving.RecvOutcome.TheVariants.{Continue, Failed as Failed_receive}

-- whether a look stands after the last own event, and what was seen
abbrev pub is_ready : Bool → List RecordedPart → Bool
is_ready ready [] = ready
is_ready ready (looked look news ∷ rs) = is_ready true rs
is_ready ready (acted event fault ∷ rs) = is_ready false rs

abbrev pub seen_in : Look → List RecordedPart → Look
seen_in before [] = before
seen_in before (looked look news ∷ rs) = seen_in (seen_with before look) rs
seen_in before (acted event fault ∷ rs) = seen_in before rs

-- the events are in order, what was heard is what was seen, and if it is ready, an own event may come
pub record Ordered (first : Look) (looks : List Look) (events : List Event) (heard : Look) (ready : Bool) : Type 0 where
  pub order : EventsFollowLooks first looks events
  pub readied : ready ≡ true → is_ready true order.records ≡ true
  pub version : (seen_in first order.records).version ≡ heard.version
  pub closed : (seen_in first order.records).closed ≡ heard.closed

abbrev pub Among : ℕ → List ℕ → Type 0
Among c ns = list_any (nat_eq c) ns ≡ true

-- Whatever socket, clock and recorder tell: the seat made looks and no other calls, of the same book. A shutdown that was heard of
-- stays so, and a new one was
-- shown by one of these looks. The count of failed sends rose if a failed one is known of since, and else it is the same.
pub record PassesOn {W R F : Type 0} (s s' : Running W R F) (f f' : ℕ) : Type 0 where
  pub looks : List Look
  pub made : LooksOnly s.seat.known looks s'.seat.known
  pub book : s'.seat.book ≡ s.seat.book
  pub over : s.heard.closed ≡ true → s'.heard.closed ≡ true
  pub shown : s'.heard.closed ≡ true → (s.heard.closed || list_any (λ l. l.closed) looks) ≡ true
  pub later : f ≤ f'
  pub rose : SendsRose s.send_failed s'.send_failed f f'

-- the count of failed receives rose if a receive or a round failed, and else it is the same
abbrev pub ReceivedSo : Result RecvOutcome No_memory → ℕ → ℕ → Type 0
ReceivedSo (Ok Failed_receive) r r' = Rose r r'
ReceivedSo (Ok Continue) r r' = r' ≡ r
ReceivedSo (Err e) r r' = r' ≡ r

-- a receive and a round begin one exchange at most, and none if the receive failed or none was made
abbrev pub ReceivedUpTo : Result RecvOutcome No_memory → ℕ → ℕ → Type 0
ReceivedUpTo (Ok Failed_receive) next next' = next' ≡ next
ReceivedUpTo (Ok Continue) next next' = next' ≤ next + 1
ReceivedUpTo (Err e) next next' = next' ≤ next + 1

abbrev pub RoundedUpTo : Option DgramEnd → ℕ → ℕ → Type 0
RoundedUpTo None next next' = next' ≤ next + 1
RoundedUpTo (Some Shutdown) next next' = next' ≡ next
RoundedUpTo (Some Counted) next next' = next' ≡ next
RoundedUpTo (Some Fault) next next' = next' ≡ next
RoundedUpTo (Some OutOfMemory) next next' = next' ≤ next + 1

-- that many datagrams may come, and one more if the loop ended by a shutdown or a fault
abbrev pub TakenBy : DgramEnd → ℕ → ℕ → Type 0
TakenBy Shutdown count next = MayCome count (next + 1)
TakenBy Counted count next = MayCome count next
TakenBy Fault count next = MayCome count (next + 1)
TakenBy OutOfMemory count next = MayCome count next

abbrev pub TakenSo : Option DgramEnd → ℕ → ℕ → Type 0
TakenSo None count next = MayCome count next
TakenSo (Some end) count next = TakenBy end count next

abbrev pub RoundedSo : Option DgramEnd → ℕ → ℕ → Type 0
RoundedSo None r r' = r' ≡ r
RoundedSo (Some end) r r' = ReceivesBy end r r'

-- Whatever they tell, up to the loop's end: that many datagrams came, the count of failed receives rose by a fault alone, and a
-- shutdown was heard of if it ended by one.
pub record PassesTo {W R F : Type 0} (end : DgramEnd) (count : ℕ) (s s' : Running W R F) (f f' r r' : ℕ) : Type 0 where
  pub passes : PassesOn s s' f f'
  pub taken : TakenBy end count s'.next
  pub receives : r ≤ r'
  pub cause : ReceivesBy end r r'
  pub closed : end ≡ Shutdown → s'.heard.closed ≡ true

-- what is so of the world before an event was noted, which is the last thing that was done
pub record SinceNoted (e : Event) (is : World → Type 0) (w : World) : Type 0 where
  pub since : (n : List Event) (c : List ClockReading) → EventDated e n w.noted c w.readings → is (record w { noted = n; readings = c })

module _ {W R F : Type 0} (answer : PolledRequest F R → ℕ → Answer) (answers : Serving) where
  -- what is kept is what the events left
  pub record ServesExchanges (settings : Settings) (events : List Event) (s : Running W R F) : Type 0 where
    pub each : (c : ℕ) → KeepsExchange answer answers (kept_at c s.exchanges.items) (slate answers settings c events)
    pub unused : (c : ℕ) → s.next ≤ c → (slate answers settings c events).phase ≡ Unused
    pub heard : conf settings events ≡ conf_of s.heard

  -- What was done from a start to now, by a first look. Of owed exchanges each waits for its Turn, and no other does. That many looks
  -- came to nothing, besides the one that an own event may follow.
  pub record Ran (first : Look) (start now : World) (s : Running W R F) (ready : Bool) (owed : List ℕ) (spare : ℕ) : Type 0 where
    pub looks : List Look
    pub events : List Event
    pub noted : now.noted ≡ start.noted ++ events
    pub seat : LooksOnly start.known (first ∷ looks) now.known
    pub plain : AllDatagramKinds events
    pub nobodys : WideAreNobodys events
    pub order : Ordered first looks events s.heard ready
    pub input : Input answers (settings_shown first) events (first ∷ looks)
        (spare + count_if ready) s.next start.sock_traffic now.sock_traffic
    pub waiting : (c : ℕ) → waits answers (settings_shown first) c events ≡ true → Among c owed
    pub clock : Clocked events start.readings now.readings start.sock_traffic.full_sends now.sock_traffic.full_sends
    pub output : Delivered answers (settings_shown first) events start.sock_traffic now.sock_traffic start.failed_sends now.failed_sends
    pub serves : ServesExchanges (settings_shown first) events s

  -- a step, wherever it began
  pub record LoopGoes (w : World) (s : Running W R F) (ready : Bool) (owed : List ℕ) (w' : World) (s' : Running W R F)
      (ready' : Bool) (owed' : List ℕ) : Type 0 where
    pub over : s.heard.closed ≡ true → s'.heard.closed ≡ true
    pub goes : (first : Look) (start : World) (spare : ℕ) → Ran first start w s ready owed spare → Ran first start w' s' ready' owed' spare

  -- running out of memory in a step, after which no more than that many datagrams were received
  pub record Breaks (most : ℕ) (w : World) (s : Running W R F) (ready : Bool) (owed : List ℕ) (w' : World) : Type 0 where
    pub breaks : (first : Look) (start : World) (spare count : ℕ) → MayCome count most → Ran first start w s ready owed spare
        → CutOff answers count start w'

  -- a look, whoever waits
  pub record TakesLook (w : World) (s : Running W R F) (w' : World) (s' : Running W R F) : Type 0 where
    pub goes : (owed : List ℕ) → LoopGoes w s false owed w' s' true owed

  -- a Turn of a client, after its look or with it
  pub record Turns (client : ℕ) (ready : Bool) (w : World) (s : Running W R F) (w' : World) (s' : Running W R F) : Type 0 where
    pub goes : (rest : List ℕ) → LoopGoes w s ready (client ∷ rest) w' s' false rest

  -- out of memory, whoever waits
  pub record StepFails (ready : Bool) (w : World) (s : Running W R F) (w' : World) : Type 0 where
    pub breaks : (owed : List ℕ) → Breaks s.next w s ready owed w'

  -- the front of a datagram that was received before this world is noted, and begins an exchange
  pub record BeginsExchange (octets : List ℕ) (from : SocketAddr) (w : World) (s : Running W R F) (w' : World)
      (s' : Running W R F) : Type 0 where
    pub goes : (whole : List ℕ) (m : SockTraffic) → octets ≡ take 1024 whole
        → w.sock_traffic ≡ record m { received = m.received ++ (record { octets = whole; addr = from }) ∷ [] }
        → LoopGoes (record w { sock_traffic = m }) s true [] w' s' false (numbers_of s'.exchanges.items)

  pub record BeginFails (octets : List ℕ) (from : SocketAddr) (w : World) (s : Running W R F) (w' : World) : Type 0 where
    pub breaks : (whole : List ℕ) (m : SockTraffic) → octets ≡ take 1024 whole
        → w.sock_traffic ≡ record m { received = m.received ++ (record { octets = whole; addr = from }) ∷ [] }
        → Breaks (s.next + 1) (record w { sock_traffic = m }) s true [] w'

  -- a receive; a round, before its look or after it; the rounds; and the last polls
  abbrev pub Receives : RecvOutcome → World → Running W R F → World → Running W R F → Type 0
  Receives Continue w s w' s' = LoopGoes w s true [] w' s' false (numbers_of s'.exchanges.items)
  Receives Failed_receive w s w' s' = LoopGoes w s true [] w' s' true []

  abbrev pub Rounded : Bool → ℕ → Option DgramEnd → World → Running W R F → World → Running W R F → Type 0
  Rounded ready count None w s w' s' = LoopGoes w s ready [] w' s' false []
  Rounded ready count (Some Shutdown) w s w' s' = LoopGoes w s ready [] w' s' true [] × (s'.heard.closed ≡ true)
  Rounded ready count (Some Counted) w s w' s' = (ready ≡ false) × LoopGoes w s false [] w' s' false [] × IsFull count s'.next
  Rounded ready count (Some Fault) w s w' s' = LoopGoes w s ready [] w' s' true []
  Rounded ready count (Some OutOfMemory) w s w' s' = MayCome count (s.next + 1) × Breaks (s.next + 1) w s ready [] w'

  -- the rounds and what comes after them, with one look at most that came to nothing
  pub record Idles (w : World) (s : Running W R F) (w' : World) (s' : Running W R F) : Type 0 where
    pub over : s.heard.closed ≡ true → s'.heard.closed ≡ true
    pub goes : (first : Look) (start : World) (spare : ℕ) → Ran first start w s false [] spare → Ran first start w' s' false [] (1 + spare)

  -- running out of memory in them, if that many datagrams were to come
  pub record CutsOff (count : ℕ) (w : World) (s : Running W R F) (w' : World) : Type 0 where
    pub most : ℕ
    pub may_come : MayCome count most
    pub breaks : Breaks most w s false [] w'

  abbrev pub Stopped : DgramEnd → ℕ → World → Running W R F → World → Running W R F → Type 0
  Stopped Shutdown count w s w' s' = Idles w s w' s' × (s'.heard.closed ≡ true)
  Stopped Counted count w s w' s' = Idles w s w' s' × IsFull count s'.next
  Stopped Fault count w s w' s' = Idles w s w' s'
  Stopped OutOfMemory count w s w' s' = CutsOff count w s w'

  pub record Finished (w : World) (s : Running W R F) (w' : World) (s' : Running W R F) : Type 0 where
    pub goes : LoopGoes w s false [] w' s' false []
    pub none : (c : ℕ) → kept_at c s'.exchanges.items ≡ []

  abbrev pub Ended : DgramEnd → ℕ → World → Running W R F → World → Running W R F → Type 0
  Ended Shutdown count w s w' s' = Idles w s w' s' × (s'.heard.closed ≡ true) × ((c : ℕ) → kept_at c s'.exchanges.items ≡ [])
  Ended Counted count w s w' s' = Idles w s w' s' × IsFull count s'.next × ((c : ℕ) → kept_at c s'.exchanges.items ≡ [])
  Ended Fault count w s w' s' = Idles w s w' s'
  Ended OutOfMemory count w s w' s' = CutsOff count w s w'

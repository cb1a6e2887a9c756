-- How the parts of the loop of datagrams follow each other, and how it ends.
use Rattle.std.proofs.Common.{◌≡◌, ℕ, ◌+◌, ◌-◌, ◌^◌, ◌≤◌, ◌<◌, min, List, [], ◌∷◌, ◌++◌, length, take, Bool, true, false, refl, sym, ◌∙◌, arith}
use Rattle.std.specs.Prelude.{Option, Some, None, nat_eq}
use Rattle.std.specs.List.{list_any}
use Rattle.std.specs.VecDeque.{deque_len}
use Rattle.std.proofs.lemmas.List.{nil_from_length, take_min}
use Rattle.dns_name.specs.declared.address.SocketAddr.{SocketAddr}
use Rattle.dns_events.specs.declared.look.Look.{Look}
use Rattle.dns_book.specs.declared.history.Known.{Known}
use Rattle.dns_io.specs.SockTraffic.{SockTraffic, Received}
use Rattle.dns_service.specs.Answer.{Answer}
use Rattle.dns_events.specs.declared.event.Event.{Event}
use Rattle.dns_service.specs.declared.polled.PolledRequest.{PolledRequest}
use Rattle.dns_session.specs.Serving.{Serving}
use Rattle.dns_recorder.specs.Clocks.{ClockReading}
use Rattle.dns_dgram_driver.specs.Sent.{settings_shown, count_if}
use Rattle.dns_dgram_driver.specs.DatagramsServed.{World, world, IsFull, MayCome}
use Rattle.dns_dgram_driver.specs.Steps.{kept_at, numbers_of}
use Rattle.dns_dgram_driver.specs.Rounds.{Among, Ran, Ordered, LoopGoes, Breaks, TakesLook, Turns, StepFails, BeginsExchange, BeginFails, Rounded, Idles, CutsOff, Stopped, Finished}
use Rattle.dns_dgram_driver.specs.declared.serving.DgramEnd.{DgramEnd}
use Rattle.dns_dgram_driver.specs.declared.serving.DgramEnd.TheVariants.{Shutdown, Counted, Fault, OutOfMemory}
use Rattle.dns_dgram_driver.specs.declared.running.Running.{Running}
use Rattle.dns_dgram_driver.proofs.Counts.{may_come_any, may_come_less}
use Rattle.dns_dgram_driver.proofs.EventOrder.{ordered_rest}
use Rattle.dns_dgram_driver.proofs.Parts.{input_same, delivered_same}

take_least : (d : List ℕ) (n : ℕ) → n ≡ min (length d) 1024 → take n d ≡ take 1024 d
take_least d n m = let e : n ≡ min 1024 (length d) = omega arith in rw e (take_min 1024 d)

-- what a buffer of 1,024 octets holds of a datagram
front_of : (d : List ℕ) (n size : ℕ) (front : List ℕ) → size ≡ 1024 → n ≡ min (length d) size → front ≡ take n d → front ≡ take 1024 d
front_of d n size front z m e = e ∙ take_least d n (rw z at m)

never : (a b : Bool) → a ≡ false → a ≡ true → b ≡ true
never a b e h = cc

nobody : (c : ℕ) (ns : List ℕ) → Among c [] → Among c ns
nobody c ns h = never (list_any (nat_eq c) []) (list_any (nat_eq c) ns) refl h

module _ {W R F : Type 0} (answer : PolledRequest F R → ℕ → Answer) (answers : Serving) where
  pub goes_then : {w w1 w2 : World} {s s1 s2 : Running W R F} {a b c : Bool} {xs ys zs : List ℕ} → LoopGoes answer answers w s a xs w1 s1 b ys → LoopGoes answer answers w1 s1 b ys w2 s2 c zs → LoopGoes answer answers w s a xs w2 s2 c zs
  goes_then p q = record { over = λ h. q.over (p.over h); goes = λ first start spare r. q.goes first start spare (p.goes first start spare r) }

  pub breaks_then : {n n' : ℕ} {w w1 w2 : World} {s s1 : Running W R F} {a b : Bool} {xs ys : List ℕ} → n ≤ n' → LoopGoes answer answers w s a xs w1 s1 b ys → Breaks answer answers n w1 s1 b ys w2 → Breaks answer answers n' w s a xs w2
  breaks_then l p q = record { breaks = λ first start spare count may r. q.breaks first start spare count (may_come_less l may) (p.goes first start spare r) }

  pub goes_same : {w : World} {s : Running W R F} {a : Bool} {xs : List ℕ} → LoopGoes answer answers w s a xs w s a xs
  goes_same = record { over = λ h. h; goes = λ first start spare r. r }

  -- No more was done, but that receives gave none: of the looks before them that stood ready one each is spare no more. What stands
  -- ready and who is owed may be said otherwise.
  ran_as : {first : Look} {start now : World} {s : Running W R F} {ready ready' : Bool} {owed owed' : List ℕ} {spare spare' : ℕ} (m : SockTraffic)
      → m.received ≡ now.sock_traffic.received → m.sent ≡ now.sock_traffic.sent → m.full_sends ≡ now.sock_traffic.full_sends → spare + count_if ready + now.sock_traffic.empty_receives ≤ spare' + count_if ready' + m.empty_receives
      → ((looks : List Look) (events : List Event) → Ordered first looks events s.heard ready → Ordered first looks events s.heard ready') → ((c : ℕ) → Among c owed → Among c owed')
      → Ran answer answers first start now s ready owed spare → Ran answer answers first start (record now { sock_traffic = m }) s ready' owed' spare'
  ran_as {first} {start} {now} {s} {ready} {ready'} {owed} {owed'} {spare} {spare'} m received sent full more order among r = record {
    looks = r.looks;
    events = r.events;
    noted = r.noted;
    seat = r.seat;
    plain = r.plain;
    nobodys = r.nobodys;
    serves = r.serves;
    order = order r.looks r.events r.order;
    input = input_same answers (settings_shown first) r.events (first ∷ r.looks) (spare + count_if ready) (spare' + count_if ready') s.next start.sock_traffic now.sock_traffic m received more r.input;
    waiting = λ c h. among c (r.waiting c h);
    clock = rw full r.clock;
    output = delivered_same answers (settings_shown first) r.events start.sock_traffic now.sock_traffic m start.failed_sends now.failed_sends sent full r.output;
  }

  -- if nobody waits, any may be owed
  pub goes_owing : {w : World} {s : Running W R F} (ns : List ℕ) → LoopGoes answer answers w s false [] w s false ns
  goes_owing {w} {s} ns = record { over = λ h. h; goes = λ first start spare r. ran_as {spare = spare} {spare' = spare} w.sock_traffic refl refl refl (omega arith) (λ looks events o. o) (λ c. nobody c ns) r }

  -- ---- the polls of some exchanges

  pub polls_fail : {w w1 w2 : World} {s s1 : Running W R F} {a b : Bool} {xs ys : List ℕ} → s1.next ≡ s.next → LoopGoes answer answers w s a xs w1 s1 b ys → Breaks answer answers s1.next w1 s1 b ys w2 → Breaks answer answers s.next w s a xs w2
  polls_fail {s = s} {s1 = s1} e p q = let l : s1.next ≤ s.next = omega arith in breaks_then l p q

  pub goes_left : {w w1 : World} {s s1 : Running W R F} {a : Bool} {ns ms : List ℕ} → ms ≡ [] → LoopGoes answer answers w s a ns w1 s1 false ms → LoopGoes answer answers w s a ns w1 s1 false []
  goes_left e g = rw e at g

  -- the first one's, whoever is owed after it
  pub goes_first : {w w1 : World} {s s1 : Running W R F} {first : List ℕ} {n : ℕ} → first ≡ n ∷ [] → Turns answer answers n false w s w1 s1 → (rest : List ℕ) → LoopGoes answer answers w s false (first ++ rest) w1 s1 false rest
  goes_first e t rest = rw e (t.goes rest)

  pub goes_next : {w w1 : World} {s s1 : Running W R F} (first : List ℕ) {rest ns : List ℕ} → ns ≡ first ++ rest → ((others : List ℕ) → LoopGoes answer answers w s false (first ++ others) w1 s1 false others) → LoopGoes answer answers w s false ns w1 s1 false rest
  goes_next first {rest = rest} e t = rw e (t rest)

  -- ---- waits and receives

  -- the socket waited, by which the clock's latest reading is old
  pub goes_waited : {n : List Event} {m m1 : SockTraffic} {f f1 : ℕ} {c c1 : List ClockReading} {k : Known} {s s1 : Running W R F} {w : World} {a b : Bool} {xs ys : List ℕ} → f1 ≡ f → m1 ≡ m → c1 ≡ c
      → LoopGoes answer answers (world n m1 f1 c1 k) s a xs w s1 b ys → LoopGoes answer answers (world n m f c k) s a xs w s1 b ys
  goes_waited e g h p = rw (← e, ← g, ← h) p

  pub breaks_waited : {most : ℕ} {n : List Event} {m m1 : SockTraffic} {f f1 : ℕ} {c c1 : List ClockReading} {k : Known} {s : Running W R F} {w : World} {a : Bool} {xs : List ℕ} → f1 ≡ f → m1 ≡ m → c1 ≡ c
      → Breaks answer answers most (world n m1 f1 c1 k) s a xs w → Breaks answer answers most (world n m f c k) s a xs w
  breaks_waited e g h p = rw (← e, ← g, ← h) p

  pub received_failed : {n : List Event} {m m1 : SockTraffic} {f f1 : ℕ} {c : List ClockReading} {k : Known} {s : Running W R F} → f1 ≡ f → m1 ≡ m → LoopGoes answer answers (world n m f c k) s true [] (world n m1 f1 c k) s true []
  received_failed e g = rw (e, g) goes_same

  pub received_again : {n : List Event} {m m1 m2 : SockTraffic} {f f1 : ℕ} {c c1 : List ClockReading} {k : Known} {s : Running W R F} → f1 ≡ f → m1 ≡ record m { empty_receives = m.empty_receives + 1 } → m2 ≡ m1 → c1 ≡ c
      → LoopGoes answer answers (world n m f c k) s true [] (world n m2 f1 c1 k) s false (numbers_of s.exchanges.items)
  received_again {n} {m} {m1} {m2} {f} {f1} {c} {c1} {k} {s} e g h o =
      let i = h ∙ g in
      let none : m2.empty_receives ≡ m.empty_receives + 1 = rw i refl in rw (e, o) (record {
        over = λ x. x;
        goes = λ first start spare r.
            let more : spare + 1 + m.empty_receives ≤ spare + 0 + m2.empty_receives = omega arith in
            ran_as m2 (rw i refl) (rw i refl) (rw i refl) more (λ looks events. ordered_rest first looks events s.heard true) (λ d. nobody d (numbers_of s.exchanges.items)) r;
      })

  pub got_goes : {n0 : List Event} {m m1 : SockTraffic} {f f1 : ℕ} {c : List ClockReading} {k : Known} {s s1 : Running W R F} {w : World} {n : ℕ} {buf : List ℕ} {from : SocketAddr} → f1 ≡ f → length buf ≡ 1024 → Received n from buf m m1
      → BeginsExchange answer answers (take n buf) from (world n0 m1 f1 c k) s w s1 → LoopGoes answer answers (world n0 m f c k) s true [] w s1 false (numbers_of s1.exchanges.items)
  got_goes {m = m} {n = n} {buf = buf} e z x b = rw (← e) (b.goes x.octets m (front_of x.octets n (length buf) (take n buf) z x.count x.front) x.more)

  pub got_fails : {n0 : List Event} {m m1 : SockTraffic} {f f1 : ℕ} {c : List ClockReading} {k : Known} {s : Running W R F} {w : World} {n : ℕ} {buf : List ℕ} {from : SocketAddr} → f1 ≡ f → length buf ≡ 1024 → Received n from buf m m1
      → BeginFails answer answers (take n buf) from (world n0 m1 f1 c k) s w → Breaks answer answers (s.next + 1) (world n0 m f c k) s true [] w
  got_fails {m = m} {n = n} {buf = buf} e z x b = rw (← e) (b.breaks x.octets m (front_of x.octets n (length buf) (take n buf) z x.count x.front) x.more)

  -- ---- rounds

  pub look_goes : {w w1 w2 : World} {s s1 s2 : Running W R F} {b : Bool} {ns : List ℕ} → TakesLook answer answers w s w1 s1 → LoopGoes answer answers w1 s1 true [] w2 s2 b ns → LoopGoes answer answers w s false [] w2 s2 b ns
  look_goes a b = goes_then (a.goes []) b

  -- memory ran out after the look
  look_breaks : {w w1 w2 : World} {s s1 : Running W R F} → s1.next ≡ s.next → TakesLook answer answers w s w1 s1 → Breaks answer answers (s1.next + 1) w1 s1 true [] w2 → Breaks answer answers (s.next + 1) w s false [] w2
  look_breaks {s = s} {s1 = s1} e a b = let l : s1.next + 1 ≤ s.next + 1 = omega arith in breaks_then l (a.goes []) b

  pub look_rounds : (end : Option DgramEnd) {w w1 : World} {s s1 : Running W R F} (w2 : World) (s2 : Running W R F) (count : ℕ) → s1.next ≡ s.next → MayCome count (s.next + 1) → TakesLook answer answers w s w1 s1 → Rounded answer answers true 0 end w1 s1 w2 s2 → Rounded answer answers false count end w s w2 s2
  look_rounds None w2 s2 count e may a b = look_goes a b
  look_rounds (Some Shutdown) w2 s2 count e may a b = (look_goes a b.0, b.1)
  look_rounds (Some Counted) w2 s2 count e may a b = absurd (cc b.0)
  look_rounds (Some Fault) w2 s2 count e may a b = look_goes a b
  look_rounds (Some OutOfMemory) w2 s2 count e may a b = (may, look_breaks e a b.1)

  pub look_fails : {count : ℕ} {w w1 : World} {s : Running W R F} → MayCome count (s.next + 1) → StepFails answer answers false w s w1 → MayCome count (s.next + 1) × Breaks answer answers (s.next + 1) w s false [] w1
  look_fails {s = s} may a = let l : s.next ≤ s.next + 1 = omega arith in (may, breaks_then l goes_same (a.breaks []))

  -- memory ran out at the receive, or at the polls after it
  pub pass_fails : {w w1 : World} {s : Running W R F} {a : Bool} {xs : List ℕ} → s.next < 2 ^ 64 - 1 → Breaks answer answers (s.next + 1) w s a xs w1 → MayCome 0 (s.next + 1) × Breaks answer answers (s.next + 1) w s a xs w1
  pass_fails l b = (may_come_any l, b)

  pub pass_breaks : {w w1 w2 : World} {s s1 : Running W R F} {a b : Bool} {xs ys : List ℕ} → s.next < 2 ^ 64 - 1 → s1.next ≤ s.next + 1 → LoopGoes answer answers w s a xs w1 s1 b ys → Breaks answer answers s1.next w1 s1 b ys w2
      → MayCome 0 (s.next + 1) × Breaks answer answers (s.next + 1) w s a xs w2
  pass_breaks l e p q = pass_fails l (breaks_then e p q)

  -- ---- ends

  -- the look isn't needed any more
  pub ran_rest : {first : Look} {start now : World} {s : Running W R F} {owed : List ℕ} {spare : ℕ} → Ran answer answers first start now s true owed spare → Ran answer answers first start now s false owed (1 + spare)
  ran_rest {first} {start} {now} {s} {owed} {spare} r =
      let more : spare + 1 + now.sock_traffic.empty_receives ≤ 1 + spare + 0 + now.sock_traffic.empty_receives = omega arith in
      ran_as now.sock_traffic refl refl refl more (λ looks events. ordered_rest first looks events s.heard true) (λ c h. h) r

  ran_spare : {first : Look} {start now : World} {s : Running W R F} {owed : List ℕ} {spare : ℕ} → Ran answer answers first start now s false owed spare → Ran answer answers first start now s false owed (1 + spare)
  ran_spare {first} {start} {now} {s} {owed} {spare} r =
      let more : spare + 0 + now.sock_traffic.empty_receives ≤ 1 + spare + 0 + now.sock_traffic.empty_receives = omega arith in
      ran_as now.sock_traffic refl refl refl more (λ looks events o. o) (λ c h. h) r

  pub idles_goes : {w w1 : World} {s s1 : Running W R F} → LoopGoes answer answers w s false [] w1 s1 false [] → Idles answer answers w s w1 s1
  idles_goes a = record { over = a.over; goes = λ first start spare r. ran_spare (a.goes first start spare r) }

  pub idles_then : {w w1 w2 : World} {s s1 s2 : Running W R F} → LoopGoes answer answers w s false [] w1 s1 false [] → LoopGoes answer answers w1 s1 false [] w2 s2 true [] → Idles answer answers w s w2 s2
  idles_then a b = record { over = λ h. b.over (a.over h); goes = λ first start spare r. ran_rest (b.goes first start spare (a.goes first start spare r)) }

  stopped_by : (end : DgramEnd) {w w1 : World} {s s1 : Running W R F} (w2 : World) (s2 : Running W R F) (count : ℕ) → LoopGoes answer answers w s false [] w1 s1 false [] → Rounded answer answers false count (Some end) w1 s1 w2 s2 → Stopped answer answers end count w s w2 s2
  stopped_by Shutdown w2 s2 count a b = (idles_then a b.0, b.1)
  stopped_by Counted w2 s2 count a b = (idles_goes (goes_then a b.1), b.2)
  stopped_by Fault w2 s2 count a b = idles_then a b
  stopped_by OutOfMemory {s1 = s1} w2 s2 count a b = let l : s1.next + 1 ≤ s1.next + 1 = omega arith in record { most = s1.next + 1; may_come = b.0; breaks = breaks_then l a b.1 }

  -- the rounds end with one of them
  pub stopped_at : (r : Option DgramEnd) (end : DgramEnd) {w w1 : World} {s s1 : Running W R F} (w2 : World) (s2 : Running W R F) (count : ℕ) → r ≡ Some end → LoopGoes answer answers w s false [] w1 s1 false [] → Rounded answer answers false count r w1 s1 w2 s2 → Stopped answer answers end count w s w2 s2
  stopped_at r end w2 s2 count e a b = stopped_by end w2 s2 count a (rw e at b)

  -- each is polled once more; the socket may have waited before that
  pub finish_more : {w w1 w2 : World} {s s1 s2 : Running W R F} → LoopGoes answer answers w s false [] w1 s1 false [] → LoopGoes answer answers w1 s1 false (numbers_of s1.exchanges.items) w2 s2 false [] → LoopGoes answer answers w s false [] w2 s2 false []
  finish_more {s1 = s1} a b = goes_then a (goes_then (goes_owing (numbers_of s1.exchanges.items)) b)

  pub finish_fails : {w w1 w2 : World} {s s1 : Running W R F} → s1.next ≡ s.next → LoopGoes answer answers w s false [] w1 s1 false [] → Breaks answer answers s1.next w1 s1 false (numbers_of s1.exchanges.items) w2 → Breaks answer answers s.next w s false [] w2
  finish_fails {s1 = s1} e a b = polls_fail e (goes_then a (goes_owing (numbers_of s1.exchanges.items))) b

  pub idles_finish : {w w1 w2 : World} {s s1 s2 : Running W R F} → Idles answer answers w s w1 s1 → Finished answer answers w1 s1 w2 s2 → Idles answer answers w s w2 s2
  idles_finish a b = record { over = λ h. b.goes.over (a.over h); goes = λ first start spare r. b.goes.goes first start (1 + spare) (a.goes first start spare r) }

  pub end_fails : {count : ℕ} {w w1 w2 : World} {s s1 : Running W R F} {q : Type 0} → MayCome count s1.next → Idles answer answers w s w1 s1 × q → Breaks answer answers s1.next w1 s1 false [] w2 → CutsOff answer answers count w s w2
  end_fails {s1 = s1} may a b = record { most = s1.next; may_come = may; breaks = record { breaks = λ first start spare count h r. b.breaks first start (1 + spare) count h (a.0.goes first start spare r) } }

  pub end_shutdown : {w w1 w2 : World} {s s1 s2 : Running W R F} → Idles answer answers w s w1 s1 × (s1.heard.closed ≡ true) → Finished answer answers w1 s1 w2 s2
      → Idles answer answers w s w2 s2 × (s2.heard.closed ≡ true) × ((c : ℕ) → kept_at c s2.exchanges.items ≡ [])
  end_shutdown a b = (idles_finish a.0 b, b.goes.over a.1, b.none)

  pub end_count : {w w1 w2 : World} {s s1 s2 : Running W R F} {count : ℕ} → s2.next ≡ s1.next → Idles answer answers w s w1 s1 × IsFull count s1.next → Finished answer answers w1 s1 w2 s2
      → Idles answer answers w s w2 s2 × IsFull count s2.next × ((c : ℕ) → kept_at c s2.exchanges.items ≡ [])
  end_count e a b = (idles_finish a.0 b, rw e a.1, b.none)

  pub finished_by : {w w1 : World} {s s1 : Running W R F} → deque_len s1.exchanges ≡ 0 → LoopGoes answer answers w s false [] w1 s1 false [] → Finished answer answers w s w1 s1
  finished_by {s1 = s1} h a = record { goes = a; none = λ c. rw (nil_from_length s1.exchanges.items (sym s1.exchanges.ok.0 ∙ h)) refl }

-- What the functions of the loop of datagrams do, wherever it began: looks, Turns and Datagrams.
use Rattle.std.proofs.Common.{◌≡◌, ◌≢◌, ℕ, ◌+◌, List, [], ◌∷◌, ◌++◌, length, take, Bool, true, false, refl, ap, sym, ◌∙◌, append_assoc, append-nil, arith, length-append}
use Rattle.std.specs.Prelude.{Option, None, nat_eq, not, ◌&&◌, ◌||◌}
use Rattle.std.specs.List.{list_any}
use Rattle.std.proofs.lemmas.Bool.Decides.{nat_tests}
use Rattle.dns_name.specs.declared.address.SocketAddr.{SocketAddr}
use Rattle.dns_events.specs.declared.look.Look.{Look}
use Rattle.dns_admission.specs.declared.call.Call.TheVariants.{Look as ToLook}
use Rattle.dns_admission.specs.declared.call.Reply.TheVariants.{Look as Shown}
use Rattle.dns_book.specs.Seats.{Called}
use Rattle.dns_book.specs.declared.history.Known.{Known}
use Rattle.dns_io.specs.SockTraffic.{SockTraffic}
use Rattle.dns_io.specs.declared.sock.Packet.{Packet}
use Rattle.dns_service.specs.Answer.{Answer}
use Rattle.dns_events.specs.declared.event.Event.{Event}
use Rattle.dns_events.specs.declared.event.EventKind.TheVariants.{Datagram, Turn}
use Rattle.dns_service.specs.declared.polled.PolledRequest.{PolledRequest}
use Rattle.dns_session.specs.Serving.{Serving}
use Rattle.dns_session.specs.Slate.{Slate}
use Rattle.dns_recorder.specs.Sent.{slate}
use Rattle.dns_recorder.specs.Clocks.{ClockReading}
use Rattle.dns_recorder.specs.Notes.{NotedWide}
use Rattle.dns_dgram_driver.specs.Events.{IsOwnKind, IsDatagramKind, AllDatagramKinds, WideAreNobodys, packets_in, cut_packets, numbers_in}
use Rattle.dns_dgram_driver.specs.Polled.{is_finished, waits}
use Rattle.dns_dgram_driver.specs.Sent.{settings_shown, count_if}
use Rattle.dns_dgram_driver.specs.DatagramsServed.{World, world, LooksOnly, CutOff, MayCome}
use Rattle.dns_dgram_driver.specs.Steps.{hears, NewsNoted, EventDated, head_of, SendsOrFaults, Unsent, one_or_none, KeepsExchange, TurnedExchange, Begun, kept_at, numbers_of}
use Rattle.dns_dgram_driver.specs.Rounds.{Among, Ran, TakesLook, Turns, StepFails, BeginsExchange, BeginFails}
use Rattle.dns_dgram_driver.specs.declared.running.KeptExchange.{KeptExchange}
use Rattle.dns_dgram_driver.specs.declared.running.Running.{Running}
use Rattle.dns_dgram_driver.proofs.Counts.{came_number, may_come_is}
use Rattle.dns_dgram_driver.proofs.WideEvents.{all_nobodys, own_nobodys}
use Rattle.dns_dgram_driver.proofs.EventOrder.{hears_closed}
use Rattle.dns_dgram_driver.proofs.Parts.{input_turn, input_datagram}
use Rattle.dns_dgram_driver.proofs.Quiet.{AllQuiet, all_wide_quiet, quiet_kind, packets_quiet, numbers_quiet}
use Rattle.dns_dgram_driver.proofs.ReceivedAndPolled.{packets_in_more, numbers_in_more, cut_packets_more, numbers_below_more, waits_more}
use Rattle.dns_dgram_driver.proofs.Runs.{ran_look, ran_act, cut_off}
use Rattle.dns_dgram_driver.proofs.Seats.{looks_none, looks_one}
use Rattle.dns_dgram_driver.proofs.KeptExchanges.{TypeOf, serves_turn, posted_turn, serves_datagram, posted_datagram}

all_quiet_plain : (es : List Event) → AllQuiet es → AllDatagramKinds es
all_quiet_plain [] a = tt
all_quiet_plain (e ∷ es) a = ((quiet_kind e.kind a.0).plain, all_quiet_plain es a.1)

or_true : (a b : Bool) → a ≡ true → (a || b) ≡ true
or_true true b h = refl
or_true false b h = cc

and_left : (a b : Bool) → (a && b) ≡ true → a ≡ true
and_left true b h = refl
and_left false b h = h

and_not : (a b : Bool) → (a && not b) ≡ true → b ≡ false
and_not true true h = sym h
and_not true false h = refl
and_not false b h = cc

and_true : (b : Bool) → (b && true) ≡ b
and_true true = refl
and_true false = refl

waits_turn_is : (w b : Bool) → (w && not (b && nat_eq 0 0)) ≡ (w && not b)
waits_turn_is w b = ap (λ a. w && not a) (and_true b)

not_true : (a : Bool) → not a ≡ true → a ≡ false
not_true true h = cc
not_true false h = refl

nobody : (a : Bool) → (a ≡ true → false ≡ true) → a ≡ false
nobody true h = sym (h refl)
nobody false h = refl

or_none : (a b : Bool) → (a || b) ≡ false → (a ≡ false) × (b ≡ false)
or_none true b h = cc
or_none false b h = (refl, h)

sure : (a : Bool) → (a ≡ false → ⊥) → a ≡ true
sure true h = refl
sure false h = absurd (h refl)

-- what is kept has a number
kept_nowhere : {W R F : Type 0} (xs : List (KeptExchange W R F)) (c : ℕ) → list_any (nat_eq c) (numbers_of xs) ≡ false → kept_at c xs ≡ []
kept_nowhere [] c h = refl
kept_nowhere (x ∷ xs) c h = let z = or_none (nat_eq c x.number) (list_any (nat_eq c) (numbers_of xs)) h in rw z.0 (kept_nowhere xs c z.1)

turn_own : (e : Event) → e.kind ≡ Turn 0 → IsOwnKind e.kind
turn_own e h = rw h refl

datagram_own : (e : Event) (from : SocketAddr) (octets : List ℕ) → e.kind ≡ Datagram from octets → IsOwnKind e.kind
datagram_own e from octets h = rw h tt

turn_plain : (e : Event) → e.kind ≡ Turn 0 → IsDatagramKind e.kind
turn_plain e h = rw h refl

datagram_plain : (e : Event) (from : SocketAddr) (octets : List ℕ) → e.kind ≡ Datagram from octets → IsDatagramKind e.kind
datagram_plain e from octets h = rw h tt

behind : (a d : ℕ) (ns : List ℕ) → nat_eq a d ≡ false → Among d (a ∷ ns) → Among d ns
behind a d ns h g = let ne : nat_eq d a ≡ false = grind (arith, nat_tests, h) in rw ne at g

packets_turn : (q : List Event) (e : Event) → e.kind ≡ Turn 0 → packets_in (q ++ e ∷ []) ≡ packets_in q
packets_turn q e h = rw (packets_in_more q e, h) (append-nil (packets_in q))

numbers_turn : (q : List Event) (e : Event) → e.kind ≡ Turn 0 → numbers_in (q ++ e ∷ []) ≡ numbers_in q
numbers_turn q e h = rw (numbers_in_more q e, h) (append-nil (numbers_in q))

module _ {W R F : Type 0} (answer : PolledRequest F R → ℕ → Answer) (answers : Serving) where
  -- memory ran out after events that are no Datagrams
  cut_same : (first : Look) (start : World) (n n' : List Event) (m m' : SockTraffic) (f f' : ℕ) (c c' : List ClockReading) (k k' : Known) (s : Running W R F) (ready : Bool) (owed : List ℕ) (spare : ℕ)
      (es : List Event) (ls : List Look) (count : ℕ) → MayCome count s.next → n' ≡ n ++ es → AllDatagramKinds es → WideAreNobodys es → LooksOnly k ls k' → m'.sent ≡ m.sent → m'.received ≡ m.received
      → (r : Ran answer answers first start (world n m f c k) s ready owed spare)
      → packets_in (r.events ++ es) ≡ packets_in r.events → numbers_in (r.events ++ es) ≡ numbers_in r.events → CutOff answers count start (world n' m' f' c' k')
  cut_same first start n n' m m' f f' c c' k k' s ready owed spare es ls count may h plain nobodys l sent received r ln nn =
      cut_off answer answers first start n n' m m' f f' c c' k k' s ready owed spare es ls r.input.came [] s.next count
      (may_come_is (came_number answers (settings_shown first) r.events (first ∷ r.looks) (spare + count_if ready) s.next start.sock_traffic m r.input) may) h plain nobodys l sent (received ∙ r.input.received) r
      (sym (append-nil (packets_in (r.events ++ es)) ∙ ln ∙ r.input.recorded)) (nn ∙ r.input.numbered)

  -- ---- looks

  pub looks_by : {n n' : List Event} {m : SockTraffic} {f : ℕ} {c c' : List ClockReading} {k k' : Known} (s : Running W R F) {look : Look} (seat : TypeOf s.seat) → Called k ToLook (Shown look) k' → NewsNoted s.heard look n n' c c'
      → TakesLook answer answers (world n m f c k) s (world n' m f c' k') (record s { heard = hears s.heard look; seat = seat })
  looks_by {n} {n'} {m} {f} {c} {c'} {k} {k'} s {look} seat l x = record {
    goes = λ owed. record {
      over = λ h. hears_closed s.heard look ∙ or_true s.heard.closed look.closed h;
      goes = λ first start spare r. ran_look answer answers first start n n' m f c c' k k' s seat owed spare look x (looks_one k k' look l) r;
    };
  }

  pub fails_look : {n n' : List Event} {m : SockTraffic} {f : ℕ} {c c' : List ClockReading} {k k' : Known} (s : Running W R F) {look : Look} → Called k ToLook (Shown look) k' → NotedWide n n'
      → StepFails answer answers false (world n m f c k) s (world n' m f c' k')
  fails_look {n} {n'} {m} {f} {c} {c'} {k} {k'} s {look} l x = record {
    breaks = λ owed. record {
      breaks = λ first start spare count may r.
          let quiet = all_wide_quiet x.events x.wide in
          cut_same first start n n' m m f f c c' k k' s false owed spare x.events (look ∷ []) count may x.noted (all_quiet_plain x.events quiet) (all_nobodys x.events x.nobodys) (looks_one k k' look l) refl refl r
          (packets_quiet r.events x.events r.plain quiet) (numbers_quiet r.events x.events r.plain quiet);
    };
  }

  -- ---- Turns

  pub turns_by : {n n1 n' : List Event} {m m' : SockTraffic} {f f' : ℕ} {c c1 c' : List ClockReading} {k : Known} (s : Running W R F) {number : ℕ} {e : Event} {packet : Option Packet} {x : TypeOf s.exchanges} {send_failed : Bool}
      → e.client ≡ number → e.kind ≡ Turn 0 → TurnedExchange answer answers (kept_at e.client s.exchanges.items) packet (kept_at e.client x.items) → ((d : ℕ) → d ≢ e.client → kept_at d x.items ≡ kept_at d s.exchanges.items)
      → EventDated e n n1 c c1 → SendsOrFaults (head_of e) (one_or_none packet) s.heard.dgram.write_timeout n1 n' m m' f f' c1 c'
      → Turns answer answers number true (world n m f c k) s (world n' m' f' c' k) (record s { exchanges = x; send_failed = send_failed })
  turns_by {n} {n1} {n'} {m} {m'} {f} {f'} {c} {c1} {c'} {k} s {number} {e} {packet} {x} {send_failed} of kind turned others t sends = record {
    goes = λ rest. record {
      over = λ h. h;
      goes = λ first start spare r.
          let settings = settings_shown first in
          ran_act answer answers first start n n1 n' m m m' f f' c c1 c' k s (number ∷ rest) rest spare e (one_or_none packet) x s.next send_failed (turn_own e kind) t sends refl refl r
          (posted_turn answer answers settings r.events s e packet (kept_at e.client x.items) r.plain kind turned r.serves)
          (input_turn answers settings r.events e (first ∷ r.looks) (spare + 1) (spare + 0) s.next start.sock_traffic m kind (omega arith) r.input)
          (λ d h. let g : (waits answers settings d r.events && not (nat_eq number d)) ≡ true = sym (waits_more answers settings d r.events e ∙ rw (kind, of) (waits_turn_is (waits answers settings d r.events) (nat_eq number d))) ∙ h in
          behind number d rest (and_not (waits answers settings d r.events) (nat_eq number d) g) (r.waiting d (and_left (waits answers settings d r.events) (not (nat_eq number d)) g)))
          (serves_turn answer answers settings r.events s e packet x r.plain kind turned others r.serves);
    };
  }

  pub fails_same : {n n' : List Event} {m m' : SockTraffic} {f f' : ℕ} {c c' : List ClockReading} {k : Known} (s : Running W R F) {ready : Bool} → Unsent n n' m m' → StepFails answer answers ready (world n m f c k) s (world n' m' f' c' k)
  fails_same {n} {n'} {m} {m'} {f} {f'} {c} {c'} {k} s {ready} u = record {
    breaks = λ owed. record {
      breaks = λ first start spare count may r.
          cut_same first start n n' m m' f f' c c' k k s ready owed spare [] [] count may (u.noted ∙ sym (append-nil n)) tt tt (looks_none k) u.sent u.received r (ap packets_in (append-nil r.events)) (ap numbers_in (append-nil r.events));
    };
  }

  -- a Turn was noted
  pub fails_turn : {n n1 n' : List Event} {m m' : SockTraffic} {f f' : ℕ} {c c1 c' : List ClockReading} {k : Known} (s : Running W R F) {ready : Bool} {e : Event} → e.kind ≡ Turn 0 → EventDated e n n1 c c1 → Unsent n1 n' m m'
      → StepFails answer answers ready (world n m f c k) s (world n' m' f' c' k)
  fails_turn {n} {n1} {n'} {m} {m'} {f} {f'} {c} {c1} {c'} {k} s {ready} {e} kind t u = record {
    breaks = λ owed. record {
      breaks = λ first start spare count may r.
          cut_same first start n n' m m' f f' c c' k k s ready owed spare (e ∷ []) [] count may (u.noted ∙ t.noted) (turn_plain e kind, tt) (own_nobodys e None (turn_own e kind) tt) (looks_none k) u.sent u.received r (packets_turn r.events e kind) (numbers_turn r.events e kind);
    };
  }

  pub polls_one : {w w1 w2 : World} {s s1 s2 : Running W R F} {number : ℕ} → TakesLook answer answers w s w1 s1 → Turns answer answers number true w1 s1 w2 s2 → Turns answer answers number false w s w2 s2
  polls_one {number = number} a b = record { goes = λ rest. record { over = λ x. (b.goes rest).over ((a.goes (number ∷ rest)).over x); goes = λ first start spare r. (b.goes rest).goes first start spare ((a.goes (number ∷ rest)).goes first start spare r) } }

  pub fails_polled : {w w1 w2 : World} {s s1 : Running W R F} → s1.next ≡ s.next → TakesLook answer answers w s w1 s1 → StepFails answer answers true w1 s1 w2 → StepFails answer answers false w s w2
  fails_polled e a b = record { breaks = λ owed. record { breaks = λ first start spare count may r. (b.breaks owed).breaks first start spare count (may_come_is e may) ((a.goes owed).goes first start spare r) } }

  -- ---- Datagrams

  unfinished_kept : (xs : List (KeptExchange W R F)) (c : ℕ) (s : Slate) → KeepsExchange answer answers (kept_at c xs) s → is_finished s ≡ false → Among c (numbers_of xs)
  unfinished_kept xs c s k h = sure (list_any (nat_eq c) (numbers_of xs)) (λ (n : list_any (nat_eq c) (numbers_of xs) ≡ false). let f : is_finished s ≡ true = rw (kept_nowhere xs c n) at k in cc)

  pub begins_by : {n n1 n' : List Event} {m1 m' : SockTraffic} {f f' : ℕ} {c c1 c' : List ClockReading} {k : Known} (s : Running W R F) {e : Event} {packet : Option Packet} {x : TypeOf s.exchanges} {send_failed : Bool} (octets : List ℕ) (from : SocketAddr)
      → s.heard.closed ≡ false → e.client ≡ s.next → e.kind ≡ Datagram from octets
      → Begun answer answers s.heard e from octets (kept_at e.client s.exchanges.items) packet (kept_at e.client x.items) → ((d : ℕ) → d ≢ e.client → kept_at d x.items ≡ kept_at d s.exchanges.items)
      → EventDated e n n1 c c1 → SendsOrFaults (head_of e) (one_or_none packet) s.heard.dgram.write_timeout n1 n' m1 m' f f' c1 c'
      → BeginsExchange answer answers octets from (world n m1 f c k) s (world n' m' f' c' k) (record s { exchanges = x; next = s.next + 1; send_failed = send_failed })
  begins_by {n} {n1} {n'} {m1} {m'} {f} {f'} {c} {c1} {c'} {k} s {e} {packet} {x} {send_failed} octets from running of kind begun others t sends = record {
    goes = λ whole m front got. record {
      over = λ h. h;
      goes = λ first start spare r.
          let settings = settings_shown first in
          let serves = serves_datagram answer answers settings r.events s e from octets packet x r.plain kind of running begun others r.serves in
          ran_act answer answers first start n n1 n' m m1 m' f f' c c1 c' k s [] (numbers_of x.items) spare e (one_or_none packet) x (s.next + 1) send_failed (datagram_own e from octets kind) t sends (rw got refl) (rw got refl) r
          (posted_datagram answer answers settings r.events s e from octets packet (kept_at e.client x.items) r.plain kind of running begun r.serves)
          (input_datagram answers settings r.events e (first ∷ r.looks) (spare + 1) (spare + 0) s.next start.sock_traffic m m1 from octets whole kind of front (rw got refl) (rw got refl) (omega arith)
          (λ d. nobody (waits answers settings d r.events) (r.waiting d)) r.input)
          (λ d h. let g : not (is_finished (slate answers settings d (r.events ++ e ∷ []))) ≡ true = sym (waits_more answers settings d r.events e ∙ rw kind refl) ∙ h in
          unfinished_kept x.items d (slate answers settings d (r.events ++ e ∷ [])) (serves.each d) (not_true (is_finished (slate answers settings d (r.events ++ e ∷ []))) g))
          serves;
    };
  }

  -- one datagram more was received
  one_more : (first : Look) (start now : World) (s : Running W R F) (ready : Bool) (owed : List ℕ) (spare count : ℕ) (v : Packet) → MayCome count (s.next + 1)
      → (r : Ran answer answers first start now s ready owed spare) → MayCome count (length (r.input.came ++ v ∷ []))
  one_more first start now s ready owed spare count v may r =
      may_come_is (length-append r.input.came (v ∷ []) ∙ ap (λ (n : ℕ). n + 1) (came_number answers (settings_shown first) r.events (first ∷ r.looks) (spare + count_if ready) s.next start.sock_traffic now.sock_traffic r.input)) may

  -- it was received, and not noted
  pub begin_fails_unnoted : {n n' : List Event} {m1 : SockTraffic} {f f' : ℕ} {c c' : List ClockReading} {k : Known} (s : Running W R F) {octets : List ℕ} {from : SocketAddr} → n' ≡ n
      → BeginFails answer answers octets from (world n m1 f c k) s (world n' m1 f' c' k)
  begin_fails_unnoted {n} {n'} {m1} {f} {f'} {c} {c'} {k} s {octets} {from} h = record {
    breaks = λ whole m front got. record {
      breaks = λ first start spare count may r.
          let v : Packet = record { octets = whole; addr = from } in
          cut_off answer answers first start n n' m m1 f f' c c' k k s true [] spare [] [] (r.input.came ++ v ∷ []) (record { octets = take 1024 whole; addr = from } ∷ []) s.next count
          (one_more first start (world n m f c k) s true [] spare count v may r) (h ∙ sym (append-nil n)) tt tt (looks_none k) (rw got refl)
          (rw got (rw r.input.received (append_assoc start.sock_traffic.received r.input.came (v ∷ [])))) r
          (rw (cut_packets_more r.input.came v, append-nil r.events, r.input.recorded) refl) (ap numbers_in (append-nil r.events) ∙ r.input.numbered);
    };
  }

  -- it was noted
  pub begin_fails : {n n1 n' : List Event} {m1 m' : SockTraffic} {f f' : ℕ} {c c1 c' : List ClockReading} {k : Known} (s : Running W R F) {e : Event} {octets : List ℕ} {from : SocketAddr} → e.client ≡ s.next → e.kind ≡ Datagram from octets
      → EventDated e n n1 c c1 → Unsent n1 n' m1 m' → BeginFails answer answers octets from (world n m1 f c k) s (world n' m' f' c' k)
  begin_fails {n} {n1} {n'} {m1} {m'} {f} {f'} {c} {c1} {c'} {k} s {e} {octets} {from} of kind t u = record {
    breaks = λ whole m front got. record {
      breaks = λ first start spare count may r.
          let v : Packet = record { octets = whole; addr = from } in
          cut_off answer answers first start n n' m m' f f' c c' k k s true [] spare (e ∷ []) [] (r.input.came ++ v ∷ []) [] (s.next + 1) count
          (one_more first start (world n m f c k) s true [] spare count v may r) (u.noted ∙ t.noted) (datagram_plain e from octets kind, tt) (own_nobodys e None (datagram_own e from octets kind) tt) (looks_none k)
          (u.sent ∙ rw got refl) (u.received ∙ rw got (rw r.input.received (append_assoc start.sock_traffic.received r.input.came (v ∷ [])))) r
          (rw (cut_packets_more r.input.came v, packets_in_more r.events e, kind, r.input.recorded, front) (sym (append-nil (cut_packets r.input.came ++ (record { octets = take 1024 whole; addr = from }) ∷ []))))
          (rw (numbers_in_more r.events e, kind, of, numbers_below_more s.next, r.input.numbered) refl);
    };
  }

-- How the serving of datagrams begins, and what it then says.
use Rattle.std.proofs.Common.{◌≡◌, ◌≢◌, ℕ, ◌+◌, List, [], ◌∷◌, Bool, true, false, refl, sym, ◌∙◌, append-nil, arith}
use Rattle.std.specs.Prelude.{nat_eq}
use Rattle.std.specs.List.{list_any}
use Rattle.dns_events.specs.declared.look.Look.{Look}
use Rattle.dns_admission.specs.declared.call.Call.TheVariants.{Look as ToLook}
use Rattle.dns_admission.specs.declared.call.Reply.TheVariants.{Look as Shown}
use Rattle.dns_book.specs.Seats.{Called}
use Rattle.dns_book.specs.declared.history.Known.{Known}
use Rattle.dns_io.specs.SockTraffic.{SockTraffic}
use Rattle.dns_service.specs.Answer.{Answer}
use Rattle.dns_events.specs.declared.event.Event.{Event}
use Rattle.dns_service.specs.declared.polled.PolledRequest.{PolledRequest}
use Rattle.dns_session.specs.Serving.{Serving}
use Rattle.dns_events.specs.declared.settings.Settings.{Settings}
use Rattle.dns_recorder.specs.Clocks.{ClockReading}
use Rattle.dns_recorder.specs.Notes.{NotedWide}
use Rattle.dns_dgram_driver.specs.Polled.{waits, TurnsBetween, AllFinished}
use Rattle.dns_dgram_driver.specs.Sent.{settings_shown, packets_delivered, delivered, early_faults}
use Rattle.dns_dgram_driver.specs.DatagramsServed.{World, world, ServedBy, CutOff, ServedTo, EndsBy, IsFull, MayCome}
use Rattle.dns_dgram_driver.specs.Steps.{hears, NewsNoted, kept_at}
use Rattle.dns_dgram_driver.specs.Rounds.{ServesExchanges, Ran, Breaks, CutsOff, Stopped, Finished, Ended, TakenBy}
use Rattle.dns_dgram_driver.specs.declared.serving.DgramEnd.{DgramEnd}
use Rattle.dns_dgram_driver.specs.declared.serving.DgramEnd.TheVariants.{Shutdown, Counted, Fault, OutOfMemory}
use Rattle.dns_dgram_driver.specs.declared.running.Running.{Running}
use Rattle.dns_dgram_driver.proofs.Clocks.{clocked_any}
use Rattle.dns_dgram_driver.proofs.Counts.{came_number, may_come_is, may_come_none, not_full, taken_less}
use Rattle.dns_dgram_driver.proofs.LoopRounds.{ran_rest, end_shutdown, end_count, end_fails, idles_finish}
use Rattle.dns_dgram_driver.proofs.WideEvents.{all_nobodys}
use Rattle.dns_dgram_driver.proofs.EventOrder.{ordered_first}
use Rattle.dns_dgram_driver.proofs.Parts.{input_quiet, delivered_wide}
use Rattle.dns_dgram_driver.proofs.Quiet.{all_wide_quiet, waits_quiet, kinds_append, packets_quiet, numbers_quiet}
use Rattle.dns_dgram_driver.proofs.Seats.{looks_one}
use Rattle.dns_dgram_driver.proofs.SentDatagrams.{part_none}
use Rattle.dns_dgram_driver.proofs.KeptExchanges.{news_wide, serves_news, serves_none}
use Rattle.dns_dgram_driver.proofs.Shown.{shown_closed}

never : (a b : Bool) → a ≡ false → a ≡ true → b ≡ true
never a b e h = cc

module _ (answers : Serving) (settings : Settings) where
  packets_none : packets_delivered answers settings [] ≡ []
  unfolding delivered
  packets_none = refl

  early_none : early_faults answers settings [] ≡ 0
  unfolding early_faults
  early_none = refl

  between_none : (c : ℕ) → TurnsBetween answers settings c []
  unfolding TurnsBetween
  between_none c = tt

  waits_none : (c : ℕ) → waits answers settings c [] ≡ false
  unfolding waits
  waits_none c = refl

-- the first look shows what is heard, except for a shutdown
abbrev pub before_first : Look → Look
before_first first = record first { closed = false }

module _ {W R F : Type 0} (answer : PolledRequest F R → ℕ → Answer) (answers : Serving) where
  ran_first : (first : Look) (n n1 : List Event) (m : SockTraffic) (f : ℕ) (c c1 : List ClockReading) (k k1 : Known) (s : Running W R F)
      → ((d : ℕ) → kept_at d s.exchanges.items ≡ []) → s.next ≡ 0 → s.heard ≡ hears (before_first first) first → Called k ToLook (Shown first) k1 → NewsNoted (before_first first) first n n1 c c1
      → Ran answer answers first (world n m f c k) (world n1 m f c1 k1) s true [] 0
  ran_first first n n1 m f c c1 k k1 s none zero heard l x =
      let settings = settings_shown first in
      let wide = news_wide (before_first first) first x.events x.news in
      let serves = serves_news answer answers settings [] (record s { heard = before_first first }) first x.events tt x.news (serves_none answer answers settings (record s { heard = before_first first }) none refl) in
      let quiet = all_wide_quiet x.events wide in record {
        looks = [];
        events = x.events;
        noted = x.noted;
        seat = looks_one k k1 first l;
        plain = kinds_append [] x.events tt quiet;
        nobodys = all_nobodys x.events x.nobodys;
        order = rw heard (ordered_first first x.events x.news);
        input = input_quiet answers settings [] x.events (first ∷ []) (0 + 1) s.next m m tt quiet
            (record { came = []; received = sym (append-nil m.received); recorded = refl; numbered = rw zero refl; polled = between_none answers settings; looked = omega arith });
        waiting = λ d h. never (waits answers settings d []) (list_any (nat_eq d) []) (waits_none answers settings d) (sym (waits_quiet answers settings d [] x.events tt quiet) ∙ h);
        clock = clocked_any x.events c c1 m.full_sends x.clock;
        output = delivered_wide answers settings [] x.events m m f f tt wide
            (record { sent = rw (packets_none answers settings) (sym (append-nil m.sent)); late = 0; failed = 0; faults = refl; again = omega arith; rose = omega arith; early = rw (early_none answers settings) (omega arith) });
        serves = record { each = serves.each; unused = serves.unused; heard = rw heard serves.heard };
      }

  all_finished : (settings : Settings) (es : List Event) (s : Running W R F) → ServesExchanges answer answers settings es s → ((d : ℕ) → kept_at d s.exchanges.items ≡ []) → AllFinished answers settings es
  all_finished settings es s h none d = rw (none d) at (h.each d)

  served_ran : (end : DgramEnd) (count : ℕ) (first : Look) (w w1 : World) (s : Running W R F) (r : Ran answer answers first w w1 s false [] 2) → TakenBy end count s.next → (IsFull count s.next → end ≡ Counted) → EndsBy answers end count s.next first r.looks r.events → ServedBy answers end count w w1
  served_ran end count first w w1 s r taken full e = record {
    first = first;
    looks = r.looks;
    events = r.events;
    number = s.next;
    noted = r.noted;
    seat = r.seat;
    order = r.order.order;
    nobodys = r.nobodys;
    input = r.input;
    within = may_come_is (came_number answers (settings_shown first) r.events (first ∷ r.looks) 2 s.next w.sock_traffic w1.sock_traffic r.input) (taken_less end taken);
    clock = r.clock;
    output = r.output;
    ends = e;
    counted = full;
  }

  ended_ran : (end : DgramEnd) (count : ℕ) (first : Look) (w w1 w2 : World) (s s2 : Running W R F) → Ran answer answers first w w1 s true [] 0 → TakenBy end count s2.next → Ended answer answers end count w1 s w2 s2 → ServedTo answers end count w w2
  ended_ran Shutdown count first w w1 w2 s s2 r taken e =
      let z = e.0.goes first w 1 (ran_rest answer answers r) in
      served_ran Shutdown count first w w2 s2 z taken (λ full. absurd (not_full taken full)) (shown_closed first z.looks z.events s2.heard false e.1 z.order, all_finished (settings_shown first) z.events s2 z.serves e.2)
  ended_ran Counted count first w w1 w2 s s2 r taken e =
      let z = e.0.goes first w 1 (ran_rest answer answers r) in
      served_ran Counted count first w w2 s2 z taken (λ full. refl) (e.1, all_finished (settings_shown first) z.events s2 z.serves e.2)
  ended_ran Fault count first w w1 w2 s s2 r taken e = served_ran Fault count first w w2 s2 (e.goes first w 1 (ran_rest answer answers r)) taken (λ full. absurd (not_full taken full)) tt
  ended_ran OutOfMemory count first w w1 w2 s s2 r taken e = e.breaks.breaks first w 1 count e.may_come (ran_rest answer answers r)

  -- the news of the first look were noted, and then what came after them
  pub served_by : {n n1 : List Event} {c c1 : List ClockReading} {k k1 : Known} {first : Look} (m : SockTraffic) (f : ℕ) (w : World) (end : DgramEnd) (count : ℕ) (s s2 : Running W R F)
      → ((d : ℕ) → kept_at d s.exchanges.items ≡ []) → s.next ≡ 0 → s.heard ≡ hears (before_first first) first → Called k ToLook (Shown first) k1 → TakenBy end count s2.next → NewsNoted (before_first first) first n n1 c c1
      → Ended answer answers end count (world n1 m f c1 k1) s w s2 → ServedTo answers end count (world n m f c k) w
  served_by {n} {n1} {c} {c1} {k} {k1} {first} m f w end count s s2 none zero heard l taken x e =
      ended_ran end count first (world n m f c k) (world n1 m f c1 k1) w s s2 (ran_first first n n1 m f c c1 k k1 s none zero heard l x) taken e

  -- ---- the rounds and the last polls

  -- with a fault, or because memory ran out, there are no last polls
  pub end_by : (w w1 w2 : World) (s s1 s2 : Running W R F) (count : ℕ) (end : DgramEnd) → end ≢ OutOfMemory → s2.next ≡ s1.next → Stopped answer answers end count w s w1 s1 → Finished answer answers w1 s1 w2 s2 → Ended answer answers end count w s w2 s2
  end_by w w1 w2 s s1 s2 count Shutdown h e a b = end_shutdown answer answers a b
  end_by w w1 w2 s s1 s2 count Counted h e a b = end_count answer answers e a b
  end_by w w1 w2 s s1 s2 count Fault h e a b = idles_finish answer answers a b
  end_by w w1 w2 s s1 s2 count OutOfMemory h e a b = absurd (h refl)

  pub end_by_fails : (w w1 w2 : World) (s s1 : Running W R F) (count : ℕ) (end : DgramEnd) → end ≢ OutOfMemory → MayCome count s1.next → Stopped answer answers end count w s w1 s1 → Breaks answer answers s1.next w1 s1 false [] w2 → CutsOff answer answers count w s w2
  end_by_fails w w1 w2 s s1 count Shutdown h may a b = end_fails answer answers may a b
  end_by_fails w w1 w2 s s1 count Counted h may a b = end_fails answer answers may a b
  end_by_fails w w1 w2 s s1 count Fault h may a b = end_fails answer answers {q = Unit {0}} may (a, tt) b
  end_by_fails w w1 w2 s s1 count OutOfMemory h may a b = absurd (h refl)

-- memory ran out before the news of the first look were noted
pub first_fails : {n n1 : List Event} {m : SockTraffic} {f : ℕ} {c c1 : List ClockReading} {k k1 : Known} {first : Look} (answers : Serving) (count : ℕ) → Called k ToLook (Shown first) k1 → NotedWide n n1 → CutOff answers count (world n m f c k) (world n1 m f c1 k1)
first_fails {n} {n1} {m} {f} {c} {c1} {k} {k1} {first} answers count l x =
    let quiet = all_wide_quiet x.events x.wide in record {
      first = first;
      looks = [];
      events = x.events;
      came = [];
      unrecorded = [];
      number = 0;
      packets = [];
      noted = x.noted;
      seat = looks_one k k1 first l;
      received = sym (append-nil m.received);
      within = may_come_none refl;
      recorded = sym (append-nil _ ∙ packets_quiet [] x.events tt quiet);
      numbered = numbers_quiet [] x.events tt quiet;
      nobodys = all_nobodys x.events x.nobodys;
      sent = sym (append-nil m.sent);
      part = part_none _;
    }

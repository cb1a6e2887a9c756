-- Readings of the clock against what a link is read and written for.
use Rattle.std.proofs.Common.{◌≡◌, ℕ, ◌+◌, ◌-◌, List, [], ◌∷◌, ◌++◌, refl, sym, ◌∙◌, append_assoc, append-nil, arith, length-append}
use Rattle.dns_io.specs.Traffic.{Traffic}
use Rattle.dns_events.specs.declared.event.Event.{Event}
use Rattle.dns_events.specs.declared.event.EventKind.{EventKind}
use Rattle.dns_events.specs.declared.event.EventKind.TheVariants.{Turn, Piece, End, Fault, Write, Tick}
use Rattle.dns_recorder.specs.Clocks.{ClockReading, TookFrom, write_count, TimedOne, Waited, LateAt}
use Rattle.dns_recorder.proofs.EventTimes.{timed_one}
use Rattle.dns_stream_driver.specs.Links.{IsReadEvent}

pub waited_none : (f : ℕ) (c : List ClockReading) → Waited f f c c
waited_none f c = record { readings = []; clock = sym (append-nil c); count = omega arith }

pub waited_again : (f : ℕ) (w1 w2 w3 : Traffic) (c c1 c2 : List ClockReading) (r : ClockReading) → Waited f w1.full_writes c c1 → w2 ≡ record w1 { full_writes = w1.full_writes + 1 } → w3 ≡ w2 → c2 ≡ c1 ++ r ∷ [] → Waited f w3.full_writes c c2
waited_again f w1 w2 w3 c c1 c2 r a e g h = let x = g ∙ e in record {
  readings = a.readings ++ r ∷ [];
  clock = rw (h, a.clock) (append_assoc c a.readings (r ∷ []));
  count = rw x (let p = a.count in omega (arith, length-append a.readings (r ∷ [])));
}

pub late_again : (f : ℕ) (w1 w2 w3 : Traffic) (c c1 c2 : List ClockReading) (r : ClockReading) → Waited f w1.full_writes c c1 → w2 ≡ record w1 { full_writes = w1.full_writes + 1 } → w3 ≡ w2 → c2 ≡ c1 ++ r ∷ [] → LateAt (r.0, r.1) f w3.full_writes c c2
late_again f w1 w2 w3 c c1 c2 r a e g h = let x = g ∙ e in record {
  before = a.readings;
  clock = rw (h, a.clock) (append_assoc c a.readings (r ∷ []));
  count = rw x (let p = a.count in omega arith);
}

-- a reading, others, and the reading of a Write
dated_write : (start r : ClockReading) (mid : List ClockReading) → TookFrom (start ∷ (mid ++ r ∷ [])) r (r.0 - start.0) (r ∷ [])
dated_write start r mid = record {
  start = start;
  since = start ∷ (mid ++ r ∷ []);
  begun = record { skipped = []; later = mid ++ r ∷ []; is = refl; rest_is = refl };
  ended = record { skipped = start ∷ mid; later = []; is = refl; rest_is = refl };
  took_is = refl;
}

pub timed_whole : (client f f' : ℕ) (c c1 c2 c3 : List ClockReading) (start stop : ClockReading) → c1 ≡ c ++ start ∷ [] → Waited f f' c1 c2 → c3 ≡ c2 ++ stop ∷ [] →
    TimedOne (record { at = stop.0; secs = stop.1; client = client; kind = Write (stop.0 - start.0) }) f f' c c3
timed_whole client f f' c c1 c2 c3 start stop e a g = record {
  readings = start ∷ (a.readings ++ stop ∷ []);
  clock = rw (g, a.clock, e) (simp append_assoc);
  dated = (stop ∷ [], dated_write start stop a.readings, tt);
  count = let p = a.count in omega (arith, length-append a.readings (stop ∷ []));
}

pub timed_failed : (event : Event) (f f' : ℕ) (c c1 c2 c3 : List ClockReading) (start : ClockReading) → event.kind ≡ Fault → c1 ≡ c ++ start ∷ [] → Waited f f' c1 c2 → c3 ≡ c2 ++ (event.at, event.secs) ∷ [] → TimedOne event f f' c c3
timed_failed event f f' c c1 c2 c3 start k e a g = record {
  readings = start ∷ (a.readings ++ (event.at, event.secs) ∷ []);
  clock = rw (g, a.clock, e) (simp append_assoc);
  dated = ((event.at, event.secs) ∷ [], rw k (record { skipped = start ∷ a.readings; later = []; is = refl; rest_is = refl }), tt);
  count = rw k (let p = a.count in omega (arith, length-append a.readings ((event.at, event.secs) ∷ [])));
}

pub timed_late : (client at secs f f' : ℕ) (c c1 c2 : List ClockReading) (start : ClockReading) → c1 ≡ c ++ start ∷ [] → LateAt (at, secs) f f' c1 c2 →
    TimedOne (record { at = at; secs = secs; client = client; kind = Write (at - start.0) }) f f' c c2
timed_late client at secs f f' c c1 c2 start e a = record {
  readings = start ∷ (a.before ++ (at, secs) ∷ []);
  clock = rw (a.clock, e) (simp append_assoc);
  dated = ((at, secs) ∷ [], dated_write start (at, secs) a.before, tt);
  count = let p = a.count in omega (arith, length-append a.before ((at, secs) ∷ []));
}

-- the event of a read
read_counts : (kind : EventKind) → IsReadEvent kind → write_count kind ≡ 0
read_counts (Piece p) r = refl
read_counts End r = refl
read_counts Fault r = refl
read_counts Tick r = refl
read_counts _ r = absurd r

pub timed_read : (event : Event) (kind : EventKind) (f f' : ℕ) (c c' : List ClockReading) → IsReadEvent kind → event.kind ≡ kind → f' ≡ f → c' ≡ c ++ (event.at, event.secs) ∷ [] → TimedOne event f f' c c'
timed_read event kind f f' c c' r k e h = timed_one event f f' c c' h (rw k (read_counts kind r)) e

pub timed_turn : (event : Event) (k f : ℕ) (c c' : List ClockReading) → event.kind ≡ Turn k → c' ≡ c ++ (event.at, event.secs) ∷ [] → TimedOne event f f c c'
timed_turn event k f c c' e h = timed_one event f f c c' h (rw e refl) refl

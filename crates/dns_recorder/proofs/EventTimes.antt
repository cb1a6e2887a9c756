-- Readings of the clock against events.
use Rattle.std.proofs.Common.{◌≡◌, ℕ, ◌+◌, List, [], ◌∷◌, ◌++◌, refl, sym, append_assoc, append-nil, arith, length-append}
use Rattle.dns_events.specs.declared.event.Event.{Event}
use Rattle.dns_events.specs.declared.event.EventKind.{EventKind}
use Rattle.dns_events.specs.declared.event.EventKind.TheVariants.{Write}
use Rattle.dns_recorder.specs.Clocks.{ClockReading, ComesAt, TookFrom, DatedBy, Dated, write_count, writes_in, faults_in, Timed, TimedOne}

pub comes_after : (rs qs : List ClockReading) (r : ClockReading) (rest : List ClockReading) → ComesAt rs r rest → ComesAt (rs ++ qs) r (rest ++ qs)
comes_after rs qs r rest t = record {
  skipped = t.skipped;
  later = t.later ++ qs;
  is = rw t.is (append_assoc t.skipped (r ∷ t.later) qs);
  rest_is = rw t.rest_is refl;
}

pub comes_before : (ps rs : List ClockReading) (r : ClockReading) (rest : List ClockReading) → ComesAt rs r rest → ComesAt (ps ++ rs) r rest
comes_before ps rs r rest t = record {
  skipped = ps ++ t.skipped;
  later = t.later;
  is = rw t.is (sym (append_assoc ps t.skipped (r ∷ t.later)));
  rest_is = t.rest_is;
}

took_after : (rs qs : List ClockReading) (r : ClockReading) (took : ℕ) (rest : List ClockReading) → TookFrom rs r took rest → TookFrom (rs ++ qs) r took (rest ++ qs)
took_after rs qs r took rest t = record {
  start = t.start;
  since = t.since ++ qs;
  begun = comes_after rs qs t.start t.since t.begun;
  ended = comes_after t.since qs r rest t.ended;
  took_is = t.took_is;
}

took_before : (ps rs : List ClockReading) (r : ClockReading) (took : ℕ) (rest : List ClockReading) → TookFrom rs r took rest → TookFrom (ps ++ rs) r took rest
took_before ps rs r took rest t = record {
  start = t.start;
  since = t.since;
  begun = comes_before ps rs t.start t.since t.begun;
  ended = t.ended;
  took_is = t.took_is;
}

by_after : (k : EventKind) (rs qs : List ClockReading) (r : ClockReading) (rest : List ClockReading) → DatedBy k rs r rest → DatedBy k (rs ++ qs) r (rest ++ qs)
by_after (Write took) rs qs r rest t = took_after rs qs r took rest t
by_after _ rs qs r rest t = comes_after rs qs r rest t

by_before : (k : EventKind) (ps rs : List ClockReading) (r : ClockReading) (rest : List ClockReading) → DatedBy k rs r rest → DatedBy k (ps ++ rs) r rest
by_before (Write took) ps rs r rest t = took_before ps rs r took rest t
by_before _ ps rs r rest t = comes_before ps rs r rest t

pub dated_before : (ps rs : List ClockReading) (es : List Event) → Dated rs es → Dated (ps ++ rs) es
dated_before ps rs [] d = tt
dated_before ps rs (e ∷ es) d = (d.0, by_before e.kind ps rs (e.at, e.secs) d.0 d.1, d.2)

pub dated_append : (rs qs : List ClockReading) (es fs : List Event) → Dated rs es → Dated qs fs → Dated (rs ++ qs) (es ++ fs)
dated_append rs qs [] fs d f = dated_before rs qs fs f
dated_append rs qs (e ∷ es) fs d f = (d.0 ++ qs, by_after e.kind rs qs (e.at, e.secs) d.0 d.1, dated_append d.0 qs es fs d.2 f)

pub writes_append : (es fs : List Event) → writes_in (es ++ fs) ≡ writes_in es + writes_in fs
writes_append [] fs = omega arith
writes_append (e ∷ es) fs = let h = writes_append es fs in omega arith

pub faults_append : (es fs : List Event) → faults_in (es ++ fs) ≡ faults_in es + faults_in fs
faults_append [] fs = omega arith
faults_append (e ∷ es) fs = let h = faults_append es fs in omega arith

-- nothing was noted and nothing read; two times one after the other; one event that is noted now
pub timed_none : (n : List Event) (f : ℕ) (c : List ClockReading) → Timed n n f f c c
timed_none n f c = record { events = []; readings = []; noted = sym (append-nil n); clock = sym (append-nil c); dated = tt; count = omega arith }

-- if no write answered Again
pub timed_shift : (n n' : List Event) (f : ℕ) (c c' : List ClockReading) → Timed n n' 0 0 c c' → Timed n n' f f c c'
timed_shift n n' f c c' t = record { events = t.events; readings = t.readings; noted = t.noted; clock = t.clock; dated = t.dated; count = let p = t.count in omega arith }

pub timed_then : (n n1 n2 : List Event) (f f1 f2 : ℕ) (c c1 c2 : List ClockReading) → Timed n n1 f f1 c c1 → Timed n1 n2 f1 f2 c1 c2 → Timed n n2 f f2 c c2
timed_then n n1 n2 f f1 f2 c c1 c2 a b = record {
  events = a.events ++ b.events;
  readings = a.readings ++ b.readings;
  noted = rw (b.noted, a.noted) (append_assoc n a.events b.events);
  clock = rw (b.clock, a.clock) (append_assoc c a.readings b.readings);
  dated = dated_append a.readings b.readings a.events b.events a.dated b.dated;
  count = let p = a.count in let q = b.count in omega (arith, length-append a.readings b.readings, length-append a.events b.events, writes_append a.events b.events, faults_append a.events b.events);
}

pub timed_noted : (event : Event) (n n' : List Event) (f f' : ℕ) (c c' : List ClockReading) → TimedOne event f f' c c' → n' ≡ n ++ event ∷ [] → Timed n n' f f' c c'
timed_noted event n n' f f' c c' t e = record { events = event ∷ []; readings = t.readings; noted = e; clock = t.clock; dated = t.dated; count = let p = t.count in omega arith }

by_one : (k : EventKind) (r : ClockReading) → write_count k ≡ 0 → DatedBy k (r ∷ []) r (r ∷ [])
by_one (Write took) r w = absurd (omega arith)
by_one _ r w = record { skipped = []; later = []; is = refl; rest_is = refl }

-- one reading for one event that is no Write
pub timed_one : (event : Event) (f f' : ℕ) (c c' : List ClockReading) → c' ≡ c ++ (event.at, event.secs) ∷ [] → write_count event.kind ≡ 0 → f' ≡ f → TimedOne event f f' c c'
timed_one event f f' c c' e w g = record {
  readings = (event.at, event.secs) ∷ [];
  clock = e;
  dated = ((event.at, event.secs) ∷ [], by_one event.kind (event.at, event.secs) w, tt);
  count = omega arith;
}

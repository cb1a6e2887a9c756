-- Readings of the clock in the loop of datagrams.
use Rattle.std.proofs.Common.{◌≡◌, ℕ, List, [], ◌∷◌, ◌++◌, refl, sym, append_assoc, append-nil, arith, length-append}
use Rattle.dns_events.specs.declared.event.Event.{Event}
use Rattle.dns_events.specs.declared.event.EventKind.{EventKind}
use Rattle.dns_events.specs.declared.event.EventKind.TheVariants.{Datagram, Turn, Fault, Reconfigure, Shutdown}
use Rattle.dns_recorder.specs.Clocks.{ClockReading, ComesAt, DatedBy, Dated, Waited, LateAt}
use Rattle.dns_recorder.proofs.EventTimes.{dated_append, dated_before}
use Rattle.dns_dgram_driver.specs.Events.{IsDatagramKind}
use Rattle.dns_dgram_driver.specs.DatagramsServed.{Clocked}

pub clocked_none : (c : List ClockReading) (a : ℕ) → Clocked [] c c a a
clocked_none c a = record { readings = []; clock = sym (append-nil c); dated = tt; count = omega arith }

pub clocked_then : (es fs : List Event) (c c1 c2 : List ClockReading) (a b d : ℕ) → Clocked es c c1 a b → Clocked fs c1 c2 b d → Clocked (es ++ fs) c c2 a d
clocked_then es fs c c1 c2 a b d x y = record {
  readings = x.readings ++ y.readings;
  clock = rw (y.clock, x.clock) (append_assoc c x.readings y.readings);
  dated = dated_append x.readings y.readings es fs x.dated y.dated;
  count = let p = x.count in let q = y.count in omega (arith, length-append x.readings y.readings, length-append es fs);
}

at_once : (r : ClockReading) → ComesAt (r ∷ []) r (r ∷ [])
at_once r = record { skipped = []; later = []; is = refl; rest_is = refl }

kind_dated : (k : EventKind) (r : ClockReading) → IsDatagramKind k → DatedBy k (r ∷ []) r (r ∷ [])
kind_dated (Datagram addr o) r d = at_once r
kind_dated (Turn k) r d = at_once r
kind_dated Fault r d = at_once r
kind_dated (Reconfigure dgram stream) r d = at_once r
kind_dated Shutdown r d = at_once r
kind_dated _ r d = absurd d

one_dated : (e : Event) → IsDatagramKind e.kind → Dated ((e.at, e.secs) ∷ []) (e ∷ [])
one_dated e d = ((e.at, e.secs) ∷ [], kind_dated e.kind (e.at, e.secs) d, tt)

pub clocked_one : (e : Event) (c c' : List ClockReading) (a : ℕ) → c' ≡ c ++ (e.at, e.secs) ∷ [] → IsDatagramKind e.kind → Clocked (e ∷ []) c c' a a
clocked_one e c c' a h d = record { readings = (e.at, e.secs) ∷ []; clock = h; dated = one_dated e d; count = omega arith }

pub clocked_waited : (c c' : List ClockReading) (a b : ℕ) → Waited a b c c' → Clocked [] c c' a b
clocked_waited c c' a b w = record { readings = w.readings; clock = w.clock; dated = tt; count = let h = w.count in omega arith }

pub clocked_late : (e : Event) (c c' : List ClockReading) (a b : ℕ) → IsDatagramKind e.kind → LateAt (e.at, e.secs) a b c c' → Clocked (e ∷ []) c c' a b
clocked_late e c c' a b d l = record {
  readings = l.before ++ (e.at, e.secs) ∷ [];
  clock = l.clock;
  dated = dated_before l.before ((e.at, e.secs) ∷ []) (e ∷ []) (one_dated e d);
  count = let h = l.count in omega (arith, length-append l.before ((e.at, e.secs) ∷ []));
}

-- as many sends answered Again before as after
pub clocked_any : (es : List Event) (c c' : List ClockReading) (a : ℕ) → Clocked es c c' 0 0 → Clocked es c c' a a
clocked_any es c c' a x = record { readings = x.readings; clock = x.clock; dated = x.dated; count = let h = x.count in omega arith }

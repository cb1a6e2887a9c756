-- One write of what is left of a frame, and all of them.
use Rattle.std.proofs.Common.{◌≡◌, ℕ, ◌+◌, ◌-◌, ◌≤◌, List, [], ◌∷◌, ◌++◌, take, drop, length, arith, refl, ◌∙◌, ap, append_assoc, length-append, add-zero}
use Rattle.std.proofs.Math.Seq.{take-add}
use Rattle.std.proofs.lemmas.Grind.{common_steps}
use Rattle.dns_io.specs.Traffic.{Traffic}
use Rattle.dns_recorder.specs.Clocks.{ClockReading, Waited, LateAt}
use Rattle.dns_stream_driver.specs.Blames.{EndBlames, EndAgain}
use Rattle.dns_stream_driver.specs.Links.{WroteFront, WaitedTo}
use Rattle.dns_stream_driver.specs.declared.writing.WriteEnd.{WriteEnd}
use Rattle.dns_stream_driver.specs.declared.writing.WriteEnd.TheVariants.{Whole, Failed, Late}
use Rattle.dns_stream_driver.proofs.LinkTraffic.{wrote_none, wrote_again}
use Rattle.dns_stream_driver.proofs.Waits.{waited_none, waited_again, late_again}

-- one write
pub took_some : (d n : ℕ) (frame : List ℕ) (w w' : Traffic) → w' ≡ record w { went = w.went ++ take n (take (length frame - d) (drop d frame)) } → WroteFront n (drop d frame) w w'
took_some d n frame w w' e0 = let full : take (length frame - d) (drop d frame) ≡ drop d frame = grind (arith, common_steps) in
    let e = rw full at e0 in record { came = rw e refl; went = rw e refl; ticks = rw e refl; ends = rw e refl }

pub took_no_time : (w w' : Traffic) (went : List ℕ) (c : List ClockReading) → w' ≡ record w { went = went } → Waited w.full_writes w'.full_writes c c
took_no_time w w' went c e = rw e (waited_none w.full_writes c)

pub took_no_room : (w w' : Traffic) (went : List ℕ) → w' ≡ record w { went = went } → w.full_writes ≤ w'.full_writes
took_no_room w w' went e = rw e (omega arith)

pub waited_once : (w w1 w2 : Traffic) (c c' : List ClockReading) (r : ClockReading) → w1 ≡ record w { full_writes = w.full_writes + 1 } → w2 ≡ w1 → c' ≡ c ++ r ∷ [] → Waited w.full_writes w2.full_writes c c'
waited_once w w1 w2 c c' r e f h = waited_again w.full_writes w w1 w2 c c c' r (waited_none w.full_writes c) e f h

pub wrote_nothing : (rest : List ℕ) (w w1 w2 : Traffic) → w1 ≡ record w { full_writes = w.full_writes + 1 } → w2 ≡ w1 → WroteFront 0 rest w w2
wrote_nothing rest w w1 w2 e f = wrote_again 0 rest w w w1 w2 (wrote_none rest w) e f

pub late_once : (w w1 w2 : Traffic) (c c' : List ClockReading) (r : ClockReading) → w1 ≡ record w { full_writes = w.full_writes + 1 } → w2 ≡ w1 → c' ≡ c ++ r ∷ [] → LateAt (r.0, r.1) w.full_writes w2.full_writes c c'
late_once w w1 w2 c c' r e f h = late_again w.full_writes w w1 w2 c c c' r (waited_none w.full_writes c) e f h

pub room_once : (w w1 w2 : Traffic) → w1 ≡ record w { full_writes = w.full_writes + 1 } → w2 ≡ w1 → w.full_writes ≤ w2.full_writes
room_once w w1 w2 e f = rw (f, e) (omega arith)

pub none_failed : (rest : List ℕ) (w w' : Traffic) → w' ≡ w → WroteFront 0 rest w w'
none_failed rest w w' e = rw e (wrote_none rest w)

-- all that was written before, and one write more
pub wrote_on : (d n : ℕ) (frame : List ℕ) (w0 w1 w2 : Traffic) → WroteFront d frame w0 w1 → WroteFront n (drop d frame) w1 w2 → WroteFront (d + n) frame w0 w2
wrote_on d n frame w0 w1 w2 r s = record {
  came = s.came ∙ r.came;
  went = rw (take-add d n frame, ← append_assoc w0.went (take d frame) (take n (drop d frame))) (s.went ∙ ap (λ t. t ++ take n (drop d frame)) r.went);
  ticks = s.ticks ∙ r.ticks;
  ends = s.ends ∙ r.ends;
}

pub wrote_end : (d : ℕ) (frame : List ℕ) (w0 w1 w2 : Traffic) → WroteFront d frame w0 w1 → WroteFront 0 (drop d frame) w1 w2 → WroteFront d frame w0 w2
wrote_end d frame w0 w1 w2 r s = let e : d + 0 ≡ d = add-zero d in rw e at (wrote_on d 0 frame w0 w1 w2 r s)

pub waited_on : (f f1 f2 : ℕ) (c c1 c2 : List ClockReading) → Waited f f1 c c1 → Waited f1 f2 c1 c2 → Waited f f2 c c2
waited_on f f1 f2 c c1 c2 a b = record {
  readings = a.readings ++ b.readings;
  clock = rw (b.clock, a.clock) (append_assoc c a.readings b.readings);
  count = let p = a.count in let q = b.count in omega (arith, length-append a.readings b.readings);
}

pub waited_end : (end : WriteEnd) (f f1 f2 : ℕ) (c c1 c2 : List ClockReading) → Waited f f1 c c1 → WaitedTo end f1 f2 c1 c2 → WaitedTo end f f2 c c2
waited_end Whole f f1 f2 c c1 c2 a b = waited_on f f1 f2 c c1 c2 a b
waited_end Failed f f1 f2 c c1 c2 a b = waited_on f f1 f2 c c1 c2 a b
waited_end (Late at secs) f f1 f2 c c1 c2 a b = record {
  before = a.readings ++ b.before;
  clock = b.clock ∙ (ap (λ (x : List ClockReading). x ++ (b.before ++ (at, secs) ∷ [])) a.clock ∙ simp append_assoc);
  count = let p = a.count in let q = b.count in omega (arith, length-append a.readings b.before);
}

pub blames_on : (end : WriteEnd) (f f1 f2 : ℕ) → f1 ≡ f → EndBlames end f1 f2 → EndBlames end f f2
blames_on end f f1 f2 l b = record { later = let p = b.later in omega (arith, l, p); failed = λ e. let p = b.failed e in omega (arith, l, p); same = λ no. b.same no ∙ l }

pub again_on : (end : WriteEnd) (a a1 a2 : ℕ) → a ≤ a1 → EndAgain end a1 a2 → EndAgain end a a2
again_on end a a1 a2 l b = record { later = let p = b.later in omega arith; late = λ at secs e. let p = b.late at secs e in omega arith }

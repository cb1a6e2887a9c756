-- What a run has read and written, and what it answers without a fault.
use Rattle.std.proofs.Common.{◌≡◌, ℕ, List, [], ◌≤◌, ◌+◌, length, arith, refl, length-append, ap, sym, ◌∙◌, append-nil}
use Rattle.dns_io.specs.Causes.{Observed, Rose}
use Rattle.dns_io.specs.Moves.{Cut}
use Rattle.std.specs.Prelude.{Result, Ok, Err, IsErr, ◌++◌, ◌∷◌, ◌≢◌}
use Rattle.std.proofs.lemmas.Bool.{false≢true}
use Rattle.dns_trace.specs.declared.reason.Reason.{Reason}
use Rattle.dns_flood.specs.Plan.{Plan}
use Rattle.dns_run.specs.Status.{SourceFaults, SinkFaults, status_once_written, status_of}
use Rattle.dns_run.specs.Runs.{text_or_refusal, refusal_text, Says, ReadsSource, WritesText, Decides, EndsFlood, FloodDecides}
use Rattle.dns_flood.specs.Writes.{Wrote}
use Rattle.dns_run.specs.declared.status.Status.{Status}
use Rattle.dns_run.specs.declared.status.Status.TheVariants.{Done, Usage, Refused, ReadFault, WriteFault, OutOfMemory, TooLong, HostFault}
use Rattle.dns_flood.specs.declared.writing.WriteError.{WriteError}
use Rattle.dns_flood.specs.declared.writing.WriteError.TheVariants.{OutOfMemory as NoMemory, Fault}

read_whole : {E : Type 0} (read : List ℕ → Result (Plan E) (ℕ × Reason)) (r : Result (Plan E) Status) (a b : List ℕ) → b ≡ [] → length a ≤ 67108864 → Says r (read a) → ReadsSource read (status_of r) a b
read_whole read (Ok s) a b e le h = ((e, le), rw h refl)
read_whole read (Err Refused) a b e le h = ((e, le), h)
read_whole read (Err WriteFault) a b e le h = (e, le)
read_whole read (Err OutOfMemory) a b e le h = record { got = a; front = rw e (sym (append-nil a)); few = omega arith }
read_whole read (Err Done) a b e le h = absurd h
read_whole read (Err ReadFault) a b e le h = absurd h
read_whole read (Err TooLong) a b e le h = absurd h
read_whole read (Err Usage) a b e le h = absurd h
read_whole read (Err HostFault) a b e le h = absurd h

-- a source that was read whole
pub whole_read : {E : Type 0} (read : List ℕ → Result (Plan E) (ℕ × Reason)) (r : Result (Plan E) Status) (text a b : List ℕ) (r0 r1 : Type 0) → Observed r1 r0 ((a ≡ text) × (b ≡ [])) → length text ≤ 67108864 → Says r (read text) → Observed r1 r0 (ReadsSource read (status_of r) a b)
whole_read read r text a b r0 r1 was le h = record {
  observed = λ x. let t = was.observed x in (t.0, read_whole read r a b t.1.1 (rw t.1.0 le) (rw t.1.0 h));
}

-- what its text says
pub whole_said : {E : Type 0} (read : List ℕ → Result (Plan E) (ℕ × Reason)) (s : Plan E) (text a b : List ℕ) (r0 r1 : Type 0) → Observed r1 r0 ((a ≡ text) × (b ≡ [])) → read text ≡ Ok s → Observed r1 r0 (read a ≡ Ok s)
whole_said read s text a b r0 r1 was h = record { observed = λ x. let t = was.observed x in (t.0, rw t.1.0 h) }

-- what was written for its text
pub whole_written : {E : Type 0} (read : List ℕ → Result (Plan E) (ℕ × Reason)) (s : Status) (text a b c d : List ℕ) (r0 r1 w0 w1 : Type 0) → Observed r1 r0 ((a ≡ text) × (b ≡ []))
    → Observed w1 w0 (WritesText s (refusal_text (read text)) c d) → Observed (r1 × w1) (r0 × w0) (WritesText s (refusal_text (read a)) c d)
whole_written read s text a b c d r0 r1 w0 w1 was wrote = record {
  observed = λ x. let r = was.observed x.0 in let w = wrote.observed x.1 in ((r.0, w.0), rw r.1.0 w.1);
}

read_after : {E : Type 0} (read : List ℕ → Result (Plan E) (ℕ × Reason)) (written : Result (Unit {0}) WriteError) (a b : List ℕ) → ReadsSource read Done a b → ReadsSource read (status_once_written Done written) a b
read_after read (Ok u) a b h = h
read_after read (Err NoMemory) a b h = record { got = a; front = rw h.0.0 (sym (append-nil a)); few = let le : length a ≤ 67108864 = h.0.1 in omega arith }
read_after read (Err Fault) a b h = h.0

-- a script that was read is still read whole once it is answered
pub answers_read : {E : Type 0} (read : List ℕ → Result (Plan E) (ℕ × Reason)) (written : Result (Unit {0}) WriteError) (a b : List ℕ) (r0 r1 : Type 0) → Observed r1 r0 (ReadsSource read Done a b) → Observed r1 r0 (ReadsSource read (status_once_written Done written) a b)
answers_read read written a b r0 r1 was = record { observed = λ x. let t = was.observed x in (t.0, read_after read written a b t.1) }

wrote_after : (written : Result (Unit {0}) WriteError) (text c d : List ℕ) → Wrote written text c d → WritesText (status_once_written Done written) text c d
wrote_after (Ok u) text c d h = h
wrote_after (Err NoMemory) text c d h = h
wrote_after (Err Fault) text c d h = h

-- what is written for a script that was read
pub answers_written : {E : Type 0} (text : Plan E → List ℕ) (read : List ℕ → Result (Plan E) (ℕ × Reason)) (written : Result (Unit {0}) WriteError) (s : Plan E) (a c d : List ℕ) (r0 r1 w0 w1 : Type 0) → Observed r1 r0 (read a ≡ Ok s)
    → Observed w1 w0 (Wrote written (text s) c d) → Observed (r1 × w1) (r0 × w0) (WritesText (status_once_written Done written) (text_or_refusal text (read a)) c d)
answers_written text read written s a c d r0 r1 w0 w1 said wrote = record {
  observed = λ x. let r = said.observed x.0 in let w = wrote.observed x.1 in ((r.0, w.0), rw r.1 (wrote_after written (text s) c d w.1));
}

-- a front of nothing is one of each text
nothing_of : (written rest text c d : List ℕ) → written ++ rest ≡ [] → d ≡ c ++ written → Cut text c d
nothing_of [] rest text c d e f = record { written = []; rest = text; whole = refl; appended = f }
nothing_of (x ∷ xs) rest text c d e f = let h : length (x ∷ (xs ++ rest)) ≡ 0 = ap length e in absurd (omega arith)

refused_alone : {E : Type 0} (text : Plan E → List ℕ) (read : Result (Plan E) (ℕ × Reason)) (c d : List ℕ) → IsErr read → d ≡ c ++ refusal_text read → d ≡ c ++ text_or_refusal text read
refused_alone text (Err e) c d h w = w
refused_alone text (Ok p) c d h w = absurd (false≢true h)

cut_of : {E : Type 0} (text : Plan E → List ℕ) (read : Result (Plan E) (ℕ × Reason)) (c d : List ℕ) → Cut (refusal_text read) c d → Cut (text_or_refusal text read) c d
cut_of text (Err e) c d w = w
cut_of text (Ok p) c d w = nothing_of w.written w.rest (text p) c d w.whole w.appended

written_alone : {E : Type 0} (text : Plan E → List ℕ) (read : List ℕ → Result (Plan E) (ℕ × Reason)) (s : Status) (a b c d : List ℕ) → s ≢ Done → ReadsSource read s a b
    → WritesText s (refusal_text (read a)) c d → WritesText s (text_or_refusal text (read a)) c d
written_alone text read Done a b c d n h w = absurd (n refl)
written_alone text read Refused a b c d n h w = refused_alone text (read a) c d h.1 w
written_alone text read WriteFault a b c d n h w = cut_of text (read a) c d w
written_alone text read OutOfMemory a b c d n h w = cut_of text (read a) c d w
written_alone text read ReadFault a b c d n h w = w
written_alone text read TooLong a b c d n h w = w
written_alone text read Usage a b c d n h w = w
written_alone text read HostFault a b c d n h w = w

-- what is written for a text that is none: the line of its refusal
pub refusal_written : {E : Type 0} (text : Plan E → List ℕ) (read : List ℕ → Result (Plan E) (ℕ × Reason)) (s : Status) (a b c d : List ℕ) (r0 r1 w0 w1 : Type 0) → s ≢ Done → Observed r1 r0 (ReadsSource read s a b)
    → Observed (r1 × w1) (r0 × w0) (WritesText s (refusal_text (read a)) c d) → Observed (r1 × w1) (r0 × w0) (WritesText s (text_or_refusal text (read a)) c d)
refusal_written text read s a b c d r0 r1 w0 w1 n was wrote = record {
  observed = λ x. let r = was.observed x.0 in let w = wrote.observed x in (w.0, written_alone text read s a b c d n r.1 w.1);
}

decided : {E : Type 0} (read : List ℕ → Result (Plan E) (ℕ × Reason)) (s : Status) (a b : List ℕ) (r0 r1 w0 w1 : ℕ) → ReadsSource read s a b → SourceFaults s r0 r1 → SinkFaults s w0 w1
    → (Rose r0 r1 → ⊥) → (Rose w0 w1 → ⊥) → length a ≤ 67108864 → Decides s (read a)
decided read Done a b r0 r1 w0 w1 t r w nr nw le = t.1
decided read Refused a b r0 r1 w0 w1 t r w nr nw le = t.1
decided read OutOfMemory a b r0 r1 w0 w1 t r w nr nw le = tt
decided read ReadFault a b r0 r1 w0 w1 t r w nr nw le = nr r
decided read WriteFault a b r0 r1 w0 w1 t r w nr nw le = nw w
decided read TooLong a b r0 r1 w0 w1 t r w nr nw le =
    let e : length a ≡ length t.got + length b = ap length t.front ∙ length-append t.got b in
    let n : length t.got ≡ 67108865 = t.count_is in
    absurd (omega arith)
decided read Usage a b r0 r1 w0 w1 t r w nr nw le = t
decided read HostFault a b r0 r1 w0 w1 t r w nr nw le = t

pub replay_completes : {E : Type 0} (read : List ℕ → Result (Plan E) (ℕ × Reason)) (s : Status) (a b : List ℕ) (r0 r1 w0 w1 : ℕ) (now before : Type 0) → Observed now before (ReadsSource read s a b) → SourceFaults s r0 r1 → SinkFaults s w0 w1
    → (Rose r0 r1 → ⊥) → (Rose w0 w1 → ⊥) → Observed now before (length a ≤ 67108864 → Decides s (read a))
replay_completes read s a b r0 r1 w0 w1 now before t r w nr nw = record {
  observed = λ x. let y = t.observed x in (y.0, λ le. decided read s a b r0 r1 w0 w1 y.1 r w nr nw le);
}

pub flood_completes : (s : Status) (w0 w1 : ℕ) → EndsFlood s → SinkFaults s w0 w1 → (Rose w0 w1 → ⊥) → FloodDecides s
flood_completes Done w0 w1 e w nw = tt
flood_completes OutOfMemory w0 w1 e w nw = tt
flood_completes WriteFault w0 w1 e w nw = absurd (nw w)
flood_completes Refused w0 w1 e w nw = absurd e
flood_completes ReadFault w0 w1 e w nw = absurd e
flood_completes TooLong w0 w1 e w nw = absurd e
flood_completes Usage w0 w1 e w nw = absurd e
flood_completes HostFault w0 w1 e w nw = absurd e

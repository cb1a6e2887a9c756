-- Lines that are kept back and written together.
use Rattle.std.proofs.Common.{◌≡◌, ℕ, Result, List, [], ◌∷◌, ◌++◌, ◌<◌, ◌≤◌, ◌+◌, take, drop, length, get_or, sym, ◌∙◌, ap, append_assoc, refl, drop-cons, add-one, append-nil}
use Rattle.std.proofs.lemmas.List.{take-append-drop, take_more, take_all}
use Rattle.std.proofs.lemmas.List.Concat.{flat_map-append}
use Rattle.dns_io.specs.Causes.{Observed}
use Rattle.dns_io.specs.Moves.{Cut}
use Rattle.dns_events.specs.declared.event.Output.{Output}
use Rattle.dns_script.specs.Line.{lines_of, line_of}
use Rattle.dns_flood.specs.Writes.{Pending, Pours}

-- the lines before output i, its line, and those after it
parts : (i : ℕ) (os : List Output) (d : Output) → i < length os → lines_of os ≡ lines_of (take i os) ++ (line_of (get_or os i d) ++ lines_of (drop (i + 1) os))
parts i os d lt =
    ap lines_of (sym (take-append-drop i os)) ∙ flat_map-append line_of (take i os) (drop i os)
    ∙ ap (λ r. lines_of (take i os) ++ r) (rw (drop-cons os i d lt, add-one) refl)

-- one line more
more_lines : (i : ℕ) (os : List Output) (d : Output) → i < length os → lines_of (take (i + 1) os) ≡ lines_of (take i os) ++ line_of (get_or os i d)
more_lines i os d lt = rw (take_more os i d lt) (flat_map-append line_of (take i os) (get_or os i d ∷ []) ∙ ap (λ r. lines_of (take i os) ++ r) (append-nil (line_of (get_or os i d))))

pub kept : (t a : List ℕ) (now : Type 0) → Observed now now (Pending t t a a)
kept t a now = record { observed = λ x. (x, record { written = []; appended = sym (append-nil a); whole = refl }) }

pub none_kept : (a : List ℕ) (now : Type 0) → Observed now now (Pending [] [] a a)
none_kept a now = kept [] a now

pub poured : (t n a b : List ℕ) (now before : Type 0) → n ≡ [] → Observed now before (b ≡ a ++ t) → Observed now before (Pending n t a b)
poured t n a b now before e w = record { observed = λ x. let y = w.observed x in (y.0, record { written = t; appended = y.1; whole = rw e (append-nil t) }) }

-- nothing is a front of each text
pub nothing_written : (text a : List ℕ) → Cut text a a
nothing_written text a = record { written = []; rest = text; whole = refl; appended = sym (append-nil a) }

-- what is written of a text with one line more
pub poured_line : {E F : Type 0} (r : Result (Unit {0}) E) (old l mid new a b : List ℕ) (e : F) (now before : Type 0) → mid ≡ old ++ l → Observed now before (Pours r mid new a b) → Observed now before (Pours r (old ++ l) new a b)
poured_line r old l mid new a b e now before is w = rw (← is) w

-- one more line is kept back, and then some of the text is written
pub one_more : (i : ℕ) (os : List Output) (d : Output) (a b c old new : List ℕ) (t0 t1 t2 : Type 0) → i < length os → d ≡ get_or os i d
    → Observed t1 t0 (Pending old (lines_of (take i os)) a b) → Observed t2 t1 (Pending new (old ++ line_of d) b c) → Observed t2 t0 (Pending new (lines_of (take (i + 1) os)) a c)
one_more i os d a b c old new t0 t1 t2 lt is before now = record {
  observed = λ x. let w = now.observed x in let r = before.observed w.0 in (
    r.0,
    record {
      written = r.1.written ++ w.1.written;
      appended = w.1.appended ∙ rw r.1.appended (append_assoc a r.1.written w.1.written);
      whole = append_assoc r.1.written w.1.written new ∙ ap (λ r2. r.1.written ++ r2) w.1.whole
          ∙ sym (append_assoc r.1.written old (line_of d)) ∙ rw r.1.whole (rw (← is) at (sym (more_lines i os d lt)));
    },
  );
}

-- the write of what is kept back is cut, in the middle and at the end
pub cut : (text more old whole_text a b c : List ℕ) (t0 t1 t2 : Type 0) → text ++ more ≡ whole_text → Observed t1 t0 (Pending old text a b) → Observed t2 t1 (Cut old b c) → Observed t2 t0 (Cut whole_text a c)
cut text more old whole_text a b c t0 t1 t2 e before now = record {
  observed = λ x. let w = now.observed x in let r = before.observed w.0 in (
    r.0,
    record {
      written = r.1.written ++ w.1.written;
      rest = w.1.rest ++ more;
      whole = append_assoc r.1.written w.1.written (w.1.rest ++ more) ∙ ap (λ q. r.1.written ++ q) (sym (append_assoc w.1.written w.1.rest more) ∙ ap (λ q. q ++ more) w.1.whole)
          ∙ sym (append_assoc r.1.written old more) ∙ ap (λ q. q ++ more) r.1.whole ∙ e;
      appended = w.1.appended ∙ rw r.1.appended (append_assoc a r.1.written w.1.written);
    },
  );
}

pub pushed_line : (old l text a b : List ℕ) (t0 t1 : Type 0) → Observed t1 t0 (Pending old text a b) → Observed t1 t0 (Pending (old ++ l) (text ++ l) a b)
pushed_line old l text a b t0 t1 before = record {
  observed = λ x. let r = before.observed x in (
    r.0,
    record {
      written = r.1.written;
      appended = r.1.appended;
      whole = sym (append_assoc r.1.written old l) ∙ ap (λ q. q ++ l) r.1.whole;
    },
  );
}

pub cut_within : (i : ℕ) (os : List Output) (d : Output) (a b c old : List ℕ) (t0 t1 t2 : Type 0) → i < length os → d ≡ get_or os i d
    → Observed t1 t0 (Pending old (lines_of (take i os)) a b) → Observed t2 t1 (Cut (old ++ line_of d) b c) → Observed t2 t0 (Cut (lines_of os) a c)
cut_within i os d a b c old t0 t1 t2 lt is before now =
    cut (lines_of (take i os) ++ line_of d) (lines_of (drop (i + 1) os)) (old ++ line_of d) (lines_of os) a b c t0 t1 t2
    (append_assoc (lines_of (take i os)) (line_of d) (lines_of (drop (i + 1) os)) ∙ rw (← is) at (sym (parts i os d lt)))
    (pushed_line old (line_of d) (lines_of (take i os)) a b t0 t1 before) now

pub all_kept : (i : ℕ) (os : List Output) (a b old : List ℕ) (t0 t1 : Type 0) → length os ≤ i → Observed t1 t0 (Pending old (lines_of (take i os)) a b) → Observed t1 t0 (Pending old (lines_of os) a b)
all_kept i os a b old t0 t1 le before = rw (take_all i os le) at before

pub cut_at_end : (text a b c old : List ℕ) (t0 t1 t2 : Type 0) → Observed t1 t0 (Pending old text a b) → Observed t2 t1 (Cut old b c) → Observed t2 t0 (Cut text a c)
cut_at_end text a b c old t0 t1 t2 before now = cut text [] old text a b c t0 t1 t2 (append-nil text) before now

pub wrote_all : (text a b c old : List ℕ) (t0 t1 t2 : Type 0) → Observed t1 t0 (Pending old text a b) → Observed t2 t1 (c ≡ b ++ old) → Observed t2 t0 (c ≡ a ++ text)
wrote_all text a b c old t0 t1 t2 before now = record {
  observed = λ x. let w = now.observed x in let r = before.observed w.0 in
      (r.0, w.1 ∙ rw r.1.appended (append_assoc a r.1.written old) ∙ ap (λ q. a ++ q) r.1.whole);
}

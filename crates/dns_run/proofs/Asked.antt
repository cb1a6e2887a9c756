-- Questions are asked one by one, and the lines of their answers are written together.
use Rattle.std.proofs.Common.{◌≡◌, ℕ, List, [], ◌∷◌, ◌++◌, sym, ◌∙◌, ap, append_assoc, append-nil, arith, length, refl}
use Rattle.dns_io.specs.Causes.{Observed}
use Rattle.dns_io.specs.Moves.{Cut}
use Rattle.dns_flood.specs.CachedRules.{CachedState}
use Rattle.dns_flood.specs.Ask.{Ask}
use Rattle.dns_flood.proofs.Batches.{cut, none_kept, pushed_line}
use Rattle.dns_run.specs.Asking.{asked_behind, asked_line, asked_text}
use Rattle.dns_flood.specs.Writes.{Pending}

none_left : (s : CachedState) → asked_text s [] ≡ []
unfolding asked_text
none_left s = refl

one_first : (s : CachedState) (ask : Ask) (left : List Ask) → asked_text s (ask ∷ left) ≡ asked_line s ask ++ asked_text (asked_behind s ask) left
unfolding asked_text asked_line asked_behind
one_first s ask left = refl

-- Of a whole text the lines of the questions so far are written or kept back, where the rules and the cache, and the questions that
-- are left, make the rest.
pub record Asked (whole_text : List ℕ) (s : CachedState) (left : List Ask) (text a b : List ℕ) (now before : Type 0) : Type 0 where
  pub done : List ℕ
  pub whole : done ++ asked_text s left ≡ whole_text
  pub observed : Observed now before (Pending text done a b)

pub none_asked : (s : CachedState) (asks : List Ask) (text a : List ℕ) (now : Type 0) → text ≡ [] → Asked (asked_text s asks) s asks text a a now now
none_asked s asks text a now e = record { done = []; whole = refl; observed = rw e (none_kept a now) }

-- a line more of a text, some of which is kept back
one_told : (old line done new a b c : List ℕ) (t0 t1 t2 : Type 0) → Observed t1 t0 (Pending old done a b) → Observed t2 t1 (Pending new (old ++ line) b c) → Observed t2 t0 (Pending new (done ++ line) a c)
one_told old line done new a b c t0 t1 t2 before now = record {
  observed = λ x. let w = now.observed x in let r = before.observed w.0 in (
    r.0,
    record {
      written = r.1.written ++ w.1.written;
      appended = w.1.appended ∙ rw r.1.appended (append_assoc a r.1.written w.1.written);
      whole = append_assoc r.1.written w.1.written new ∙ ap (λ q. r.1.written ++ q) w.1.whole ∙ sym (append_assoc r.1.written old line) ∙ ap (λ q. q ++ line) r.1.whole;
    },
  );
}

-- the lines so far, that of a question, and those of the questions left
parts : (whole_text done : List ℕ) (s : CachedState) (ask : Ask) (left : List Ask) → done ++ asked_text s (ask ∷ left) ≡ whole_text → (done ++ asked_line s ask) ++ asked_text (asked_behind s ask) left ≡ whole_text
parts whole_text done s ask left whole =
    append_assoc done (asked_line s ask) (asked_text (asked_behind s ask) left) ∙ ap (λ q. done ++ q) (sym (one_first s ask left)) ∙ whole

pub one_asked : (whole_text : List ℕ) (s behind : CachedState) (ask : Ask) (left : List Ask) (old new a b c : List ℕ) (t0 t1 t2 : Type 0)
    → behind ≡ asked_behind s ask → Asked whole_text s (ask ∷ left) old a b t1 t0 → Observed t2 t1 (Pending new (old ++ asked_line s ask) b c) → Asked whole_text behind left new a c t2 t0
one_asked whole_text s behind ask left old new a b c t0 t1 t2 is before now = record {
  done = before.done ++ asked_line s ask;
  whole = ap (λ q. (before.done ++ asked_line s ask) ++ asked_text q left) is ∙ parts whole_text before.done s ask left before.whole;
  observed = one_told old (asked_line s ask) before.done new a b c t0 t1 t2 before.observed now;
}

pub cut_asked : (whole_text : List ℕ) (s : CachedState) (asks : List Ask) (ask : Ask) (left : List Ask) (old a b c : List ℕ) (t0 t1 t2 : Type 0)
    → asks ≡ ask ∷ left → Asked whole_text s asks old a b t1 t0 → Observed t2 t1 (Cut (old ++ asked_line s ask) b c) → Observed t2 t0 (Cut whole_text a c)
cut_asked whole_text s asks ask left old a b c t0 t1 t2 is before now =
    cut (before.done ++ asked_line s ask) (asked_text (asked_behind s ask) left) (old ++ asked_line s ask) whole_text a b c t0 t1 t2
    (parts whole_text before.done s ask left (ap (λ q. before.done ++ asked_text s q) (sym is) ∙ before.whole))
    (pushed_line old (asked_line s ask) before.done a b t0 t1 before.observed) now

pub all_asked : (whole_text : List ℕ) (s : CachedState) (left : List Ask) (text a b : List ℕ) (t0 t1 : Type 0) → length left ≡ 0 → Asked whole_text s left text a b t1 t0 → Observed t1 t0 (Pending text whole_text a b)
all_asked whole_text s [] text a b t0 t1 e h =
    let whole : h.done ≡ whole_text = sym (ap (λ q. h.done ++ q) (none_left s) ∙ append-nil h.done) ∙ h.whole in
    rw whole at h.observed
all_asked whole_text s (ask ∷ left) text a b t0 t1 e h = let n : length (ask ∷ left) ≡ 0 = e in absurd (omega arith)

-- How the labels of a text are read, one after the other.
use Rattle.std.proofs.Common.{◌≡◌, ℕ, suc, ◌+◌, ◌-◌, ◌*◌, ◌≤◌, ◌<◌, List, [], ◌∷◌, ◌++◌, length, take, drop, Ok, Err, Result, refl, ap, sym, ◌∙◌, arith, true, false, if◌then◌else◌, append_assoc, append-nil, length-append}
use Rattle.dns_name.specs.declared.from_text.FromTextError.{FromTextError}
use Rattle.dns_name.specs.Labels.{spell, AreLabels}
use Rattle.dns_name.specs.FromText.{Front, first_label, by_label, before_labels, labels_up_to, text_labels, is_dot, text_name, IsRefusal, Appends, Spells}
use Rattle.dns_name.proofs.FromTexts.{passed}
use Rattle.dns_name.proofs.Spelt.{take_all}

-- labels in front of those that are read after them
abbrev pub behind_done : List (List ℕ) → Result (List (List ℕ)) FromTextError → Result (List (List ℕ)) FromTextError
behind_done done (Ok ls) = Ok (done ++ ls)
behind_done done (Err e) = Err e

behind_done-nil : (r : Result (List (List ℕ)) FromTextError) → r ≡ behind_done [] r
behind_done-nil (Ok ls) = refl
behind_done-nil (Err e) = refl

behind_done-more : (done : List (List ℕ)) (l : List ℕ) (r : Result (List (List ℕ)) FromTextError) → behind_done done (before_labels l r) ≡ behind_done (done ++ (l ∷ [])) r
behind_done-more done l (Ok ls) = ap Ok (sym (append_assoc done (l ∷ []) ls))
behind_done-more done l (Err e) = refl

-- octets of labels that came before, and what is left of a text
pub record Reached (all : Result (List (List ℕ)) FromTextError) (octets text : List ℕ) : Type 0 where
  pub left : ℕ
  pub done : List (List ℕ)
  pub enough : 256 ≤ 2 * left + length octets
  pub room : length octets < 255
  pub labels : AreLabels done
  pub spelt : (ls : List (List ℕ)) → octets ++ spell ls ≡ spell (done ++ ls)
  pub reads : all ≡ behind_done done (labels_up_to left (length octets) text)

pub begun : (text : List ℕ) → Reached (text_labels text) [] text
unfolding text_labels
begun text = record { left = 128; done = []; enough = omega arith; room = omega arith; labels = tt; spelt = λ ls. refl; reads = behind_done-nil (labels_up_to 128 0 text) }

pub label_on : (go : ℕ → List ℕ → Result (List (List ℕ)) FromTextError) (size : ℕ) (l rest : List ℕ) → 2 ≤ length rest → by_label go size (Ok (l, rest)) ≡ before_labels l (go (size + length l + 1) (drop 1 rest))
label_on go size l [] h = absurd (omega arith)
label_on go size l (x ∷ []) h = absurd (omega arith)
label_on go size l (x ∷ c ∷ rest) h = refl

label_last : (go : ℕ → List ℕ → Result (List (List ℕ)) FromTextError) (size : ℕ) (l rest : List ℕ) → length rest ≤ 1 → by_label go size (Ok (l, rest)) ≡ Ok (l ∷ [])
label_last go size l [] h = refl
label_last go size l (x ∷ []) h = refl
label_last go size l (x ∷ c ∷ rest) h = absurd (omega arith)

more_labels : (done : List (List ℕ)) (l : List ℕ) → AreLabels done → 0 < length l → length l < 64 → AreLabels (done ++ (l ∷ []))
more_labels [] l a s f = (s, f, tt)
more_labels (d ∷ done) l a s f = (a.0, a.1, more_labels done l a.2 s f)

more_spelt : (octets l : List ℕ) (done : List (List ℕ)) → ((ls : List (List ℕ)) → octets ++ spell ls ≡ spell (done ++ ls)) → (ls : List (List ℕ)) → (octets ++ (length l ∷ l)) ++ spell ls ≡ spell ((done ++ (l ∷ [])) ++ ls)
more_spelt octets l done h ls = append_assoc octets (length l ∷ l) (spell ls) ∙ (h (l ∷ ls) ∙ ap spell (sym (append_assoc done (l ∷ []) ls)))

-- what is read of a text from its next label on
next : (all : Result (List (List ℕ)) FromTextError) (octets text : List ℕ) (r : Reached all octets text) (f : Front (List ℕ)) → first_label (length octets) text ≡ f → all ≡ behind_done r.done (by_label (labels_up_to (r.left - 1)) (length octets) f)
next all octets text r f h =
    let n : r.left ≡ suc (r.left - 1) = omega (arith, r.enough, r.room) in
    r.reads ∙ (ap (λ k. behind_done r.done (labels_up_to k (length octets) text)) n ∙ ap (λ x. behind_done r.done (by_label (labels_up_to (r.left - 1)) (length octets) x)) h)

length-more : (octets new l : List ℕ) → new ≡ octets ++ (length l ∷ l) → length new ≡ length octets + length l + 1
length-more octets new l h = ap length h ∙ omega (arith, length-append octets (length l ∷ l))

pub reached_more : (all : Result (List (List ℕ)) FromTextError) (octets new text rest : List ℕ) → Reached all octets text → Appends (first_label (length octets) text) octets new rest → 2 ≤ length rest → Reached all new (drop 1 rest)
reached_more all octets new text rest r a h =
    let n = length-more octets new a.label a.written in
    let e = next all octets text r (Ok (a.label, rest)) a.read_as in
    let s : length octets + length a.label + 1 ≡ length new = sym n in
    record {
      left = r.left - 1;
      done = r.done ++ (a.label ∷ []);
      enough = omega (arith, r.enough, r.room, n, a.some);
      room = a.room;
      labels = more_labels r.done a.label r.labels a.some a.few;
      spelt = λ ls. ap (λ o. o ++ spell ls) a.written ∙ more_spelt octets a.label r.done r.spelt ls;
      reads = e ∙ (ap (behind_done r.done) (label_on (labels_up_to (r.left - 1)) (length octets) a.label rest h) ∙ (behind_done-more r.done a.label _ ∙ ap (λ k. behind_done (r.done ++ (a.label ∷ [])) (labels_up_to (r.left - 1) k (drop 1 rest))) s));
    }

pub reached_end : (all : Result (List (List ℕ)) FromTextError) (octets new text rest : List ℕ) → Reached all octets text → Appends (first_label (length octets) text) octets new rest → length rest ≤ 1 → Spells all (new ++ (0 ∷ []))
reached_end all octets new text rest r a h =
    let e = next all octets text r (Ok (a.label, rest)) a.read_as in
    let w : new ++ (0 ∷ []) ≡ spell (r.done ++ (a.label ∷ [])) = ap (λ o. o ++ (0 ∷ [])) a.written ∙ (more_spelt octets a.label r.done r.spelt [] ∙ ap spell (append-nil (r.done ++ (a.label ∷ [])))) in
    record {
      labels = r.done ++ (a.label ∷ []);
      read_as = e ∙ ap (behind_done r.done) (label_last (labels_up_to (r.left - 1)) (length octets) a.label rest h);
      written = w;
      name = record { labels = more_labels r.done a.label r.labels a.some a.few; room = omega (arith, ap length w, length-append new (0 ∷ []), a.room) };
    }

pub reached_refusal : (all : Result (List (List ℕ)) FromTextError) (octets text : List ℕ) (e : FromTextError) → Reached all octets text → IsRefusal e (first_label (length octets) text) → IsRefusal e all
reached_refusal all octets text e r h = passed e (first_label (length octets) text) all (λ x k. next all octets text r (Err x) k) h

-- a text that is no dot alone
pub from_labels : (text o : List ℕ) → is_dot text ≡ false → Spells (text_labels text) o → Spells (text_name text) o
from_labels text o d s = record { labels = s.labels; read_as = ap (λ b. if b then Ok [] else text_labels text) d ∙ s.read_as; written = s.written; name = s.name }

pub from_refusal : (text : List ℕ) (e : FromTextError) → is_dot text ≡ false → IsRefusal e (text_labels text) → IsRefusal e (text_name text)
from_refusal text e d h = passed e (text_labels text) (text_name text) (λ x k. ap (λ b. if b then Ok [] else text_labels text) d ∙ k) h

-- a dot alone is the root
pub from_dot : (text o : List ℕ) → is_dot text ≡ true → o ≡ 0 ∷ [] → Spells (text_name text) o
from_dot text o d w = record { labels = []; read_as = ap (λ b. if b then Ok [] else text_labels text) d; written = w; name = record { labels = tt; room = omega arith } }

-- what stands after the first one
pub but_first : (t : List ℕ) → take (length t - 1) (drop 1 t) ≡ drop 1 t
but_first [] = refl
but_first (x ∷ t) = let e : length (x ∷ t) - 1 ≡ length t = omega arith in rw e (take_all t)

-- Octets that go on with a word or a comment, at once.
use Rattle.std.proofs.Common.{◌≡◌, ℕ, ◌+◌, List, [], ◌∷◌, ◌++◌, Bool, true, false, Option, Ok, refl, ap, subst, sym, ◌∙◌, append-nil, append_assoc, ◌-◌, ◌<◌, ◌≤◌, arith, drop, length, length-drop, slice_index_or, take}
use Rattle.std.proofs.Math.Seq.{take-length}
use Rattle.std.specs.Prelude.{◌||◌, not, nat_eq, if◌then◌else◌}
use Rattle.std.proofs.lemmas.Bool.{or_parts}
use Rattle.dns_entries.specs.Reading.{FailsAs, LineRead, ◌>>=◌}
use Rattle.dns_entries.specs.declared.reason.ZoneFileError.{ZoneFileError}
use Rattle.dns_entries.specs.declared.reason.ZoneFileError.TheVariants.{Refused, OutOfMemory}
use Rattle.dns_entries.specs.Entries.{after_octet, ends_word, goes_on_in, run_in, with_run, word_with}
use Rattle.dns_entries.specs.declared.entry.Word.{Word}
use Rattle.dns_entries.specs.declared.scan.Scan.{Scan}
use Rattle.dns_entries.specs.declared.scan.Mode.{Mode}
use Rattle.dns_entries.specs.declared.scan.Mode.TheVariants.{Start, Gap, Plain, Escaped, Quoted, QuotedEscaped, Comment}
use Rattle.dns_zone_file.specs.ZoneFile.{ZoneDraft, step, steps}

abbrev pub scan_of : Mode → ℕ → Option ℕ → Bool → List Word → List ℕ → Scan
scan_of m line o b ws w = record { mode = m; line = line; opened = o; blank = b; words = ws; word = w }

was_not : (b : Bool) → not b ≡ true → b ≡ false
was_not true h = sym h
was_not false h = refl

-- an octet that goes on is in the word, or in no word
one_more : (m : Mode) (c line : ℕ) (o : Option ℕ) (b : Bool) (ws : List Word) (w : List ℕ) (d : ZoneDraft) → goes_on_in m c ≡ true → step (scan_of m line o b ws w) d c ≡ Ok (scan_of m line o b ws (word_with m w (c ∷ [])), d)
unfolding after_octet
one_more Plain c line o b ws w d h = let p = or_parts (nat_eq c 92) (ends_word c) (was_not _ h) in rw (p.0, p.1) refl
one_more Quoted c line o b ws w d h =
    let p = or_parts (nat_eq c 34) (nat_eq c 10 || nat_eq c 92) (was_not _ h) in
    let q = or_parts (nat_eq c 10) (nat_eq c 92) p.1 in
    rw (p.0, q.0, q.1) refl
one_more Comment c line o b ws w d h = rw (was_not _ h) refl
one_more Start c line o b ws w d h = cc
one_more Gap c line o b ws w d h = cc
one_more Escaped c line o b ws w d h = cc
one_more QuotedEscaped c line o b ws w d h = cc

none_more : (m : Mode) (w : List ℕ) → word_with m w [] ≡ w
none_more Plain w = append-nil w
none_more Quoted w = append-nil w
none_more Comment w = refl
none_more Start w = refl
none_more Gap w = refl
none_more Escaped w = refl
none_more QuotedEscaped w = refl

more_behind : (m : Mode) (w : List ℕ) (c : ℕ) (run : List ℕ) → word_with m (word_with m w (c ∷ [])) run ≡ word_with m w (c ∷ run)
more_behind Plain w c run = append_assoc w (c ∷ []) run
more_behind Quoted w c run = append_assoc w (c ∷ []) run
more_behind Comment w c run = refl
more_behind Start w c run = refl
more_behind Gap w c run = refl
more_behind Escaped w c run = refl
more_behind QuotedEscaped w c run = refl

-- what is left after octets that go on
abbrev Behind : Mode → List ℕ → Type 0
Behind m text = (line : ℕ) (o : Option ℕ) (b : Bool) (ws : List Word) (w : List ℕ) (d : ZoneDraft)
    → steps (scan_of m line o b ws w) d text ≡ steps (scan_of m line o b ws (word_with m w (run_in m text))) d (drop (length (run_in m text)) text)

by_test : (m : Mode) (q : Bool) (c : ℕ) (cs : List ℕ) → Behind m cs → goes_on_in m c ≡ q → (line : ℕ) (o : Option ℕ) (b : Bool) (ws : List Word) (w : List ℕ) (d : ZoneDraft)
    → steps (scan_of m line o b ws w) d (c ∷ cs) ≡ steps (scan_of m line o b ws (word_with m w (if q then c ∷ run_in m cs else []))) d (drop (length (if q then c ∷ run_in m cs else [])) (c ∷ cs))
by_test m true c cs more h line o b ws w d =
    ap (λ (r : LineRead (Scan × ZoneDraft)). r >>= λ s. steps s.0 s.1 cs) (one_more m c line o b ws w d h) ∙ (more line o b ws (word_with m w (c ∷ [])) d ∙ ap (λ v. steps (scan_of m line o b ws v) d (drop (length (run_in m cs)) cs)) (more_behind m w c (run_in m cs)))
by_test m false c cs more h line o b ws w d = ap (λ v. steps (scan_of m line o b ws v) d (c ∷ cs)) (sym (none_more m w))

behind : (m : Mode) (text : List ℕ) → Behind m text
behind m [] line o b ws w d = ap (λ v. steps (scan_of m line o b ws v) d []) (sym (none_more m w))
behind m (c ∷ cs) line o b ws w d = by_test m (goes_on_in m c) c cs (behind m cs) refl line o b ws w d

pub run_steps : (x : Scan) (d : ZoneDraft) (text : List ℕ) → steps x d text ≡ steps (with_run x (run_in x.mode text)) d (drop (length (run_in x.mode text)) text)
run_steps x d text = behind x.mode text x.line x.opened x.blank x.words x.word d

-- ---- what comes after them

run_left : (x y : Scan) (d : ZoneDraft) (text rest : List ℕ) (n : ℕ) → n ≡ length (run_in x.mode text) → y ≡ with_run x (run_in x.mode text) → drop n text ≡ rest → steps x d text ≡ steps y d rest
run_left x y d text rest n count taken left =
    run_steps x d text ∙ (ap (λ (s : Scan). steps s d (drop (length (run_in x.mode text)) text)) (sym taken) ∙ (ap (λ (k : ℕ). steps y d (drop k text)) (sym count) ∙ ap (λ (t : List ℕ). steps y d t) left))

pub run_ended : (x y : Scan) (d : ZoneDraft) (text : List ℕ) (n : ℕ) → n ≡ length (run_in x.mode text) → y ≡ with_run x (run_in x.mode text) → drop n text ≡ [] → steps x d text ≡ Ok (y, d)
run_ended x y d text n count taken left = run_left x y d text [] n count taken left

pub run_behind : (x y z : Scan) (d e : ZoneDraft) (text cs : List ℕ) (n c : ℕ) → n ≡ length (run_in x.mode text) → y ≡ with_run x (run_in x.mode text) → drop n text ≡ c ∷ cs → step y d c ≡ Ok (z, e) → steps x d text ≡ steps z e cs
run_behind x y z d e text cs n c count taken left one = run_left x y d text (c ∷ cs) n count taken left ∙ ap (λ (r : LineRead (Scan × ZoneDraft)). r >>= λ s. steps s.0 s.1 cs) one

refused_on : (f : ZoneFileError) (r : LineRead (Scan × ZoneDraft)) (cs : List ℕ) → FailsAs f r → FailsAs f (r >>= λ s. steps s.0 s.1 cs)
refused_on OutOfMemory r cs h = tt
refused_on (Refused line reason) r cs h = ap (λ (q : LineRead (Scan × ZoneDraft)). q >>= λ s. steps s.0 s.1 cs) h

pub run_refused : (f : ZoneFileError) (x y : Scan) (d : ZoneDraft) (text cs : List ℕ) (n c : ℕ) → n ≡ length (run_in x.mode text) → y ≡ with_run x (run_in x.mode text) → drop n text ≡ c ∷ cs → FailsAs f (step y d c) → FailsAs f (steps x d text)
run_refused f x y d text cs n c count taken left one =
    let e = run_left x y d text (c ∷ cs) n count taken left in
    subst (λ (r : LineRead (Scan × ZoneDraft)). FailsAs f r) (sym e) (refused_on f (step y d c) cs one)

-- ---- what is left of a slice

rest_of : (n : ℕ) (t : List ℕ) → take (length t - n) (drop n t) ≡ drop n t
rest_of n t = ap (λ (k : ℕ). take k (drop n t)) (sym (length-drop n t)) ∙ take-length (drop n t)

none_left : (x : List ℕ) → length x < 1 → x ≡ []
none_left [] h = refl
none_left (c ∷ x) h = absurd (omega arith)

first_and_rest : (x : List ℕ) → 1 ≤ length x → x ≡ slice_index_or x 0 0 ∷ take (length x - 1) (drop 1 x)
first_and_rest [] h = absurd (omega arith)
first_and_rest (c ∷ x) h =
    let n : length (c ∷ x) - 1 ≡ length x = omega arith in
    ap (λ (t : List ℕ). c ∷ t) (sym (ap (λ (k : ℕ). take k x) n ∙ take-length x))

pub nothing_left : (n : ℕ) (t : List ℕ) → length (take (length t - n) (drop n t)) < 1 → drop n t ≡ []
nothing_left n t h = sym (rest_of n t) ∙ none_left (take (length t - n) (drop n t)) h

pub octet_left : (n : ℕ) (t : List ℕ) → 1 ≤ length (take (length t - n) (drop n t)) → drop n t ≡ slice_index_or (take (length t - n) (drop n t)) 0 0 ∷ take (length (take (length t - n) (drop n t)) - 1) (drop 1 (take (length t - n) (drop n t)))
octet_left n t h = sym (rest_of n t) ∙ first_and_rest (take (length t - n) (drop n t)) h

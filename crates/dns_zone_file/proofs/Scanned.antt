-- Words that are written in a line are scanned as these words.
use Rattle.std.proofs.Common.{◌≡◌, ℕ, ◌+◌, List, [], ◌∷◌, ◌++◌, Bool, true, false, ◌⊎◌, inl, inr, Ok, Err, None, refl, ap, sym, ◌∙◌, arith, append_assoc, append-nil}
use Rattle.std.specs.List.{AllByRecursion}
use Rattle.std.specs.Prelude.{◌&&◌, ◌||◌, not, nat_eq, if◌then◌else◌, Result}
use Rattle.std.proofs.lemmas.Bool.{and_parts, or_parts}
use Rattle.std.proofs.lemmas.Bool.Decides.{nat_tests}
use Rattle.dns_entries.specs.Reading.{LineRead, ◌>>=◌}
use Rattle.dns_entries.specs.Entries.{after_octet, scan_begins, ends_word, is_blank}
use Rattle.dns_record_text.specs.RecordText.{TextWord, bare_word, quoted_word, words_line, written}
use Rattle.dns_zone_file.specs.Lines.{IsBare, IsQuoted, IsWord, goes_on, goes_quoted, word_on, words_on}
use Rattle.dns_zone_file.specs.ZoneFile.{ZoneDraft, by_entry, step, steps, after_entry}
use Rattle.dns_entries.specs.declared.entry.Word.{Word}
use Rattle.dns_entries.specs.declared.scan.Scan.{Scan}
use Rattle.dns_entries.specs.declared.scan.Mode.{Mode}
use Rattle.dns_entries.specs.declared.scan.Mode.TheVariants.{Start, Gap, Plain, Escaped, Quoted, QuotedEscaped}

-- within a line, without parentheses
abbrev pub scanning : Mode → ℕ → List Word → List ℕ → Scan
scanning m line ws w = record { mode = m; line = line; opened = None; blank = false; words = ws; word = w }

abbrev pub mode_of : Bool → Mode
mode_of true = Escaped
mode_of false = Plain

not_true : (b : Bool) → not b ≡ true → b ≡ false
not_true true h = cc
not_true false h = refl

keep_escaped : (c line : ℕ) (ws : List Word) (v t : List ℕ) (d : ZoneDraft) → nat_eq c 10 ≡ false → steps (scanning Escaped line ws v) d (c ∷ t) ≡ steps (scanning Plain line ws (v ++ c ∷ [])) d t
unfolding after_octet
keep_escaped c line ws v t d h = rw h refl

keep_backslash : (c line : ℕ) (ws : List Word) (v t : List ℕ) (d : ZoneDraft) → nat_eq c 92 ≡ true → steps (scanning Plain line ws v) d (c ∷ t) ≡ steps (scanning Escaped line ws (v ++ c ∷ [])) d t
unfolding after_octet
keep_backslash c line ws v t d h = rw h refl

keep_plain : (c line : ℕ) (ws : List Word) (v t : List ℕ) (d : ZoneDraft) → nat_eq c 92 ≡ false → ends_word c ≡ false → steps (scanning Plain line ws v) d (c ∷ t) ≡ steps (scanning Plain line ws (v ++ c ∷ [])) d t
unfolding after_octet
keep_plain c line ws v t d h k = rw (h, k) refl

-- the octets of a word, one by one
abbrev Scans : List ℕ → Type 0
Scans w = (b : Bool) (t : List ℕ) (line : ℕ) (ws : List Word) (v : List ℕ) (d : ZoneDraft) → goes_on b w ≡ true → steps (scanning (mode_of b) line ws v) d (w ++ t) ≡ steps (scanning Plain line ws (v ++ w)) d t

plain_octet : (q : Bool) (c : ℕ) (w t : List ℕ) (line : ℕ) (ws : List Word) (v : List ℕ) (d : ZoneDraft) → Scans w → nat_eq c 92 ≡ q → (if q then goes_on true w else (not (ends_word c) && goes_on false w)) ≡ true
    → steps (scanning Plain line ws v) d (c ∷ (w ++ t)) ≡ steps (scanning Plain line ws ((v ++ c ∷ []) ++ w)) d t
plain_octet true c w t line ws v d go e h = keep_backslash c line ws v (w ++ t) d e ∙ go true t line ws (v ++ c ∷ []) d h
plain_octet false c w t line ws v d go e h =
    let p = and_parts (not (ends_word c)) (goes_on false w) h in
    keep_plain c line ws v (w ++ t) d e (not_true (ends_word c) p.0) ∙ go false t line ws (v ++ c ∷ []) d p.1

pub word_scanned : (w : List ℕ) → Scans w
word_scanned [] true t line ws v d h = cc
word_scanned [] false t line ws v d h = ap (λ u. steps (scanning Plain line ws u) d t) (sym (append-nil v))
word_scanned (c ∷ w) true t line ws v d h =
    let p = and_parts (not (nat_eq c 10)) (goes_on false w) h in
    keep_escaped c line ws v (w ++ t) d (not_true (nat_eq c 10) p.0) ∙ (word_scanned w false t line ws (v ++ c ∷ []) d p.1
    ∙ ap (λ u. steps (scanning Plain line ws u) d t) (append_assoc v (c ∷ []) w))
word_scanned (c ∷ w) false t line ws v d h =
    plain_octet (nat_eq c 92) c w t line ws v d (word_scanned w) refl h ∙ ap (λ u. steps (scanning Plain line ws u) d t) (append_assoc v (c ∷ []) w)

-- ---- the first octet of a word

record IsFirst (c : ℕ) : Type 0 where
  blank : is_blank c ≡ false
  lf : nat_eq c 10 ≡ false
  quote : nat_eq c 34 ≡ false
  opens_parenthesis : nat_eq c 40 ≡ false
  closes_parenthesis : nat_eq c 41 ≡ false
  comment : nat_eq c 59 ≡ false

is_first : (c : ℕ) → ends_word c ≡ false → IsFirst c
is_first c h =
    let a = or_parts (is_blank c) _ h in
    let b = or_parts (nat_eq c 10) _ a.1 in
    let e = or_parts (nat_eq c 34) _ b.1 in
    let f = or_parts (nat_eq c 40) _ e.1 in
    let g = or_parts (nat_eq c 41) _ f.1 in
    record { blank = a.0; lf = b.0; quote = e.0; opens_parenthesis = f.0; closes_parenthesis = g.0; comment = g.1 }

from_gap : (q : Bool) (c line : ℕ) (ws : List Word) (t : List ℕ) (d : ZoneDraft) → IsFirst c → nat_eq c 92 ≡ q → steps (scanning Gap line ws []) d (c ∷ t) ≡ steps (scanning (mode_of q) line ws (c ∷ [])) d t
unfolding after_octet
from_gap true c line ws t d h e = rw (h.blank, h.lf, h.quote, h.opens_parenthesis, h.closes_parenthesis, h.comment, e) refl
from_gap false c line ws t d h e = rw (h.blank, h.lf, h.quote, h.opens_parenthesis, h.closes_parenthesis, h.comment, e) refl

from_start : (c line : ℕ) (t : List ℕ) (d : ZoneDraft) → IsFirst c → steps (scan_begins line) d (c ∷ t) ≡ steps (scanning Gap line [] []) d (c ∷ t)
unfolding after_octet
from_start c line t d h = rw (h.blank, h.lf, h.quote, h.opens_parenthesis, h.closes_parenthesis, h.comment) refl

-- ---- a whole word, and what ends it

-- a backslash ends no word
ends_at_92 : (c : ℕ) → nat_eq c 92 ≡ true → ends_word c ≡ false
ends_at_92 c h = let e : c ≡ 92 = grind (arith, nat_tests) in rw e refl

begins_word : (q : Bool) (c : ℕ) (w : List ℕ) → nat_eq c 92 ≡ q → (if q then goes_on true w else (not (ends_word c) && goes_on false w)) ≡ true → IsFirst c × (goes_on q w ≡ true)
begins_word true c w e h = (is_first c (ends_at_92 c e), h)
begins_word false c w e h = let p = and_parts (not (ends_word c)) (goes_on false w) h in (is_first c (not_true (ends_word c) p.0), p.1)

-- the word is in, after others of its line
gap_word : (w : List ℕ) → IsBare (bare_word w) → (t : List ℕ) (line : ℕ) (ws : List Word) (d : ZoneDraft) → steps (scanning Gap line ws []) d (w ++ t) ≡ steps (scanning Plain line ws w) d t
gap_word w h t line ws d =
    let cells = h.cells in
    let goes : goes_on false (h.first ∷ h.others) ≡ true = ap (goes_on false) (sym cells) ∙ h.goes in
    let b = begins_word (nat_eq h.first 92) h.first h.others refl goes in
    rw cells (from_gap (nat_eq h.first 92) h.first line ws (h.others ++ t) d b.0 refl ∙ word_scanned h.others (nat_eq h.first 92) t line ws (h.first ∷ []) d b.1)

space_ends : (line : ℕ) (ws : List Word) (w t : List ℕ) (d : ZoneDraft) → steps (scanning Plain line ws w) d (32 ∷ t) ≡ steps (scanning Gap line (ws ++ word_on line (bare_word w) ∷ []) []) d t
unfolding after_octet
space_ends line ws w t d = refl

regroup : {A B C E : Type 0} (r : Result A E) (f : A → B) (g : B → Result C E) → ((r >>= λ a. Ok (f a)) >>= g) ≡ (r >>= λ a. g (f a))
regroup (Ok x) f g = refl
regroup (Err e) f g = refl

-- the entry of these words, and what is read after it
abbrev Entry : ℕ → List Word → List ℕ → ZoneDraft → LineRead (Scan × ZoneDraft)
Entry line ws t d = after_entry d line false ws >>= λ e. steps (scan_begins (line + 1)) e t

-- LF ends the word and the entry
lf_ends : (line : ℕ) (ws : List Word) (w t : List ℕ) (d : ZoneDraft) → steps (scanning Plain line ws w) d (10 ∷ t) ≡ Entry line (ws ++ word_on line (bare_word w) ∷ []) t d
unfolding after_octet
lf_ends line ws w t d = regroup (after_entry d line false (ws ++ word_on line (bare_word w) ∷ [])) (λ e. (scan_begins (line + 1), e)) (λ s. steps s.0 s.1 t)

-- ---- a string in quotes

abbrev quoted_mode : Bool → Mode
quoted_mode true = QuotedEscaped
quoted_mode false = Quoted

quoted_escaped : (c line : ℕ) (ws : List Word) (v t : List ℕ) (d : ZoneDraft) → nat_eq c 10 ≡ false → steps (scanning QuotedEscaped line ws v) d (c ∷ t) ≡ steps (scanning Quoted line ws (v ++ c ∷ [])) d t
unfolding after_octet
quoted_escaped c line ws v t d h = rw h refl

quoted_backslash : (c line : ℕ) (ws : List Word) (v t : List ℕ) (d : ZoneDraft) → nat_eq c 92 ≡ true → steps (scanning Quoted line ws v) d (c ∷ t) ≡ steps (scanning QuotedEscaped line ws (v ++ c ∷ [])) d t
unfolding after_octet
quoted_backslash c line ws v t d h = let e : c ≡ 92 = grind (arith, nat_tests) in rw e refl

quoted_plain : (c line : ℕ) (ws : List Word) (v t : List ℕ) (d : ZoneDraft) → nat_eq c 92 ≡ false → nat_eq c 34 ≡ false → nat_eq c 10 ≡ false → steps (scanning Quoted line ws v) d (c ∷ t) ≡ steps (scanning Quoted line ws (v ++ c ∷ [])) d t
unfolding after_octet
quoted_plain c line ws v t d h k l = rw (k, l, h) refl

abbrev ScansQuoted : List ℕ → Type 0
ScansQuoted o = (b : Bool) (t : List ℕ) (line : ℕ) (ws : List Word) (v : List ℕ) (d : ZoneDraft) → goes_quoted b o ≡ true → steps (scanning (quoted_mode b) line ws v) d (o ++ t) ≡ steps (scanning Quoted line ws (v ++ o)) d t

quoted_octet_on : (q : Bool) (c : ℕ) (o t : List ℕ) (line : ℕ) (ws : List Word) (v : List ℕ) (d : ZoneDraft) → ScansQuoted o → nat_eq c 92 ≡ q → (if q then goes_quoted true o else (not (nat_eq c 34 || nat_eq c 10) && goes_quoted false o)) ≡ true
    → steps (scanning Quoted line ws v) d (c ∷ (o ++ t)) ≡ steps (scanning Quoted line ws ((v ++ c ∷ []) ++ o)) d t
quoted_octet_on true c o t line ws v d go e h = quoted_backslash c line ws v (o ++ t) d e ∙ go true t line ws (v ++ c ∷ []) d h
quoted_octet_on false c o t line ws v d go e h =
    let p = and_parts (not (nat_eq c 34 || nat_eq c 10)) (goes_quoted false o) h in
    let q = or_parts (nat_eq c 34) (nat_eq c 10) (not_true (nat_eq c 34 || nat_eq c 10) p.0) in
    quoted_plain c line ws v (o ++ t) d e q.0 q.1 ∙ go false t line ws (v ++ c ∷ []) d p.1

string_scanned : (o : List ℕ) → ScansQuoted o
string_scanned [] true t line ws v d h = cc
string_scanned [] false t line ws v d h = ap (λ u. steps (scanning Quoted line ws u) d t) (sym (append-nil v))
string_scanned (c ∷ o) true t line ws v d h =
    let p = and_parts (not (nat_eq c 10)) (goes_quoted false o) h in
    quoted_escaped c line ws v (o ++ t) d (not_true (nat_eq c 10) p.0) ∙ (string_scanned o false t line ws (v ++ c ∷ []) d p.1
    ∙ ap (λ u. steps (scanning Quoted line ws u) d t) (append_assoc v (c ∷ []) o))
string_scanned (c ∷ o) false t line ws v d h =
    quoted_octet_on (nat_eq c 92) c o t line ws v d (string_scanned o) refl h ∙ ap (λ u. steps (scanning Quoted line ws u) d t) (append_assoc v (c ∷ []) o)

quote_begins : (line : ℕ) (ws : List Word) (t : List ℕ) (d : ZoneDraft) → steps (scanning Gap line ws []) d (34 ∷ t) ≡ steps (scanning Quoted line ws []) d t
unfolding after_octet
quote_begins line ws t d = refl

quote_ends : (line : ℕ) (ws : List Word) (o t : List ℕ) (d : ZoneDraft) → steps (scanning Quoted line ws o) d (34 ∷ t) ≡ steps (scanning Gap line (ws ++ word_on line (quoted_word o) ∷ []) []) d t
unfolding after_octet
quote_ends line ws o t d = refl

-- the string is in, after others of its line
gap_string : (o : List ℕ) → goes_quoted false o ≡ true → (t : List ℕ) (line : ℕ) (ws : List Word) (d : ZoneDraft) → steps (scanning Gap line ws []) d (written (quoted_word o) ++ t) ≡ steps (scanning Gap line (ws ++ word_on line (quoted_word o) ∷ []) []) d t
gap_string o h t line ws d =
    quote_begins line ws ((o ++ 34 ∷ []) ++ t) d
    ∙ (ap (steps (scanning Quoted line ws []) d) (append_assoc o (34 ∷ []) t) ∙ (string_scanned o false (34 ∷ t) line ws [] d h ∙ quote_ends line ws o t d))

gap_space : (line : ℕ) (ws : List Word) (t : List ℕ) (d : ZoneDraft) → steps (scanning Gap line ws []) d (32 ∷ t) ≡ steps (scanning Gap line ws []) d t
unfolding after_octet
gap_space line ws t d = refl

gap_lf : (line : ℕ) (ws : List Word) (t : List ℕ) (d : ZoneDraft) → steps (scanning Gap line ws []) d (10 ∷ t) ≡ Entry line ws t d
unfolding after_octet
gap_lf line ws t d = regroup (after_entry d line false ws) (λ e. (scan_begins (line + 1), e)) (λ s. steps s.0 s.1 t)

-- ---- a word of either kind

abbrev text_word : Bool → List ℕ → TextWord
text_word q o = record { quoted = q; octets = o }

space_behind : (q : Bool) (o : List ℕ) → IsWord (text_word q o) → (t : List ℕ) (line : ℕ) (ws : List Word) (d : ZoneDraft)
    → steps (scanning Gap line ws []) d (written (text_word q o) ++ (32 ∷ t)) ≡ steps (scanning Gap line (ws ++ word_on line (text_word q o) ∷ []) []) d t
space_behind false o (inl h) t line ws d = gap_word o h (32 ∷ t) line ws d ∙ space_ends line ws o t d
space_behind false o (inr h) t line ws d = let bad = h.quoted in cc
space_behind true o (inl h) t line ws d = let bad = h.bare in cc
space_behind true o (inr h) t line ws d = gap_string o h.goes (32 ∷ t) line ws d ∙ gap_space line (ws ++ word_on line (quoted_word o) ∷ []) t d

lf_behind : (q : Bool) (o : List ℕ) → IsWord (text_word q o) → (t : List ℕ) (line : ℕ) (ws : List Word) (d : ZoneDraft)
    → steps (scanning Gap line ws []) d (written (text_word q o) ++ (10 ∷ t)) ≡ Entry line (ws ++ word_on line (text_word q o) ∷ []) t d
lf_behind false o (inl h) t line ws d = gap_word o h (10 ∷ t) line ws d ∙ lf_ends line ws o t d
lf_behind false o (inr h) t line ws d = let bad = h.quoted in cc
lf_behind true o (inl h) t line ws d = let bad = h.bare in cc
lf_behind true o (inr h) t line ws d = gap_string o h.goes (10 ∷ t) line ws d ∙ gap_lf line (ws ++ word_on line (quoted_word o) ∷ []) t d

bare_start : (o : List ℕ) → IsBare (bare_word o) → (x : List ℕ) (line : ℕ) (d : ZoneDraft) → steps (scan_begins line) d (o ++ x) ≡ steps (scanning Gap line [] []) d (o ++ x)
bare_start o h x line d =
    let goes : goes_on false (h.first ∷ h.others) ≡ true = ap (goes_on false) (sym h.cells) ∙ h.goes in
    let b = begins_word (nat_eq h.first 92) h.first h.others refl goes in
    ap (λ u. steps (scan_begins line) d (u ++ x)) h.cells ∙ (from_start h.first line (h.others ++ x) d b.0 ∙ ap (λ u. steps (scanning Gap line [] []) d (u ++ x)) (sym h.cells))

quote_start : (line : ℕ) (t : List ℕ) (d : ZoneDraft) → steps (scan_begins line) d (34 ∷ t) ≡ steps (scanning Gap line [] []) d (34 ∷ t)
unfolding after_octet
quote_start line t d = refl

start_gap : (q : Bool) (o : List ℕ) → IsWord (text_word q o) → (x : List ℕ) (line : ℕ) (d : ZoneDraft) → steps (scan_begins line) d (written (text_word q o) ++ x) ≡ steps (scanning Gap line [] []) d (written (text_word q o) ++ x)
start_gap false o (inl h) x line d = bare_start o h x line d
start_gap false o (inr h) x line d = let bad = h.quoted in cc
start_gap true o (inl h) x line d = let bad = h.bare in cc
start_gap true o (inr h) x line d = quote_start line ((o ++ 34 ∷ []) ++ x) d

-- ---- a line

words_behind : (ws : List TextWord) (w : TextWord) (t : List ℕ) (line : ℕ) (vs : List Word) (d : ZoneDraft) → AllByRecursion IsWord (w ∷ ws)
    → steps (scanning Gap line vs []) d (words_line w ws ++ t) ≡ Entry line (vs ++ words_on line (w ∷ ws)) t d
words_behind [] w t line vs d h =
    ap (steps (scanning Gap line vs []) d) (append_assoc (written w) (10 ∷ []) t) ∙ lf_behind w.quoted w.octets h.0 t line vs d
words_behind (v ∷ ws) w t line vs d h =
    ap (steps (scanning Gap line vs []) d) (append_assoc (written w) (32 ∷ words_line v ws) t)
    ∙ (space_behind w.quoted w.octets h.0 (words_line v ws ++ t) line vs d
    ∙ (words_behind ws v t line (vs ++ word_on line w ∷ []) d h.1
    ∙ ap (λ u. Entry line u t d) (append_assoc vs (word_on line w ∷ []) (words_on line (v ∷ ws)))))

line_begun : (ws : List TextWord) (w : TextWord) (t : List ℕ) (line : ℕ) (d : ZoneDraft) → IsWord w → steps (scan_begins line) d (words_line w ws ++ t) ≡ steps (scanning Gap line [] []) d (words_line w ws ++ t)
line_begun [] w t line d h =
    let s = append_assoc (written w) (10 ∷ []) t in
    ap (steps (scan_begins line) d) s ∙ (start_gap w.quoted w.octets h (10 ∷ t) line d ∙ ap (steps (scanning Gap line [] []) d) (sym s))
line_begun (v ∷ ws) w t line d h =
    let s = append_assoc (written w) (32 ∷ words_line v ws) t in
    ap (steps (scan_begins line) d) s ∙ (start_gap w.quoted w.octets h (32 ∷ (words_line v ws ++ t)) line d ∙ ap (steps (scanning Gap line [] []) d) (sym s))

-- a line of words is one entry of these words
pub line_is_entry : (w : TextWord) (ws : List TextWord) (t : List ℕ) (line : ℕ) (d : ZoneDraft) → AllByRecursion IsWord (w ∷ ws)
    → steps (scan_begins line) d (words_line w ws ++ t) ≡ (after_entry d line false (words_on line (w ∷ ws)) >>= λ e. steps (scan_begins (line + 1)) e t)
line_is_entry w ws t line d h = line_begun ws w t line d h.0 ∙ words_behind ws w t line [] d h

-- Words that are joined by a character are the parts that it cuts, and lines that are written are the lines that are read.
use Rattle.std.proofs.Common.{◌≡◌, ℕ, ◌-◌, ◌<◌, ◌==◌, true, false, List, [], ◌∷◌, map, length, refl, ap, ◌∙◌, arith, rules, append_assoc}
use Rattle.std.specs.Prelude.{filter, flat_map, not, slice_index}
use Rattle.std.specs.Int.{is_in_range}
use Rattle.std.specs.List.{All, join_with_byte, slice_split}
use Rattle.std.specs.Str.Lines.{lines, strip_carriage_return}
use Rattle.std.proofs.lemmas.Bool.{cond-true}
use Rattle.std.proofs.lemmas.Bool.Decides.{nat_tests}
use Rattle.std.proofs.lemmas.List.Elements.{All-get_or}
use Rattle.std.proofs.lemmas.List.Splits.{slice_split_at, slice_split_none}
use Rattle.std.proofs.lemmas.List.Sums.{AllPass-from_list_all}
use Rattle.dns_trace.proofs.Cutting.{lines_at}
use Rattle.dns_trace.proofs.Ranges.{AreFrom, from_append, from_cons, lacks, wider}
use Rattle.dns_trace.specs.Spelling.{line_of_words}
use Rattle.dns_trace.specs.Words.{words_of}

-- a word of a line
pub record IsWord (w : List ℕ) : Type 0 where
  pub some : 0 < length w
  pub visible : AreFrom 33 126 w

abbrev pub AreWords : List (List ℕ) → Type 0
AreWords [] = Unit {0}
AreWords (w ∷ ws) = IsWord w × AreWords ws

-- a character cuts nothing of any part
abbrev pub AllLack : ℕ → List (List ℕ) → Type 0
AllLack c [] = Unit {0}
AllLack c (w ∷ ws) = All (λ b. (b == c) ≡ false) w × AllLack c ws

pub cut_joined : (c : ℕ) (w : List ℕ) (ws : List (List ℕ)) → AllLack c (w ∷ ws) → slice_split (λ b. b == c) (join_with_byte c (w ∷ ws)) ≡ w ∷ ws
cut_joined c w [] h = slice_split_none (λ b. b == c) w h.0
cut_joined c w (v ∷ ws) h =
    slice_split_at (λ b. b == c) w c (join_with_byte c (v ∷ ws)) h.0 (search rules)
    ∙ ap (λ (ps : List (List ℕ)). w ∷ ps) (cut_joined c v ws h.1)

words_lack : (ws : List (List ℕ)) → AreWords ws → AllLack 32 ws
words_lack [] h = tt
words_lack (w ∷ ws) h = (lacks 33 126 32 w (omega arith) h.0.visible, words_lack ws h.1)

kept_at : (w : List ℕ) → 0 < length w → not (length w == 0) ≡ true
kept_at w h = grind (arith, nat_tests)

-- none of them is empty
kept : (ws : List (List ℕ)) → AreWords ws → filter (λ w. not (length w == 0)) ws ≡ ws
kept [] h = refl
kept (w ∷ ws) h =
    cond-true (not (length w == 0)) (w ∷ filter (λ w. not (length w == 0)) ws) (filter (λ w. not (length w == 0)) ws) (kept_at w h.0.some)
    ∙ ap (λ (ps : List (List ℕ)). w ∷ ps) (kept ws h.1)

pub words_joined : (w : List ℕ) (ws : List (List ℕ)) → AreWords (w ∷ ws) → words_of (join_with_byte 32 (w ∷ ws)) ≡ w ∷ ws
words_joined w ws h =
    ap (filter (λ v. not (length v == 0))) (cut_joined 32 w ws (words_lack (w ∷ ws) h)) ∙ kept (w ∷ ws) h

-- a line of words is text
pub joined_text : (ws : List (List ℕ)) → AreWords ws → AreFrom 32 126 (join_with_byte 32 ws)
joined_text [] h = record { within = refl }
joined_text (w ∷ []) h = wider 33 126 32 126 w (omega arith) (omega arith) h.0.visible
joined_text (w ∷ v ∷ ws) h =
    from_append 32 126 w (32 ∷ join_with_byte 32 (v ∷ ws)) (wider 33 126 32 126 w (omega arith) (omega arith) h.0.visible)
    (from_cons 32 126 32 (join_with_byte 32 (v ∷ ws)) refl (joined_text (v ∷ ws) h.1))

in_text : (c : ℕ) → is_in_range 32 126 c ≡ true → (c == 13) ≡ false
in_text c h = grind (arith, nat_tests)

last_of_text : (l : List ℕ) → AreFrom 32 126 l → (slice_index l (length l - 1) == 13) ≡ false
last_of_text [] h = refl
last_of_text (c ∷ l) h =
    in_text (slice_index (c ∷ l) (length (c ∷ l) - 1))
    (All-get_or (λ x. is_in_range 32 126 x ≡ true) (c ∷ l) (length (c ∷ l) - 1) 0 (omega arith) (AllPass-from_list_all (is_in_range 32 126) (c ∷ l) h.within))

-- no CR ends it
text_stays : (l : List ℕ) → AreFrom 32 126 l → strip_carriage_return l ≡ l
text_stays l h = rw (last_of_text l h) refl

abbrev pub AllWords : List (List (List ℕ)) → Type 0
AllWords [] = Unit {0}
AllWords (ws ∷ more) = AreWords ws × AllWords more

pub lines_written : (all : List (List (List ℕ))) → AllWords all → lines (flat_map line_of_words all) ≡ map (join_with_byte 32) all
lines_written [] h = refl
lines_written (ws ∷ more) h =
    let text = joined_text ws h.0 in
    let l = join_with_byte 32 ws in
    ap lines (append_assoc l (10 ∷ []) (flat_map line_of_words more))
    ∙ lines_at l (flat_map line_of_words more) (lacks 32 126 10 l (omega arith) text)
    ∙ rw (text_stays l text, lines_written more h.1) refl

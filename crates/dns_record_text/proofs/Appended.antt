-- Octets after others, one after another.
use Rattle.std.proofs.Common.{◌≡◌, ℕ, ◌-◌, List, [], ◌∷◌, ◌++◌, Bool, true, false, append_assoc, append-nil, ap, refl, sym, ◌∙◌}
use Rattle.std.specs.Prelude.{nat_eq, if◌then◌else◌}
use Rattle.dns_record_text.specs.RecordText.{TextWord, behind_spaces, quoted_octet, quoted_word, string_words, strings_on, words_line, written}

pub regrouped : (a b c : List ℕ) → (a ++ b) ++ c ≡ a ++ (b ++ c)
regrouped a b c = append_assoc a b c

-- a line is its first word, the others after a space each, and LF
pub line_spaced : (w : TextWord) (ws : List TextWord) → words_line w ws ≡ written w ++ (behind_spaces ws ++ (10 ∷ []))
line_spaced w [] = refl
line_spaced w (v ∷ ws) =
    ap (λ t. written w ++ (32 ∷ t)) (line_spaced v ws) ∙ ap (λ t. written w ++ (32 ∷ t)) (sym (append_assoc (written v) (behind_spaces ws) (10 ∷ [])))

abbrev Spaced : ℕ → List ℕ → Type 0
Spaced left cs = (w : List ℕ) → behind_spaces (string_words left w cs) ≡ 32 ∷ 34 ∷ (w ++ strings_on left cs)

by_left : (q : Bool) (left c : ℕ) (cs w : List ℕ) → Spaced c cs → Spaced (left - 1) cs
    → behind_spaces (if q then quoted_word w ∷ string_words c [] cs else string_words (left - 1) (w ++ quoted_octet c) cs) ≡ 32 ∷ 34 ∷ (w ++ ((if q then 34 ∷ 32 ∷ 34 ∷ [] else quoted_octet c) ++ strings_on (if q then c else left - 1) cs))
by_left true left c cs w h k = ap (λ t. 32 ∷ 34 ∷ t) (ap (λ t. (w ++ 34 ∷ []) ++ t) (h []) ∙ append_assoc w (34 ∷ []) (32 ∷ 34 ∷ strings_on c cs))
by_left false left c cs w h k = k (w ++ quoted_octet c) ∙ ap (λ t. 32 ∷ 34 ∷ t) (append_assoc w (quoted_octet c) (strings_on (left - 1) cs))

-- the words of strings after a space each
strings_spaced : (cs : List ℕ) (left : ℕ) → Spaced left cs
strings_spaced [] left w = append-nil (32 ∷ 34 ∷ (w ++ 34 ∷ []))
strings_spaced (c ∷ cs) left w = by_left (nat_eq left 0) left c cs w (strings_spaced cs c) (strings_spaced cs (left - 1))

-- those of the first string on
pub text_spaced : (n : ℕ) (o : List ℕ) → behind_spaces (string_words n [] o) ≡ 32 ∷ 34 ∷ strings_on n o
text_spaced n o = strings_spaced o n []

-- Words of octets: a block of eight is the first word, and fewer than eight are the last.
use Rattle.std.proofs.Common.{◌≡◌, ℕ, suc, ◌+◌, ◌-◌, ◌*◌, ◌/◌, ◌%◌, ◌≤◌, ◌<◌, ◌^◌, List, [], ◌∷◌, ◌++◌, length, take, drop, length-drop, refl, arith, ap, sym, ◌∙◌}
use Rattle.std.specs.Prelude.{slice_index, fold}
use Rattle.std.proofs.lemmas.List.{drop-drop}
use Rattle.dns_cookie.specs.declared.siphash.State.{State}
use Rattle.dns_cookie.specs.Sip.{word, words, whole_words, take_word}

-- eight octets, read one by one, are their word
pub word_8 : (o : List ℕ) (n : ℕ) → length o ≡ 8 → n ≡ slice_index o 0 + 256 * (slice_index o 1 + 256 * (slice_index o 2 + 256 * (slice_index o 3 + 256 * (slice_index o 4 + 256 * (slice_index o 5 + 256 * (slice_index o 6 + 256 * slice_index o 7)))))) → n ≡ word o
word_8 [] n l e = absurd (omega arith)
word_8 (a ∷ []) n l e = absurd (omega arith)
word_8 (a ∷ b ∷ []) n l e = absurd (omega arith)
word_8 (a ∷ b ∷ c ∷ []) n l e = absurd (omega arith)
word_8 (a ∷ b ∷ c ∷ d ∷ []) n l e = absurd (omega arith)
word_8 (a ∷ b ∷ c ∷ d ∷ x ∷ []) n l e = absurd (omega arith)
word_8 (a ∷ b ∷ c ∷ d ∷ x ∷ f ∷ []) n l e = absurd (omega arith)
word_8 (a ∷ b ∷ c ∷ d ∷ x ∷ f ∷ g ∷ []) n l e = absurd (omega arith)
word_8 (a ∷ b ∷ c ∷ d ∷ x ∷ f ∷ g ∷ h ∷ []) n l e = omega (arith, e)
word_8 (a ∷ b ∷ c ∷ d ∷ x ∷ f ∷ g ∷ h ∷ i ∷ o) n l e = absurd (omega arith)

pub words_at : (k n : ℕ) (o : List ℕ) → length o / 8 ≡ k → words n o ≡ whole_words k o ++ (word (drop (k * 8) o) + n % 256 * 2 ^ 56) ∷ []
unfolding words
words_at k n o e = ap (λ k. whole_words k o ++ (word (drop (k * 8) o) + n % 256 * 2 ^ 56) ∷ []) e

-- fewer than eight octets make one word
pub last_alone : (n : ℕ) (o : List ℕ) → length o < 8 → words n o ≡ (word o + n % 256 * 2 ^ 56) ∷ []
last_alone n o h = words_at 0 n o (omega arith)

pub eights : (k : ℕ) (o : List ℕ) → drop (k * 8) (drop 8 o) ≡ drop (suc k * 8) o
eights k o = drop-drop (k * 8) 8 o ∙ ap (λ n. drop n o) (omega arith)

pub first_word_at : (k n : ℕ) (o : List ℕ) → length o / 8 ≡ suc k → length (drop 8 o) / 8 ≡ k → words n o ≡ word (take 8 o) ∷ words n (drop 8 o)
first_word_at k n o e l =
    words_at (suc k) n o e
    ∙ ap (λ x. word (take 8 o) ∷ (whole_words k (drop 8 o) ++ (word x + n % 256 * 2 ^ 56) ∷ [])) (sym (eights k o))
    ∙ ap (λ ws. word (take 8 o) ∷ ws) (sym (words_at k n (drop 8 o) l))

-- eight octets or more begin with their first word
pub first_word : (n : ℕ) (o : List ℕ) → 8 ≤ length o → words n o ≡ word (take 8 o) ∷ words n (drop 8 o)
first_word n o h = first_word_at (length o / 8 - 1) n o (omega arith) (omega (arith, length-drop 8 o))

-- a fold that took the first word has what follows it before it
pub fold_step : (s t : State) (m n : ℕ) (o r : List ℕ) → 8 ≤ length o → t ≡ take_word s (word (take 8 o)) → r ≡ drop 8 o → fold take_word t (words n r) ≡ fold take_word s (words n o)
fold_step s t m n o r h e f = rw (first_word n o h, e, f) refl

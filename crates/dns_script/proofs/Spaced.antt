-- Words that are written one after the other make a line.
use Rattle.std.proofs.Common.{◌≡◌, ℕ, suc, ◌+◌, ◌-◌, ◌<◌, arith, replicate, List, [], ◌∷◌, ◌++◌, ap, sym, ◌∙◌, append_assoc, append-nil}
use Rattle.std.specs.List.{join_with_byte}
use Rattle.dns_trace.specs.Spelling.{line_of_words, spaced}
use Rattle.dns_trace.proofs.Written.{joined_spaced, spaced_append}

-- a name, a word, more words and the end of the line
pub line_made : (old name x : List ℕ) (ws : List (List ℕ)) (t1 t2 t3 new : List ℕ) → t1 ≡ old ++ name → t2 ≡ t1 ++ 32 ∷ x → t3 ≡ t2 ++ spaced ws → new ≡ t3 ++ 10 ∷ []
    → new ≡ old ++ line_of_words (name ∷ x ∷ ws)
line_made old name x ws t1 t2 t3 new a b c d =
    d ∙ ap (λ t. t ++ (10 ∷ [])) (c ∙ ap (λ t. t ++ spaced ws) (b ∙ ap (λ t. t ++ (32 ∷ x)) a))
    ∙ ap (λ t. t ++ (10 ∷ [])) (append_assoc (old ++ name) (32 ∷ x) (spaced ws) ∙ append_assoc old name ((32 ∷ x) ++ spaced ws) ∙ ap (λ t. old ++ t) (sym (joined_spaced name (x ∷ ws))))
    ∙ append_assoc old (join_with_byte 32 (name ∷ x ∷ ws)) (10 ∷ [])

-- a line that is made by appending a name, a word, more words and a last word
pub longer_line_made : (old name x v : List ℕ) (ws : List (List ℕ)) (t1 t2 t3 t4 new : List ℕ) → t1 ≡ old ++ name → t2 ≡ t1 ++ 32 ∷ x → t3 ≡ t2 ++ spaced ws → t4 ≡ t3 ++ 32 ∷ v
    → new ≡ t4 ++ 10 ∷ [] → new ≡ old ++ line_of_words (name ∷ x ∷ ws ++ v ∷ [])
longer_line_made old name x v ws t1 t2 t3 t4 new a b c d e =
    let more : spaced (ws ++ v ∷ []) ≡ spaced ws ++ (32 ∷ v) = spaced_append ws (v ∷ []) ∙ ap (λ t. spaced ws ++ (32 ∷ t)) (append-nil v) in
    let all : t4 ≡ t2 ++ spaced (ws ++ v ∷ []) = d ∙ ap (λ t. t ++ (32 ∷ v)) c ∙ append_assoc t2 (spaced ws) (32 ∷ v) ∙ ap (λ t. t2 ++ t) (sym more) in
    line_made old name x (ws ++ v ∷ []) t1 t2 t4 new a b all e

-- a word of that many more
pub one_more : (text next whole w : List ℕ) (n i : ℕ) → i < n → text ++ spaced (replicate (n - i) w) ≡ whole → next ≡ text ++ 32 ∷ w → next ++ spaced (replicate (n - (i + 1)) w) ≡ whole
one_more text next whole w n i lt h is =
    let e : n - i ≡ suc (n - (i + 1)) = omega arith in
    let rest : List ℕ = spaced (replicate (n - (i + 1)) w) in
    ap (λ t. t ++ rest) is ∙ append_assoc text (32 ∷ w) rest ∙ ap (λ k. text ++ spaced (replicate k w)) (sym e) ∙ h

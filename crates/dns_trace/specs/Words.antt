-- A line is cut into words.
use Rattle.std.specs.Prelude.{ℕ, ◌==◌, not, List, [], length, filter, slice_index_or}
use Rattle.std.specs.List.{slice_split}

-- the parts between spaces, without the empty ones
abbrev pub words_of : List ℕ → List (List ℕ)
words_of l = filter (λ w. not (length w == 0)) (slice_split (λ b. b == 32) l)

-- the word of that number, from 0, or the empty one
abbrev pub word_at : List (List ℕ) → ℕ → List ℕ
word_at ws i = slice_index_or ws i []

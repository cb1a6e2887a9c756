-- A loop that changes the elements of a list, one by one.
use Rattle.std.proofs.Common.{◌≡◌, ◌∙◌, ◌+◌, ◌<◌, ℕ, List, [], ◌∷◌, ◌++◌, drop, get_or, length, set, take, arith}
use Rattle.std.proofs.lemmas.List.{drop_more, drop-set-lt, take_more, take_more_set}

module _ {X : Type 0} where
  -- the turn of the element x at a place, which becomes y: of the list as it was, and of what it is
  pub record Turn (xs ys : List X) (i : ℕ) (x y : X) : Type 0 where
    pub before : take (i + 1) xs ≡ take i xs ++ x ∷ []
    pub after : take (i + 1) (set ys i y) ≡ take i ys ++ y ∷ []
    pub rest : drop (i + 1) (set ys i y) ≡ drop (i + 1) xs

  pub turn : (xs ys : List X) (i : ℕ) (x y : X) → i < length ys → length ys ≡ length xs → x ≡ get_or ys i x → drop i ys ≡ drop i xs → Turn xs ys i x y
  turn xs ys i x y lt same is rest =
      let first : i < length xs = omega arith in
      let one : drop i ys ≡ get_or ys i x ∷ drop (i + 1) ys = drop_more ys i x lt in
      let other : drop i xs ≡ get_or xs i x ∷ drop (i + 1) xs = drop_more xs i x first in
      let more : take (i + 1) xs ≡ take i xs ++ get_or xs i x ∷ [] = take_more xs i x first in
      let heads : get_or xs i x ≡ x = cc in
      let tails : drop (i + 1) ys ≡ drop (i + 1) xs = cc in
      record {
        before = rw heads at more;
        after = take_more_set ys i y lt;
        rest = drop-set-lt (i + 1) ys i y (omega arith) ∙ tails;
      }

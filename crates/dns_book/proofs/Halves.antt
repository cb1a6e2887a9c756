-- The names of the halves of a seat.
use Rattle.std.proofs.Common.{◌≡◌, Bool, true, false, [], ◌∷◌, ◌++◌, refl, ◌∙◌, append_assoc}
use Rattle.dns_book.specs.declared.history.Known.{Known}
use Rattle.dns_book.specs.History.{SeatName, Under}
use Rattle.dns_book.specs.Seats.{IsSound, first_half, second_half}

pub below_longer : (p n : SeatName) (b : Bool) → Under (p ++ b ∷ []) n → Under p n
below_longer p n b (c, rest, e) = (b, c ∷ rest, e ∙ append_assoc p (b ∷ []) (c ∷ rest))

pub new_below : (p : SeatName) (b : Bool) → Under p (p ++ b ∷ [])
new_below p b = (b, [], refl)

not_empty : (p : SeatName) (b : Bool) → p ++ b ∷ [] ≡ [] → ⊥
not_empty [] b e = cc
not_empty (x ∷ xs) b e = cc

pub sound_first : (k : Known) → IsSound k → IsSound (first_half k)
sound_first k h = record {
  legal = h.legal;
  map = h.map;
  exact = h.exact;
  alone = λ is. absurd (not_empty k.name false is);
  below = λ n has under. h.below n has (below_longer k.name n false under);
}

pub sound_second : (k : Known) → IsSound k → IsSound (second_half k)
sound_second k h = record {
  legal = h.legal;
  map = tt;
  exact = λ n has. absurd has;
  alone = λ is. absurd (not_empty k.name true is);
  below = λ n has under. has;
}

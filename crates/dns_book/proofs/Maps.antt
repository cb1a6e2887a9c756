-- Finite maps: one name more, and two maps in one.
use Rattle.std.proofs.Common.{◌≡◌, ◌≢◌, ◌⊎◌, Bool, true, false, List, [], ◌∷◌, ◌++◌, refl, sym, ap, inl, inr, ⊎_elim}
use Rattle.dns_book.specs.declared.history.Entry.{Entry}
use Rattle.dns_book.specs.declared.history.Share.{Share}
use Rattle.dns_book.specs.History.{SeatName, same, entries_in, Has, IsMap, with_entry}
use Rattle.dns_book.proofs.Names.{same_cases, has-with}

pub map-with : (n : SeatName) (e : Entry) (m : List Share) → IsMap m → IsMap (with_entry n e m)
map-with n e [] h = ((λ f. f), tt)
map-with n e (s ∷ ss) h = ⊎_elim
    (λ (t : (n ≡ s.name) × (same n s.name ≡ true)). rw t.1 h)
    (λ (t : (n ≢ s.name) × (same n s.name ≡ false)). rw t.1
    ((λ has. ⊎_elim (λ (is : s.name ≡ n). t.0 (sym is)) (λ (g : Has s.name ss). h.0 g) (has-with s.name n e ss has)), map-with n e ss h.1))
    (same_cases n s.name)

pub has-append : (n : SeatName) (a b : List Share) → Has n (a ++ b) → Has n a ⊎ Has n b
has-append n [] b h = inr h
has-append n (s ∷ ss) b h =
    ⊎_elim (λ (is : n ≡ s.name). inl (inl is)) (λ g. ⊎_elim (λ (x : Has n ss). inl (inr x)) (λ (y : Has n b). inr y) (has-append n ss b g)) h

pub has-left : (n : SeatName) (a b : List Share) → Has n a → Has n (a ++ b)
has-left n [] b h = absurd h
has-left n (s ∷ ss) b h = ⊎_elim (λ (is : n ≡ s.name). inl is) (λ (g : Has n ss). inr (has-left n ss b g)) h

pub has-right : (n : SeatName) (a b : List Share) → Has n b → Has n (a ++ b)
has-right n [] b h = h
has-right n (s ∷ ss) b h = inr (has-right n ss b h)

pub map-append : (a b : List Share) → IsMap a → IsMap b → ((n : SeatName) → Has n a → Has n b → ⊥) → IsMap (a ++ b)
map-append [] b ha hb d = hb
map-append (s ∷ ss) b ha hb d =
    ((λ has. ⊎_elim (λ (x : Has s.name ss). ha.0 x) (λ (y : Has s.name b). d s.name (inl refl) y) (has-append s.name ss b has)), map-append ss b ha.1 hb (λ n x y. d n (inr x) y))

pub entries_in-left : (n : SeatName) (a b : List Share) → Has n a → entries_in n (a ++ b) ≡ entries_in n a
entries_in-left n [] b h = absurd h
entries_in-left n (s ∷ ss) b h = ⊎_elim
    (λ (t : (n ≡ s.name) × (same n s.name ≡ true)). rw t.1 refl)
    (λ (t : (n ≢ s.name) × (same n s.name ≡ false)). rw t.1 (⊎_elim (λ (is : n ≡ s.name). absurd (t.0 is)) (λ (g : Has n ss). entries_in-left n ss b g) h))
    (same_cases n s.name)

pub entries_in-right : (n : SeatName) (a b : List Share) → ¬ Has n a → entries_in n (a ++ b) ≡ entries_in n b
entries_in-right n [] b h = refl
entries_in-right n (s ∷ ss) b h = ⊎_elim
    (λ (t : (n ≡ s.name) × (same n s.name ≡ true)). absurd (h (inl t.0)))
    (λ (t : (n ≢ s.name) × (same n s.name ≡ false)). rw t.1 (entries_in-right n ss b (λ g. h (inr g))))
    (same_cases n s.name)

-- names under a name
abbrev tl : SeatName → SeatName
tl [] = []
tl (x ∷ xs) = xs

abbrev hd : SeatName → Bool
hd [] = true
hd (x ∷ xs) = x

pub tails : (x y : Bool) (xs ys : SeatName) → x ∷ xs ≡ y ∷ ys → xs ≡ ys
tails x y xs ys e = ap tl e

pub heads : (x y : Bool) (xs ys : SeatName) → x ∷ xs ≡ y ∷ ys → x ≡ y
heads x y xs ys e = ap hd e

-- The calls of both halves of a seat.
use Rattle.std.proofs.Common.{◌≡◌, false, List, [], ◌∷◌, ◌++◌, refl, sym, ap, ◌∙◌, subst, ⊎_elim, append_assoc, append-nil}
use Rattle.dns_admission.specs.declared.call.Call.{Call}
use Rattle.dns_admission.specs.declared.call.Reply.{Reply}
use Rattle.dns_book.specs.declared.history.Entry.{Entry}
use Rattle.dns_book.specs.declared.history.Share.{Share}
use Rattle.dns_book.specs.declared.history.Known.{Known}
use Rattle.dns_book.specs.History.{SeatName, entry, Begins, calls_by, entries_in, Has, IsMap, with_entry}
use Rattle.dns_book.specs.Seats.{IsSound, Joined, first_half, second_half}
use Rattle.dns_book.specs.Gains.{with_calls, Gained, first_name, second_name, BothMade}
use Rattle.dns_book.proofs.Names.{entries_in-with_same, with-has, has-here, has_cases}
use Rattle.dns_book.proofs.Maps.{has-left, has-right, entries_in-left, entries_in-right}
use Rattle.dns_book.proofs.Halves.{new_below}

-- the entries that were made under one name
abbrev pub AllBy : SeatName → List Entry → Type 0
AllBy n [] = Unit {0}
AllBy n (e ∷ es) = (e.by ≡ n) × AllBy n es

entries_in-calls : (n : SeatName) (es : List Entry) (m : List Share) → AllBy n es → entries_in n (with_calls es m) ≡ entries_in n m ++ es
entries_in-calls n [] m by = sym (append-nil (entries_in n m))
entries_in-calls n (e ∷ es) m by =
    let one : entries_in n (with_entry e.by e m) ≡ entries_in n m ++ e ∷ [] =
    subst (λ (k : SeatName). entries_in n (with_entry k e m) ≡ entries_in n m ++ e ∷ []) (sym by.0) (entries_in-with_same n e m) in
    entries_in-calls n es (with_entry e.by e m) by.1
    ∙ (ap (λ (l : List Entry). l ++ es) one ∙ append_assoc (entries_in n m) (e ∷ []) es)

has-calls_kept : (n : SeatName) (es : List Entry) (m : List Share) → Has n m → Has n (with_calls es m)
has-calls_kept n [] m h = h
has-calls_kept n (e ∷ es) m h = has-calls_kept n es (with_entry e.by e m) (with-has n e.by e m h)

has-calls : (n : SeatName) (e : Entry) (es : List Entry) (m : List Share) → e.by ≡ n → Has n (with_calls (e ∷ es) m)
has-calls n e es m by = has-calls_kept n es (with_entry e.by e m) (subst (λ (k : SeatName). Has n (with_entry k e m)) (sym by) (has-here n e m))

-- two parts of a map have no name together
apart_in_map : (n : SeatName) (a b : List Share) → IsMap (a ++ b) → Has n a → Has n b → ⊥
apart_in_map n [] b map x y = x
apart_in_map n (s ∷ ss) b map x y =
    ⊎_elim (λ (is : n ≡ s.name). map.0 (subst (λ (k : SeatName). Has k (ss ++ b)) is (has-right n ss b y))) (λ (h : Has n ss). apart_in_map n ss b map.1 h y) x

begins_trans : (xs ys zs : List Entry) → Begins xs ys → Begins ys zs → Begins xs zs
begins_trans xs ys zs a b = (a.0 ++ b.0, b.1 ∙ (ap (λ (l : List Entry). l ++ b.0) a.1 ∙ append_assoc xs a.0 b.0))

-- of entries es under one name that the map did not have
none_before : (n : SeatName) (es : List Entry) (m : List Share) → ¬ Has n m → AllBy n es → entries_in n (with_calls es m) ≡ es
none_before n es m fresh by =
    entries_in-calls n es m by
    ∙ ⊎_elim (λ (h : Has n m). absurd (fresh h)) (λ (h : (¬ Has n m) × (entries_in n m ≡ [])). ap (λ (l : List Entry). l ++ es) h.1) (has_cases n m)

pub both_made : (old first second new : Known) (e f : Entry) (es fs : List Entry)
    → IsSound old
    → Gained (first_half old) (e ∷ es) first → first.name ≡ first_name old → AllBy (first_name old) (e ∷ es)
    → Gained (second_half old) (f ∷ fs) second → AllBy (second_name old) (f ∷ fs)
    → Joined first second new → BothMade old (e ∷ es) (f ∷ fs) new
both_made old first second new e f es fs sound g name by h by' j =
    let p : SeatName = first_name old in
    let q : SeatName = second_name old in
    let fresh : ¬ Has p old.mine = λ has. sound.below p has (new_below old.name false) in
    let has_p : Has p first.mine = subst (λ (m : List Share). Has p m) (sym g.mine) (has-calls p e es old.mine by.0) in
    let has_q : Has q second.mine = subst (λ (m : List Share). Has q m) (sym h.mine) (has-calls q f fs [] by'.0) in
    let not_q : ¬ Has q first.mine = λ has. apart_in_map q first.mine second.mine (subst (λ (m : List Share). IsMap m) j.mine j.sound.map) has has_q in
    let in_new : (n : SeatName) → Has n (first.mine ++ second.mine) → calls_by n new.seen ≡ entries_in n (first.mine ++ second.mine) = λ n has.
    j.sound.exact n (subst (λ (m : List Share). Has n m) (sym j.mine) has) ∙ ap (λ (m : List Share). entries_in n m) j.mine in
    record {
      same_book = j.same_book ∙ g.same_book;
      name = j.same_name ∙ name;
      legal = j.sound.legal;
      seen = begins_trans old.seen first.seen new.seen g.seen j.seen;
      first = in_new p (has-left p first.mine second.mine has_p)
          ∙ (entries_in-left p first.mine second.mine has_p
          ∙ (ap (λ (m : List Share). entries_in p m) g.mine ∙ none_before p (e ∷ es) old.mine fresh by));
      second = in_new q (has-right q first.mine second.mine has_q)
          ∙ (entries_in-right q first.mine second.mine not_q
          ∙ (ap (λ (m : List Share). entries_in q m) h.mine ∙ none_before q (f ∷ fs) [] (λ has. has) by'));
      mine = j.mine ∙ (ap (λ (m : List Share). m ++ second.mine) g.mine ∙ ap (λ (m : List Share). with_calls (e ∷ es) old.mine ++ m) h.mine);
      sound = j.sound;
    }

-- two calls of each half
pub two_each : (old l r first second new : Known) (c d : Call) (x y : Reply) (c' d' : Call) (x' y' : Reply)
    → IsSound old → l ≡ first_half old → r ≡ second_half old
    → Gained l (entry l.name c x ∷ entry l.name d y ∷ []) first → first.name ≡ l.name
    → Gained r (entry r.name c' x' ∷ entry r.name d' y' ∷ []) second
    → Joined first second new
    → BothMade old (entry (first_name old) c x ∷ entry (first_name old) d y ∷ []) (entry (second_name old) c' x' ∷ entry (second_name old) d' y' ∷ []) new
two_each old l r first second new c d x y c' d' x' y' sound is is' g name h j =
    both_made old first second new _ _ _ _ sound
    (subst (λ (k : Known). Gained k (entry k.name c x ∷ entry k.name d y ∷ []) first) is g) (name ∙ ap (λ (k : Known). k.name) is) (refl, (refl, tt))
    (subst (λ (k : Known). Gained k (entry k.name c' x' ∷ entry k.name d' y' ∷ []) second) is' h) (refl, (refl, tt))
    j

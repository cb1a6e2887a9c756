-- Split and join keep the rule.
use Rattle.std.proofs.Common.{◌≡◌, ◌≢◌, ◌⊎◌, ℕ, zero, suc, Bool, true, false, List, [], ◌∷◌, ◌++◌, set, length, refl, sym, ◌∙◌, ap, subst, inl, inr, ⊎_elim, true≢false}
use mathlib.Core.Option.{some, some-injective, some-ne-none}
use mathlib.Core.Logic.{dite}
use native.Mathlib.Decide.{ℕ_discrete}
use lib.ListN.{get_elem?}
use Rattle.crossbeam_utils.specs.Register.{Forks, Merges}
use Rattle.atomic_table.proofs.Lists.{at_set, set_else, at_longer, at_last}
use Rattle.dns_events.specs.declared.look.Look.{Look as State}
use Rattle.dns_book.specs.declared.history.Entry.{Entry}
use Rattle.dns_book.specs.declared.rule.View.{View}
use Rattle.dns_book.specs.Words.{state_of}
use Rattle.dns_book.specs.History.{SeatName, Under, states_after, calls_by, entries_in, Has}
use Rattle.dns_book.specs.Rule.{gone, Owns, FitsHistory, Apart, OwnBelow, InOrder, KeptInOrder, first_view, second_view, both_of}
use Rattle.dns_book.proofs.Names.{has_cases, begins_none}
use Rattle.dns_book.proofs.Maps.{has-append, has-left, has-right, map-append, entries_in-left, entries_in-right, tails, heads}
use Rattle.dns_book.proofs.Halves.{below_longer, new_below}
use Rattle.dns_book.proofs.Turns.{set_at, only_kept}

-- two seats at a and b, and others
pub apart_two : (ns : List View) (a b : ℕ) (l r : View) (Other : ℕ → View → Type 0)
    → ((j : ℕ) (u : View) → get_elem? ns j ≡ some u → ((j ≡ a) × (l ≡ u)) ⊎ (((j ≡ b) × (r ≡ u)) ⊎ Other j u))
    → Apart l r → Apart r l
    → ((j : ℕ) (u : View) → Other j u → Apart l u × Apart u l × Apart r u × Apart u r)
    → ((i j : ℕ) (v u : View) → i ≢ j → Other i v → Other j u → Apart v u)
    → (i j : ℕ) (v u : View) → i ≢ j → get_elem? ns i ≡ some v → get_elem? ns j ≡ some u → Apart v u
apart_two ns a b l r Other cases lr rl one two i j v u ne iv ju =
    ⊎_elim
    (λ (s : (i ≡ a) × (l ≡ v)). ⊎_elim
    (λ (t : (j ≡ a) × (l ≡ u)). absurd (ne (s.0 ∙ sym t.0)))
    (λ rest. ⊎_elim
    (λ (t : (j ≡ b) × (r ≡ u)). subst (λ (z : View). Apart z u) s.1 (subst (λ (z : View). Apart l z) t.1 lr))
    (λ (t : Other j u). subst (λ (z : View). Apart z u) s.1 (one j u t).0)
    rest)
    (cases j u ju))
    (λ rest. ⊎_elim
    (λ (s : (i ≡ b) × (r ≡ v)). ⊎_elim
    (λ (t : (j ≡ a) × (l ≡ u)). subst (λ (z : View). Apart z u) s.1 (subst (λ (z : View). Apart r z) t.1 rl))
    (λ rest'. ⊎_elim
    (λ (t : (j ≡ b) × (r ≡ u)). absurd (ne (s.0 ∙ sym t.0)))
    (λ (t : Other j u). subst (λ (z : View). Apart z u) s.1 (one j u t).2)
    rest')
    (cases j u ju))
    (λ (s : Other i v). ⊎_elim
    (λ (t : (j ≡ a) × (l ≡ u)). subst (λ (z : View). Apart v z) t.1 (one i v s).1)
    (λ rest'. ⊎_elim
    (λ (t : (j ≡ b) × (r ≡ u)). subst (λ (z : View). Apart v z) t.1 (one i v s).3)
    (λ (t : Other j u). two i j v u ne s t)
    rest')
    (cases j u ju))
    rest)
    (cases i v iv)

-- a fact of each seat, for two at a and b, and others
pub all_two : (ns : List View) (a b : ℕ) (l r : View) (Other : ℕ → View → Type 0) (P : View → Type 0)
    → ((j : ℕ) (u : View) → get_elem? ns j ≡ some u → ((j ≡ a) × (l ≡ u)) ⊎ (((j ≡ b) × (r ≡ u)) ⊎ Other j u))
    → P l → P r → ((j : ℕ) (u : View) → Other j u → P u) → (j : ℕ) (u : View) → get_elem? ns j ≡ some u → P u
all_two ns a b l r Other P cases pl pr po j u ju =
    ⊎_elim (λ (t : (j ≡ a) × (l ≡ u)). subst P t.1 pl)
    (λ rest. ⊎_elim (λ (t : (j ≡ b) × (r ≡ u)). subst P t.1 pr) (λ (t : Other j u). po j u t) rest)
    (cases j u ju)

-- a seat that was taken in owns nothing
gone_owns : (n : SeatName) → Owns gone n → ⊥
gone_owns n o = true≢false (sym o.0)

gone_left : (u : View) → Apart gone u
gone_left u = record { names = λ n o p. gone_owns n o; below = λ n l o b. true≢false (sym l) }

gone_right : (u : View) → Apart u gone
gone_right u = record { names = λ n o p. gone_owns n p; below = λ n l o b. gone_owns n o }

gone_below : OwnBelow gone
gone_below n o b = gone_owns n o

gone_fits : (opening : State) (log : List Entry) → FitsHistory opening log gone
gone_fits opening log = record {
  ready = refl;
  start = λ l. absurd (true≢false (sym l));
  seen = begins_none log;
  handed = begins_none log;
  mine = λ n o. absurd (gone_owns n o);
  map = tt;
}

-- where a view stands after a split
snoc_at : (l : List View) (a b : View) (j : ℕ) → get_elem? (l ++ a ∷ []) j ≡ some b → ((j ≡ length l) × (a ≡ b)) ⊎ (get_elem? l j ≡ some b)
snoc_at [] a b zero e = inl (refl, some-injective a b e)
snoc_at [] a b (suc j) e = absurd (some-ne-none b (sym e))
snoc_at (x ∷ xs) a b zero e = inr e
snoc_at (x ∷ xs) a b (suc j) e = ⊎_elim (λ (t : (j ≡ length xs) × (a ≡ b)). inl (ap suc t.0, t.1)) (λ (t : get_elem? xs j ≡ some b). inr t) (snoc_at xs a b j e)

abbrev Elsewhere : List View → ℕ → ℕ → View → Type 0
Elsewhere views id j u = (j ≢ id) × (get_elem? views j ≡ some u)

fork_cases : (views : List View) (id : ℕ) (l r : View) (j : ℕ) (u : View) → get_elem? (set views id l ++ r ∷ []) j ≡ some u
    → ((j ≡ id) × (l ≡ u)) ⊎ (((j ≡ length (set views id l)) × (r ≡ u)) ⊎ Elsewhere views id j u)
fork_cases views id l r j u e =
    ⊎_elim (λ (t : (j ≡ length (set views id l)) × (r ≡ u)). inr (inl t))
    (λ (t : get_elem? (set views id l) j ≡ some u). ⊎_elim (λ (s : (j ≡ id) × (l ≡ u)). inl s) (λ (s : (j ≢ id) × (get_elem? views j ≡ some u)). inr (inr s)) (at_set views id j l u t))
    (snoc_at (set views id l) r u j e)

-- who owned a name
abbrev Owned : List View → SeatName → Type 0
Owned views n = (j : ℕ) × (u : View) × (get_elem? views j ≡ some u) × Owns u n

-- the owner is the seat at id, or stands elsewhere
owner_cases : (views : List View) (id : ℕ) (v : View) (n : SeatName) → get_elem? views id ≡ some v → Owned views n
    → Owns v n ⊎ ((j : ℕ) × (u : View) × Elsewhere views id j u × Owns u n)
owner_cases views id v n at (j, u, e, o) =
    dite (ℕ_discrete j id)
    (λ (is : j ≡ id). inl (subst (λ (z : View). Owns z n) (some-injective u v (sym e ∙ (ap (λ (k : ℕ). get_elem? views k) is ∙ at))) o))
    (λ (ne : j ≢ id). inr (j, u, (ne, e), o))

left_at : (views : List View) (id : ℕ) (v l r : View) → get_elem? views id ≡ some v → get_elem? (set views id l ++ r ∷ []) id ≡ some l
left_at views id v l r at = at_longer (set views id l) (r ∷ []) id l (set_at views id v l at)

right_at : (views : List View) (id : ℕ) (l r : View) → get_elem? (set views id l ++ r ∷ []) (length (set views id l)) ≡ some r
right_at views id l r = at_last (set views id l) r (length (set views id l)) refl

else_at : (views : List View) (id j : ℕ) (l r u : View) → Elsewhere views id j u → get_elem? (set views id l ++ r ∷ []) j ≡ some u
else_at views id j l r u e = at_longer (set views id l) (r ∷ []) j u (set_else views id j l e.0 ∙ e.1)

-- a seat goes on as another pass
hand_order : (opening : State) (log : List Entry) (views : List View) (id : ℕ) (v : View) → get_elem? views id ≡ some v → InOrder opening log views
    → InOrder opening log (set views id gone ++ v ∷ [])
hand_order opening log views id v at o =
    let cases = fork_cases views id gone v in
    record {
      legal = o.legal;
      fits = all_two (set views id gone ++ v ∷ []) id (length (set views id gone)) gone v (Elsewhere views id) (FitsHistory opening log) cases (gone_fits opening log) (o.fits id v at) (λ j u e. o.fits j u e.1);
      own = all_two (set views id gone ++ v ∷ []) id (length (set views id gone)) gone v (Elsewhere views id) OwnBelow cases gone_below (o.own id v at) (λ j u e. o.own j u e.1);
      apart = apart_two (set views id gone ++ v ∷ []) id (length (set views id gone)) gone v (Elsewhere views id) cases (gone_left v) (gone_right v)
          (λ j u e. (gone_left u, gone_right u, o.apart id j v u (λ is. e.0 (sym is)) at e.1, o.apart j id u v e.0 e.1 at))
          (λ i j a b ne e f. o.apart i j a b ne e.1 f.1);
      known = λ n. ⊎_elim (λ (none : calls_by n log ≡ []). inl none)
          (λ (who : Owned views n). inr (⊎_elim
          (λ (own : Owns v n). (length (set views id gone), v, right_at views id gone v, own))
          (λ (other : (j : ℕ) × (u : View) × Elsewhere views id j u × Owns u n). (other.0, other.1, else_at views id other.0 gone v other.1 other.2, other.3))
          (owner_cases views id v n at who)))
          (o.known n);
    }

pub hand_forks : (id : ℕ) (v : View) → v.opened ≡ true → Forks KeptInOrder id v gone v
hand_forks id v ready x views h at = go (only_kept x views id v ready at h)
  where
    go : (opening : State) × (log : List Entry) × (state_of x ≡ states_after opening log) × InOrder opening log views → KeptInOrder x (set views id gone ++ v ∷ [])
    go (opening, log, st, o) = inr (opening, log, st, hand_order opening log views id v at o)

-- names below a name
not_below : (p : SeatName) (b c : Bool) → Under (p ++ b ∷ []) (p ++ c ∷ []) → ⊥
not_below [] b c (d, rest, e) = let h : [] ≡ d ∷ rest = tails c b [] (d ∷ rest) e in cc
not_below (x ∷ xs) b c (d, rest, e) = not_below xs b c (d, rest, tails x x (xs ++ c ∷ []) ((xs ++ b ∷ []) ++ d ∷ rest) e)

not_same : (p : SeatName) → p ++ false ∷ [] ≡ p ++ true ∷ [] → ⊥
not_same [] e = true≢false (sym (heads false true [] [] e))
not_same (x ∷ xs) e = not_same xs (tails x x (xs ++ false ∷ []) (xs ++ true ∷ []) e)

split_below : (q p : SeatName) (b : Bool) → Under q (p ++ b ∷ []) → (q ≡ p) ⊎ Under q p
split_below [] [] b u = inl refl
split_below [] (x ∷ xs) b u = inr (x, xs, refl)
split_below (y ∷ []) [] b (c, rest, e) = let h : [] ≡ c ∷ rest = tails b y [] (c ∷ rest) e in absurd cc
split_below (y ∷ z ∷ zs) [] b (c, rest, e) = let h : [] ≡ z ∷ (zs ++ c ∷ rest) = tails b y [] (z ∷ (zs ++ c ∷ rest)) e in absurd cc
split_below (y ∷ ys) (x ∷ xs) b (c, rest, e) =
    let first : x ≡ y = heads x y (xs ++ b ∷ []) (ys ++ c ∷ rest) e in
    ⊎_elim (λ (is : ys ≡ xs). inl (ap (λ (l : SeatName). y ∷ l) is ∙ ap (λ (k : Bool). k ∷ xs) (sym first)))
    (λ (t : Under ys xs). inr (t.0, t.1, ap (λ (l : SeatName). x ∷ l) t.2 ∙ ap (λ (k : Bool). k ∷ (ys ++ t.0 ∷ t.1)) first))
    (split_below ys xs b (c, rest, tails x y (xs ++ b ∷ []) (ys ++ c ∷ rest) e))

first_owns : (v : View) (n : SeatName) → v.live ≡ true → Owns (first_view v) n → (n ≡ v.known.name ++ false ∷ []) ⊎ Owns v n
first_owns v n live o = ⊎_elim (λ (is : n ≡ v.known.name ++ false ∷ []). inl is) (λ (h : Has n v.known.mine). inr (live, inr h)) o.1

second_owns : (v : View) (n : SeatName) → Owns (second_view v) n → n ≡ v.known.name ++ true ∷ []
second_owns v n o = ⊎_elim (λ (is : n ≡ v.known.name ++ true ∷ []). is) (λ f. absurd f) o.1

-- no seat owns a name that is yet to be made
fresh_name : (opening : State) (log : List Entry) (views : List View) (id : ℕ) (v : View) (b : Bool) → v.live ≡ true → get_elem? views id ≡ some v → InOrder opening log views
    → Owned views (v.known.name ++ b ∷ []) → ⊥
fresh_name opening log views id v b live at o who = ⊎_elim
    (λ (own : Owns v (v.known.name ++ b ∷ [])). o.own id v at (v.known.name ++ b ∷ []) own (new_below v.known.name b))
    (λ (other : (j : ℕ) × (u : View) × Elsewhere views id j u × Owns u (v.known.name ++ b ∷ [])).
    (o.apart id other.0 v other.1 (λ is. other.2.0 (sym is)) at other.2.1).below (v.known.name ++ b ∷ []) live other.3 (new_below v.known.name b))
    (owner_cases views id v (v.known.name ++ b ∷ []) at who)

fresh_calls : (opening : State) (log : List Entry) (views : List View) (id : ℕ) (v : View) (b : Bool) → v.live ≡ true → get_elem? views id ≡ some v → InOrder opening log views
    → calls_by (v.known.name ++ b ∷ []) log ≡ []
fresh_calls opening log views id v b live at o =
    ⊎_elim (λ (none : calls_by (v.known.name ++ b ∷ []) log ≡ []). none) (λ (who : Owned views (v.known.name ++ b ∷ [])). absurd (fresh_name opening log views id v b live at o who)) (o.known (v.known.name ++ b ∷ []))

-- a seat elsewhere is apart from a half
half_left : (v u w : View) (b : Bool) → v.live ≡ true → Apart v u → (Owns u (v.known.name ++ b ∷ []) → ⊥) → w.known.name ≡ v.known.name ++ b ∷ [] → ((n : SeatName) → Owns w n → (n ≡ v.known.name ++ b ∷ []) ⊎ Owns v n)
    → Apart w u
half_left v u w b live a fresh is owns = record {
  names = λ n o p. ⊎_elim (λ (e : n ≡ v.known.name ++ b ∷ []). fresh (subst (λ (m : SeatName). Owns u m) e p)) (λ (q : Owns v n). a.names n q p) (owns n o);
  below = λ n l p under. a.below n live p (below_longer v.known.name n b (subst (λ (m : SeatName). Under m n) is under));
}

half_right : (v u w : View) (b : Bool) → v.live ≡ true → Apart u v → (Owns u (v.known.name ++ b ∷ []) → ⊥) → ((n : SeatName) → Owns w n → (n ≡ v.known.name ++ b ∷ []) ⊎ Owns v n) → Apart u w
half_right v u w b live a fresh owns = record {
  names = λ n p o. ⊎_elim (λ (e : n ≡ v.known.name ++ b ∷ []). fresh (subst (λ (m : SeatName). Owns u m) e p)) (λ (q : Owns v n). a.names n p q) (owns n o);
  below = λ n l o under. ⊎_elim
      (λ (e : n ≡ v.known.name ++ b ∷ []). ⊎_elim
      (λ (same_name : u.known.name ≡ v.known.name). a.names u.known.name (l, inl refl) (live, inl same_name))
      (λ (t : Under u.known.name v.known.name). a.below v.known.name l (live, inl refl) t)
      (split_below u.known.name v.known.name b (subst (λ (m : SeatName). Under u.known.name m) e under)))
      (λ (q : Owns v n). a.below n l q under)
      (owns n o);
}

first_second : (v : View) → v.live ≡ true → OwnBelow v → Apart (first_view v) (second_view v)
first_second v live own = record {
  names = λ n o p. let e = second_owns v n p in ⊎_elim
      (λ (is : n ≡ v.known.name ++ false ∷ []). not_same v.known.name (sym is ∙ e))
      (λ (q : Owns v n). own n q (subst (λ (m : SeatName). Under v.known.name m) (sym e) (new_below v.known.name true)))
      (first_owns v n live o);
  below = λ n l p under. not_below v.known.name false true (subst (λ (m : SeatName). Under (v.known.name ++ false ∷ []) m) (second_owns v n p) under);
}

second_first : (v : View) → v.live ≡ true → OwnBelow v → Apart (second_view v) (first_view v)
second_first v live own = record {
  names = λ n p o. (first_second v live own).names n o p;
  below = λ n l o under. ⊎_elim
      (λ (is : n ≡ v.known.name ++ false ∷ []). not_below v.known.name true false (subst (λ (m : SeatName). Under (v.known.name ++ true ∷ []) m) is under))
      (λ (q : Owns v n). own n q (below_longer v.known.name n true under))
      (first_owns v n live o);
}

first_below : (v : View) → v.live ≡ true → OwnBelow v → OwnBelow (first_view v)
first_below v live own n o under = ⊎_elim
    (λ (is : n ≡ v.known.name ++ false ∷ []). not_below v.known.name false false (subst (λ (m : SeatName). Under (v.known.name ++ false ∷ []) m) is under))
    (λ (q : Owns v n). own n q (below_longer v.known.name n false under))
    (first_owns v n live o)

second_below : (v : View) → OwnBelow (second_view v)
second_below v n o under = not_below v.known.name true true (subst (λ (m : SeatName). Under (v.known.name ++ true ∷ []) m) (second_owns v n o) under)

fork_order : (opening : State) (log : List Entry) (views : List View) (id : ℕ) (v : View) → v.live ≡ true → get_elem? views id ≡ some v → InOrder opening log views
    → InOrder opening log (set views id (first_view v) ++ second_view v ∷ [])
fork_order opening log views id v live at o =
    let l : View = first_view v in
    let r : View = second_view v in
    let ns : List View = set views id l ++ r ∷ [] in
    let end : ℕ = length (set views id l) in
    let cases = fork_cases views id l r in
    let f = o.fits id v at in
    let own : OwnBelow v = o.own id v at in
    let fresh : (b : Bool) (j : ℕ) (u : View) → Elsewhere views id j u → Owns u (v.known.name ++ b ∷ []) → ⊥ = λ b j u e p. fresh_name opening log views id v b live at o (j, u, e.1, p) in
    let none_in : entries_in (v.known.name ++ false ∷ []) v.known.mine ≡ [] = ⊎_elim
    (λ (h : Has (v.known.name ++ false ∷ []) v.known.mine). absurd (own (v.known.name ++ false ∷ []) (live, inr h) (new_below v.known.name false)))
    (λ (h : (¬ Has (v.known.name ++ false ∷ []) v.known.mine) × (entries_in (v.known.name ++ false ∷ []) v.known.mine ≡ [])). h.1)
    (has_cases (v.known.name ++ false ∷ []) v.known.mine) in
    let fits_l : FitsHistory opening log l = record {
      ready = f.ready;
      start = f.start;
      seen = f.seen;
      handed = f.handed;
      mine = λ n p. ⊎_elim
          (λ (is : n ≡ v.known.name ++ false ∷ []). subst (λ (m : SeatName). calls_by m log ≡ entries_in m v.known.mine) (sym is) (fresh_calls opening log views id v false live at o ∙ sym none_in))
          (λ (q : Owns v n). f.mine n q)
          (first_owns v n live p);
      map = f.map;
    } in
    let fits_r : FitsHistory opening log r = record {
      ready = f.ready;
      start = f.start;
      seen = f.seen;
      handed = f.handed;
      mine = λ n p. subst (λ (m : SeatName). calls_by m log ≡ []) (sym (second_owns v n p)) (fresh_calls opening log views id v true live at o);
      map = tt;
    } in
    record {
      legal = o.legal;
      fits = all_two ns id end l r (Elsewhere views id) (FitsHistory opening log) cases fits_l fits_r (λ j u e. o.fits j u e.1);
      own = all_two ns id end l r (Elsewhere views id) OwnBelow cases (first_below v live own) (second_below v) (λ j u e. o.own j u e.1);
      apart = apart_two ns id end l r (Elsewhere views id) cases (first_second v live own) (second_first v live own)
          (λ j u e.
          let vu : Apart v u = o.apart id j v u (λ is. e.0 (sym is)) at e.1 in
          let uv : Apart u v = o.apart j id u v e.0 e.1 at in (
            half_left v u l false live vu (fresh false j u e) refl (λ n p. first_owns v n live p),
            half_right v u l false live uv (fresh false j u e) (λ n p. first_owns v n live p),
            half_left v u r true live vu (fresh true j u e) refl (λ n p. inl (second_owns v n p)),
            half_right v u r true live uv (fresh true j u e) (λ n p. inl (second_owns v n p)),
          ))
          (λ i j a b ne e g. o.apart i j a b ne e.1 g.1);
      known = λ n. ⊎_elim (λ (none : calls_by n log ≡ []). inl none)
          (λ (who : Owned views n). ⊎_elim
          (λ (p : Owns v n). ⊎_elim
          (λ (h : Has n v.known.mine). inr (id, l, left_at views id v l r at, (live, inr h)))
          (λ (h : (¬ Has n v.known.mine) × (entries_in n v.known.mine ≡ [])). inl (f.mine n p ∙ h.1))
          (has_cases n v.known.mine))
          (λ (other : (j : ℕ) × (u : View) × Elsewhere views id j u × Owns u n). inr (other.0, other.1, else_at views id other.0 l r other.1 other.2, other.3))
          (owner_cases views id v n at who))
          (o.known n);
    }

pub split_forks : (id : ℕ) (v : View) → v.opened ≡ true → v.live ≡ true → Forks KeptInOrder id v (first_view v) (second_view v)
split_forks id v ready live x views h at = go (only_kept x views id v ready at h)
  where
    go : (opening : State) × (log : List Entry) × (state_of x ≡ states_after opening log) × InOrder opening log views → KeptInOrder x (set views id (first_view v) ++ second_view v ∷ [])
    go (opening, log, st, o) = inr (opening, log, st, fork_order opening log views id v live at o)

-- two seats in one
both_owns : (v w : View) (n : SeatName) → v.live ≡ true → w.live ≡ true → Owns (both_of v w) n → Owns v n ⊎ Has n w.known.mine
both_owns v w n live live' o =
    ⊎_elim (λ (is : n ≡ v.known.name). inl (live, inl is)) (λ h. ⊎_elim (λ (a : Has n v.known.mine). inl (live, inr a)) (λ (b : Has n w.known.mine). inr b) (has-append n v.known.mine w.known.mine h)) o.1

both_left : (v w u : View) → v.live ≡ true → w.live ≡ true → Apart v u → Apart w u → Apart (both_of v w) u
both_left v w u live live' a b = record {
  names = λ n o p. ⊎_elim (λ (q : Owns v n). a.names n q p) (λ (q : Has n w.known.mine). b.names n (live', inr q) p) (both_owns v w n live live' o);
  below = λ n l p under. a.below n live p under;
}

both_right : (v w u : View) → v.live ≡ true → w.live ≡ true → Apart u v → Apart u w → Apart u (both_of v w)
both_right v w u live live' a b = record {
  names = λ n p o. ⊎_elim (λ (q : Owns v n). a.names n p q) (λ (q : Has n w.known.mine). b.names n p (live', inr q)) (both_owns v w n live live' o);
  below = λ n l o under. ⊎_elim (λ (q : Owns v n). a.below n l q under) (λ (q : Has n w.known.mine). b.below n l (live', inr q) under) (both_owns v w n live live' o);
}

both_below : (v w : View) → v.live ≡ true → w.live ≡ true → OwnBelow v → Apart v w → OwnBelow (both_of v w)
both_below v w live live' own a n o under = ⊎_elim (λ (q : Owns v n). own n q under) (λ (q : Has n w.known.mine). a.below n live (live', inr q) under) (both_owns v w n live live' o)

both_fits : (opening : State) (log : List Entry) (v w : View) → v.live ≡ true → w.live ≡ true → Apart v w → FitsHistory opening log v → FitsHistory opening log w → FitsHistory opening log (both_of v w)
both_fits opening log v w live live' a f g = record {
  ready = f.ready;
  start = f.start;
  seen = f.seen;
  handed = g.seen;
  mine = λ n o. ⊎_elim
      (λ (h : Has n v.known.mine). f.mine n (live, inr h) ∙ sym (entries_in-left n v.known.mine w.known.mine h))
      (λ (h : (¬ Has n v.known.mine) × (entries_in n v.known.mine ≡ [])).
      ⊎_elim
      (λ (q : Owns v n). ⊎_elim
      (λ (k : Has n w.known.mine). absurd (a.names n q (live', inr k)))
      (λ (k : (¬ Has n w.known.mine) × (entries_in n w.known.mine ≡ [])). f.mine n q ∙ (h.1 ∙ (sym k.1 ∙ sym (entries_in-right n v.known.mine w.known.mine h.0))))
      (has_cases n w.known.mine))
      (λ (q : Has n w.known.mine). g.mine n (live', inr q) ∙ sym (entries_in-right n v.known.mine w.known.mine h.0))
      (both_owns v w n live live' o))
      (has_cases n v.known.mine);
  map = map-append v.known.mine w.known.mine f.map g.map (λ n x y. a.names n (live, inr x) (live', inr y));
}

abbrev Outside : List View → ℕ → ℕ → ℕ → View → Type 0
Outside views p q j u = (j ≢ p) × (j ≢ q) × (get_elem? views j ≡ some u)

merge_cases : (views : List View) (p q : ℕ) (b g : View) (j : ℕ) (u : View) → get_elem? (set (set views p b) q g) j ≡ some u
    → ((j ≡ q) × (g ≡ u)) ⊎ (((j ≡ p) × (b ≡ u)) ⊎ Outside views p q j u)
merge_cases views p q b g j u e =
    ⊎_elim (λ (t : (j ≡ q) × (g ≡ u)). inl t)
    (λ (t : (j ≢ q) × (get_elem? (set views p b) j ≡ some u)). ⊎_elim (λ (s : (j ≡ p) × (b ≡ u)). inr (inl s)) (λ (s : (j ≢ p) × (get_elem? views j ≡ some u)). inr (inr (s.0, t.0, s.1))) (at_set views p j b u t.1))
    (at_set (set views p b) q j g u e)

merge_order : (opening : State) (log : List Entry) (views : List View) (p q : ℕ) (v w : View) → v.live ≡ true → w.live ≡ true → q ≢ p → get_elem? views p ≡ some v → get_elem? views q ≡ some w
    → InOrder opening log views → InOrder opening log (set (set views p (both_of v w)) q gone)
merge_order opening log views p q v w live live' ne at at' o =
    let b : View = both_of v w in
    let ns : List View = set (set views p b) q gone in
    let cases = merge_cases views p q b gone in
    let vw : Apart v w = o.apart p q v w (λ is. ne (sym is)) at at' in
    let here : get_elem? ns p ≡ some b = set_else (set views p b) q p gone (λ is. ne (sym is)) ∙ set_at views p v b at in
    record {
      legal = o.legal;
      fits = all_two ns q p gone b (Outside views p q) (FitsHistory opening log) cases (gone_fits opening log) (both_fits opening log v w live live' vw (o.fits p v at) (o.fits q w at')) (λ j u e. o.fits j u e.2);
      own = all_two ns q p gone b (Outside views p q) OwnBelow cases gone_below (both_below v w live live' (o.own p v at) vw) (λ j u e. o.own j u e.2);
      apart = apart_two ns q p gone b (Outside views p q) cases (gone_left b) (gone_right b)
          (λ j u e. (
            gone_left u,
            gone_right u,
            both_left v w u live live' (o.apart p j v u (λ is. e.0 (sym is)) at e.2) (o.apart q j w u (λ is. e.1 (sym is)) at' e.2),
            both_right v w u live live' (o.apart j p u v e.0 e.2 at) (o.apart j q u w e.1 e.2 at'),
          ))
          (λ i j a c ne' e f. o.apart i j a c ne' e.2 f.2);
      known = λ n. ⊎_elim (λ (none : calls_by n log ≡ []). inl none)
          (λ (who : Owned views n). ⊎_elim
          (λ (own : Owns v n). inr (p, b, here, (live, ⊎_elim (λ (is : n ≡ v.known.name). inl is) (λ (h : Has n v.known.mine). inr (has-left n v.known.mine w.known.mine h)) own.1)))
          (λ (other : (j : ℕ) × (u : View) × Elsewhere views p j u × Owns u n).
          dite (ℕ_discrete other.0 q)
          (λ (is : other.0 ≡ q).
          let own : Owns w n = subst (λ (z : View). Owns z n) (some-injective other.1 w (sym other.2.1 ∙ (ap (λ (k : ℕ). get_elem? views k) is ∙ at'))) other.3 in
          ⊎_elim (λ (h : Has n w.known.mine). inr (p, b, here, (live, inr (has-right n v.known.mine w.known.mine h))))
          (λ (h : (¬ Has n w.known.mine) × (entries_in n w.known.mine ≡ [])). inl ((o.fits q w at').mine n own ∙ h.1))
          (has_cases n w.known.mine))
          (λ (nq : other.0 ≢ q).
          inr (other.0, other.1, set_else (set views p b) q other.0 gone nq ∙ (set_else views p other.0 b other.2.0 ∙ other.2.1), other.3)))
          (owner_cases views p v n at who))
          (o.known n);
    }

pub join_merges : (p q : ℕ) (v w : View) → v.opened ≡ true → v.live ≡ true → w.live ≡ true → Merges KeptInOrder p v q w (both_of v w) gone
join_merges p q v w ready live live' x views h at ne at' = go (only_kept x views p v ready at h)
  where
    there : get_elem? views q ≡ some w
    there = sym (set_else views p q (both_of v w) ne) ∙ at'

    go : (opening : State) × (log : List Entry) × (state_of x ≡ states_after opening log) × InOrder opening log views → KeptInOrder x (set (set views p (both_of v w)) q gone)
    go (opening, log, st, o) = inr (opening, log, st, merge_order opening log views p q v w live live' ne at there o)

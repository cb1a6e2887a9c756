-- That a step keeps the rule.
use Rattle.std.proofs.Common.{◌≡◌, ◌≢◌, ℕ, zero, suc, Bool, true, false, nat_eq, if◌then◌else◌, List, [], ◌∷◌, ◌++◌, set, refl, sym, ◌∙◌, ap, subst, inl, inr, ⊎_elim, true≢false}
use mathlib.Core.Option.{some, some-injective, some-ne-none}
use mathlib.Core.Logic.{dite}
use native.Mathlib.Decide.{ℕ_discrete}
use lib.ListN.{get_elem?}
use lib.Pointwise.{pointwise, bytes_decides}
use Rattle.crossbeam_utils.specs.Register.{Turns, TurnsAt}
use Rattle.atomic_table.proofs.Lists.{at_set, set_again, set_else}
use Rattle.dns_events.specs.declared.look.Look.{Look as State}
use Rattle.dns_admission.specs.declared.call.Call.{Call}
use Rattle.dns_admission.specs.declared.call.Reply.{Reply}
use Rattle.dns_book.specs.declared.history.Entry.{Entry}
use Rattle.dns_book.specs.declared.rule.View.{View}
use Rattle.dns_admission.specs.Machine.{state_after, reply_of}
use Rattle.dns_book.specs.Words.{state_of}
use Rattle.dns_book.specs.History.{SeatName, Under, same, entry, states_after, IsLegal, calls_by, entries_in, Has, with_entry}
use Rattle.dns_book.specs.Seats.{IsSound, Called}
use Rattle.dns_book.specs.Rule.{newcomer, Owns, FitsHistory, Apart, OwnBelow, InOrder, KeptInOrder, CanCall, ReadsWords, Made, Tries}
use Rattle.dns_book.proofs.Names.{same_refl, same_cases, calls_by-own, calls_by-other, states_after-append, legal-append, begins_more, begins_whole, begins_none, entries_in-with_same, entries_in-with_other, has-with, with-has, but_last-snoc}
use Rattle.dns_book.proofs.Maps.{map-with}

pub read_turns : (id : ℕ) (v : View) → Turns KeptInOrder id v (λ x. x) ReadsWords
read_turns id v x views h at = (v, subst (λ (l : List View). KeptInOrder x l) (sym (set_again views id v at)) h, refl)

pub set_at : {A : Type 0} (l : List A) (i : ℕ) (a b : A) → get_elem? l i ≡ some a → get_elem? (set l i b) i ≡ some b
set_at [] i a b e = absurd (some-ne-none a (sym e))
set_at (x ∷ xs) zero a b e = refl
set_at (x ∷ xs) (suc i) a b e = set_at xs i a b e

pub not_first : (views : List View) (id : ℕ) (v : View) → views ≡ newcomer ∷ [] → get_elem? views id ≡ some v → v ≡ newcomer
not_first views id v is at = go id (subst (λ (l : List View). get_elem? l id ≡ some v) is at)
  where
    go : (i : ℕ) → get_elem? (newcomer ∷ []) i ≡ some v → v ≡ newcomer
    go zero e = sym (some-injective newcomer v e)
    go (suc i) e = absurd (some-ne-none v (sym e))

pub only_kept : (words : List ℕ) (views : List View) (id : ℕ) (v : View) → v.opened ≡ true → get_elem? views id ≡ some v → KeptInOrder words views
    → (opening : State) × (log : List Entry) × (state_of words ≡ states_after opening log) × InOrder opening log views
only_kept words views id v ready at =
    ⊎_elim (λ is. absurd (true≢false (sym ready ∙ ap (λ (u : View). u.opened) (not_first views id v is at)))) (λ k. k)

-- a view that owns no more, under the same name
pub record Narrows (v w : View) : Type 0 where
  pub live : w.live ≡ v.live
  pub name : w.known.name ≡ v.known.name
  pub owns : (n : SeatName) → Owns w n → Owns v n

apart_left : (v w u : View) → Narrows v w → Apart v u → Apart w u
apart_left v w u k a = record {
  names = λ n o p. a.names n (k.owns n o) p;
  below = λ n l p b. a.below n (sym k.live ∙ l) p (subst (λ (m : SeatName). Under m n) k.name b);
}

apart_right : (v w u : View) → Narrows v w → Apart u v → Apart u w
apart_right v w u k a = record {
  names = λ n o p. a.names n o (k.owns n p);
  below = λ n l p b. a.below n l (k.owns n p) b;
}

own_below : (v w : View) → Narrows v w → OwnBelow v → OwnBelow w
own_below v w k a n o b = a n (k.owns n o) (subst (λ (m : SeatName). Under m n) k.name b)

pub apart_set : (views : List View) (id : ℕ) (v w : View) → get_elem? views id ≡ some v → Narrows v w
    → ((i j : ℕ) (v u : View) → i ≢ j → get_elem? views i ≡ some v → get_elem? views j ≡ some u → Apart v u)
    → (i j : ℕ) (a b : View) → i ≢ j → get_elem? (set views id w) i ≡ some a → get_elem? (set views id w) j ≡ some b → Apart a b
apart_set views id v w at k all i j a b ne ai bj =
    ⊎_elim
    (λ (t : (i ≡ id) × (w ≡ a)).
    ⊎_elim
    (λ (s : (j ≡ id) × (w ≡ b)). absurd (ne (t.0 ∙ sym s.0)))
    (λ (s : (j ≢ id) × (get_elem? views j ≡ some b)). subst (λ (z : View). Apart z b) t.1 (apart_left v w b k (all id j v b (λ e. s.0 (sym e)) at s.1)))
    (at_set views id j w b bj))
    (λ (t : (i ≢ id) × (get_elem? views i ≡ some a)).
    ⊎_elim
    (λ (s : (j ≡ id) × (w ≡ b)). subst (λ (z : View). Apart a z) s.1 (apart_right v w a k (all i id a v t.0 t.1 at)))
    (λ (s : (j ≢ id) × (get_elem? views j ≡ some b)). all i j a b ne t.1 s.1)
    (at_set views id j w b bj))
    (at_set views id i w a ai)

pub own_set : (views : List View) (id : ℕ) (v w : View) → get_elem? views id ≡ some v → Narrows v w
    → ((j : ℕ) (u : View) → get_elem? views j ≡ some u → OwnBelow u) → (j : ℕ) (u : View) → get_elem? (set views id w) j ≡ some u → OwnBelow u
own_set views id v w at k all j u e =
    ⊎_elim (λ (t : (j ≡ id) × (w ≡ u)). subst (λ (z : View). OwnBelow z) t.1 (own_below v w k (all id v at)))
    (λ (t : (j ≢ id) × (get_elem? views j ≡ some u)). all j u t.1)
    (at_set views id j w u e)

-- who owned a name owns it still
pub known_set : (views : List View) (id : ℕ) (v w : View) (n : SeatName) → get_elem? views id ≡ some v → (Owns v n → Owns w n)
    → (j : ℕ) × (u : View) × (get_elem? views j ≡ some u) × Owns u n → (j : ℕ) × (u : View) × (get_elem? (set views id w) j ≡ some u) × Owns u n
known_set views id v w n at keeps (j, u, e, o) =
    dite (ℕ_discrete j id)
    (λ (is : j ≡ id).
    let same_view : u ≡ v = some-injective u v (sym e ∙ (ap (λ (k : ℕ). get_elem? views k) is ∙ at)) in
    (id, w, set_at views id v w at, keeps (subst (λ (z : View). Owns z n) same_view o)))
    (λ (ne : j ≢ id). (j, u, set_else views id j w ne ∙ e, o))

-- the view after a call
abbrev pub after_call : View → List Entry → Entry → View
after_call v log e = record v { handed = []; known = record v.known { seen = log ++ e ∷ []; mine = with_entry v.known.name e v.known.mine } }

after_owns : (v : View) (log : List Entry) (e : Entry) → v.live ≡ true → (n : SeatName) → Owns (after_call v log e) n → Owns v n
after_owns v log e live n o =
    (o.0, ⊎_elim (λ (is : n ≡ v.known.name). inl is) (λ h. ⊎_elim (λ (is : n ≡ v.known.name). inl is) (λ (g : Has n v.known.mine). inr g) (has-with n v.known.name e v.known.mine h)) o.1)

owns_after : (v : View) (log : List Entry) (e : Entry) (n : SeatName) → Owns v n → Owns (after_call v log e) n
owns_after v log e n o = (o.0, ⊎_elim (λ (is : n ≡ v.known.name). inl is) (λ (h : Has n v.known.mine). inr (with-has n v.known.name e v.known.mine h)) o.1)

narrows_call : (v : View) (log : List Entry) (e : Entry) → v.live ≡ true → Narrows v (after_call v log e)
narrows_call v log e live = record { live = refl; name = refl; owns = after_owns v log e live }

-- the caller's own entries
mine_after : (v : View) (log : List Entry) (c : Call) (r : Reply) → v.live ≡ true → ((n : SeatName) → Owns v n → calls_by n log ≡ entries_in n v.known.mine)
    → (n : SeatName) → Owns (after_call v log (entry v.known.name c r)) n → calls_by n (log ++ entry v.known.name c r ∷ []) ≡ entries_in n (with_entry v.known.name (entry v.known.name c r) v.known.mine)
mine_after v log c r live mine n o =
    ⊎_elim
    (λ (t : (n ≡ v.known.name) × (same n v.known.name ≡ true)).
    let e : Entry = entry v.known.name c r in
    let here : calls_by v.known.name log ≡ entries_in v.known.name v.known.mine = mine v.known.name (live, inl refl) in
    subst (λ (m : SeatName). calls_by m (log ++ entry v.known.name c r ∷ []) ≡ entries_in m (with_entry v.known.name (entry v.known.name c r) v.known.mine)) (sym t.0)
    (calls_by-own v.known.name c r log ∙ (ap (λ (l : List Entry). l ++ entry v.known.name c r ∷ []) here ∙ sym (entries_in-with_same v.known.name (entry v.known.name c r) v.known.mine))))
    (λ (t : (n ≢ v.known.name) × (same n v.known.name ≡ false)).
    calls_by-other n v.known.name c r log t.0
    ∙ (mine n (after_owns v log (entry v.known.name c r) live n o) ∙ sym (entries_in-with_other n v.known.name (entry v.known.name c r) v.known.mine t.0)))
    (same_cases n v.known.name)

fits_other : (opening : State) (log : List Entry) (v u : View) (c : Call) (r : Reply) → Owns v v.known.name → Apart v u → FitsHistory opening log u → FitsHistory opening (log ++ entry v.known.name c r ∷ []) u
fits_other opening log v u c r own apart f = record {
  ready = f.ready;
  start = f.start;
  seen = begins_more u.known.seen log (entry v.known.name c r ∷ []) f.seen;
  handed = begins_more u.handed log (entry v.known.name c r ∷ []) f.handed;
  mine = λ n o. calls_by-other n v.known.name c r log (λ (is : n ≡ v.known.name). apart.names v.known.name own (subst (λ (m : SeatName). Owns u m) is o)) ∙ f.mine n o;
  map = f.map;
}

pub call_order : (opening : State) (log : List Entry) (views : List View) (id : ℕ) (v : View) (c : Call) → v.live ≡ true → get_elem? views id ≡ some v → InOrder opening log views
    → let e = entry v.known.name c (reply_of (states_after opening log) c) in InOrder opening (log ++ e ∷ []) (set views id (after_call v log e))
call_order opening log views id v c live at o =
    let r : Reply = reply_of (states_after opening log) c in
    let e : Entry = entry v.known.name c r in
    let w : View = after_call v log e in
    let k : Narrows v w = narrows_call v log e live in
    let own : Owns v v.known.name = (live, inl refl) in
    record {
      legal = legal-append opening log e o.legal refl;
      fits = λ j u at'. ⊎_elim
          (λ (t : (j ≡ id) × (w ≡ u)).
          subst (λ (z : View). FitsHistory opening (log ++ e ∷ []) z) t.1
          (let f = o.fits id v at in
          record {
            ready = f.ready;
            start = f.start;
            seen = begins_whole (log ++ e ∷ []);
            handed = begins_none (log ++ e ∷ []);
            mine = mine_after v log c r live f.mine;
            map = map-with v.known.name e v.known.mine f.map;
          }))
          (λ (t : (j ≢ id) × (get_elem? views j ≡ some u)). fits_other opening log v u c r own (o.apart id j v u (λ is. t.0 (sym is)) at t.1) (o.fits j u t.1))
          (at_set views id j w u at');
      own = own_set views id v w at k o.own;
      apart = apart_set views id v w at k o.apart;
      known = λ n. ⊎_elim
          (λ (t : (n ≡ v.known.name) × (same n v.known.name ≡ true)). inr (id, w, set_at views id v w at, (live, inl t.0)))
          (λ (t : (n ≢ v.known.name) × (same n v.known.name ≡ false)).
          ⊎_elim (λ (none : calls_by n log ≡ []). inl (calls_by-other n v.known.name c r log t.0 ∙ none))
          (λ who. inr (known_set views id v w n at (owns_after v log e n) who))
          (o.known n))
          (same_cases n v.known.name);
    }

-- who comes from no split has all entries
empty_name : (n : SeatName) → n ≢ [] → Under [] n
empty_name [] ne = absurd (ne refl)
empty_name (b ∷ bs) ne = (b, bs, refl)

all_own : (log : List Entry) → ((n : SeatName) → n ≢ [] → calls_by n log ≡ []) → log ≡ calls_by [] log
all_own [] none = refl
all_own (e ∷ es) none =
    ⊎_elim
    (λ (t : ([] ≡ e.by) × (same [] e.by ≡ true)).
    let rest : (n : SeatName) → n ≢ [] → calls_by n es ≡ [] = λ n ne.
    let d : same n e.by ≡ false = ⊎_elim (λ (s : (n ≡ e.by) × (same n e.by ≡ true)). absurd (ne (s.0 ∙ sym t.0))) (λ (s : (n ≢ e.by) × (same n e.by ≡ false)). s.1) (same_cases n e.by) in
    sym (ap (λ (b : Bool). if b then e ∷ calls_by n es else calls_by n es) d) ∙ none n ne in
    ap (λ (l : List Entry). e ∷ l) (all_own es rest) ∙ sym (ap (λ (b : Bool). if b then e ∷ calls_by [] es else calls_by [] es) t.1))
    (λ (t : ([] ≢ e.by) × (same [] e.by ≡ false)).
    let bad : e ∷ calls_by e.by es ≡ [] = sym (ap (λ (b : Bool). if b then e ∷ calls_by e.by es else calls_by e.by es) (same_refl e.by)) ∙ none e.by (λ is. t.0 (sym is)) in
    cc)
    (same_cases [] e.by)

pub alone : (opening : State) (log : List Entry) (views : List View) (id : ℕ) (v : View) → v.live ≡ true → get_elem? views id ≡ some v → InOrder opening log views → v.known.name ≡ []
    → log ≡ entries_in [] v.known.mine
alone opening log views id v live at o is =
    let under : (n : SeatName) → n ≢ [] → Under v.known.name n = λ n ne. subst (λ (m : SeatName). Under m n) (sym is) (empty_name n ne) in
    let none : (n : SeatName) → n ≢ [] → calls_by n log ≡ [] = λ n ne. ⊎_elim (λ (z : calls_by n log ≡ []). z)
    (λ (who : (j : ℕ) × (u : View) × (get_elem? views j ≡ some u) × Owns u n).
    dite (ℕ_discrete id who.0)
    (λ (here : id ≡ who.0).
    let same_view : who.1 ≡ v = some-injective who.1 v (sym who.2 ∙ (ap (λ (k : ℕ). get_elem? views k) (sym here) ∙ at)) in
    absurd (o.own id v at n (subst (λ (z : View). Owns z n) same_view who.3) (under n ne)))
    (λ (ne' : id ≢ who.0). absurd ((o.apart id who.0 v who.1 ne' at who.2).below n live who.3 (under n ne))))
    (o.known n) in
    all_own log none ∙ (o.fits id v at).mine [] (live, inl (sym is))

pub sound_of : (opening : State) (log : List Entry) (views : List View) (id : ℕ) (v : View) → v.live ≡ true → get_elem? views id ≡ some v → InOrder opening log views → v.known.seen ≡ log
    → IsSound v.known
sound_of opening log views id v live at o all = let f = o.fits id v at in record {
  legal = subst (λ (s : State). IsLegal s v.known.seen) (sym (f.start live)) (subst (λ (l : List Entry). IsLegal opening l) (sym all) o.legal);
  map = f.map;
  exact = λ n has. ap (λ (l : List Entry). calls_by n l) all ∙ f.mine n (live, inr has);
  alone = λ is. all ∙ alone opening log views id v live at o is;
  below = λ n has under. o.own id v at n (live, inr has) under;
}

pub call_at : (id : ℕ) (v : View) (c : Call) (x y : List ℕ) → CanCall v → state_of y ≡ state_after (state_of x) c
    → TurnsAt KeptInOrder id v x y (λ v before after w. Made c (state_of before) v w)
call_at id v c x y ready step views h at = go (only_kept x views id v ready.0 at h)
  where
    go : (opening : State) × (log : List Entry) × (state_of x ≡ states_after opening log) × InOrder opening log views
        → (w : View) × KeptInOrder y (set views id w) × Made c (state_of x) v w
    go (opening, log, st, o) =
        let e : Entry = entry v.known.name c (reply_of (states_after opening log) c) in
        let w : View = after_call v log e in
        let o' : InOrder opening (log ++ e ∷ []) (set views id w) = call_order opening log views id v c ready.1 at o in
        let at' : get_elem? (set views id w) id ≡ some w = set_at views id v w at in
        let f = o.fits id v at in
        let same_reply : reply_of (states_after opening log) c ≡ reply_of (state_of x) c = ap (λ (s : State). reply_of s c) (sym st) in (
          w,
          inr (opening, log ++ e ∷ [], step ∙ (ap (λ (s : State). state_after s c) st ∙ sym (states_after-append opening log e)), o'),
          (
            subst (λ (r : Reply). Called v.known c r w.known) same_reply
                (record {
                  same_book = refl;
                  same_name = refl;
                  seen = (f.seen.0, ap (λ (l : List Entry). l ++ e ∷ []) f.seen.1);
                  mine = refl;
                  sound = sound_of opening (log ++ e ∷ []) (set views id w) id w ready.1 at' o' refl;
                }),
            ap (λ (l : List Entry). states_after v.known.opening l) (but_last-snoc log e) ∙ (ap (λ (s : State). states_after s log) (f.start ready.1) ∙ sym st),
            (ready.0, ready.1, refl),
          ),
        )

pub call_turns : (id : ℕ) (v : View) (c : Call) (current old new : List ℕ) → CanCall v → current ≡ old → state_of new ≡ state_after (state_of old) c
    → Turns KeptInOrder id v (λ x. if pointwise nat_eq x old then new else x) (Tries c current)
call_turns id v c current old new ready is step x views h at = go (pointwise nat_eq x old) refl
  where
    go : (b : Bool) → pointwise nat_eq x old ≡ b
        → (w : View) × KeptInOrder (if b then new else x) (set views id w) × Tries c current v x (if b then new else x) w
    go true e =
        let here : x ≡ old = (bytes_decides x old).0 e in
        let step' : state_of new ≡ state_after (state_of x) c = step ∙ ap (λ (l : List ℕ). state_after (state_of l) c) (sym here) in
        let t = call_at id v c x new ready step' views h at in
        (t.0, t.1, ((λ _. t.2), (λ ne. absurd (ne (here ∙ sym is)))))
    go false e =
        let ne : x ≢ old = λ same_words. true≢false (sym ((bytes_decides x old).1 same_words) ∙ e) in
        (v, subst (λ (l : List View). KeptInOrder x l) (sym (set_again views id v at)) h, ((λ same_words. absurd (ne (same_words ∙ is))), (λ _. refl)))

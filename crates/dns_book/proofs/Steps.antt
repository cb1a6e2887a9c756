-- The loads and the opening.
use Rattle.std.proofs.Common.{◌≡◌, ◌≢◌, ℕ, zero, suc, true, false, List, [], ◌∷◌, set, refl, sym, ◌∙◌, ap, subst, inl, inr, ⊎_elim, true≢false}
use mathlib.Core.Option.{some, some-injective, some-ne-none}
use lib.ListN.{get_elem?}
use Rattle.crossbeam_utils.specs.Register.{Turns}
use Rattle.atomic_table.proofs.Lists.{at_set}
use Rattle.dns_events.specs.declared.look.Look.{Look as State}
use Rattle.dns_admission.specs.declared.call.Call.TheVariants.{Look}
use Rattle.dns_book.specs.declared.history.Entry.{Entry}
use Rattle.dns_book.specs.declared.rule.View.{View}
use Rattle.dns_book.specs.Words.{state_of}
use Rattle.dns_book.specs.History.{SeatName, Under, states_after, calls_by}
use Rattle.dns_book.specs.Rule.{newcomer, opened_as, FitsHistory, OwnBelow, InOrder, KeptInOrder, CanCall, Looks, Opens, Settles}
use Rattle.dns_book.proofs.Names.{begins_whole, begins_none}
use Rattle.dns_book.proofs.Turns.{set_at, only_kept, Narrows, apart_set, own_set, known_set, sound_of, call_at}

pub look_turns : (id : ℕ) (v : View) → CanCall v → Turns KeptInOrder id v (λ x. x) Looks
look_turns id v ready x = call_at id v Look x x ready refl

-- the caller has seen the whole history
abbrev pub after_load : View → List Entry → View
after_load v log = record v { handed = []; known = record v.known { seen = log } }

narrows_load : (v : View) (log : List Entry) → Narrows v (after_load v log)
narrows_load v log = record { live = refl; name = refl; owns = λ n o. o }

load_order : (opening : State) (log : List Entry) (views : List View) (id : ℕ) (v : View) → get_elem? views id ≡ some v → InOrder opening log views
    → InOrder opening log (set views id (after_load v log))
load_order opening log views id v at o =
    let w : View = after_load v log in
    record {
      legal = o.legal;
      fits = λ j u at'. ⊎_elim
          (λ (t : (j ≡ id) × (w ≡ u)).
          subst (λ (z : View). FitsHistory opening log z) t.1
          (let f = o.fits id v at in record { ready = f.ready; start = f.start; seen = begins_whole log; handed = begins_none log; mine = λ n own. f.mine n own; map = f.map }))
          (λ (t : (j ≢ id) × (get_elem? views j ≡ some u)). o.fits j u t.1)
          (at_set views id j w u at');
      own = own_set views id v w at (narrows_load v log) o.own;
      apart = apart_set views id v w at (narrows_load v log) o.apart;
      known = λ n. ⊎_elim (λ (none : calls_by n log ≡ []). inl none) (λ who. inr (known_set views id v w n at (λ own. own) who)) (o.known n);
    }

pub settle_turns : (id : ℕ) (v : View) → v.opened ≡ true → v.live ≡ true → Turns KeptInOrder id v (λ x. x) Settles
settle_turns id v ready live x views h at = go (only_kept x views id v ready at h)
  where
    go : (opening : State) × (log : List Entry) × (state_of x ≡ states_after opening log) × InOrder opening log views
        → (w : View) × KeptInOrder x (set views id w) × Settles v x x w
    go (opening, log, st, o) =
        let w : View = after_load v log in
        let o' : InOrder opening log (set views id w) = load_order opening log views id v at o in
        let f = o.fits id v at in (
          w,
          inr (opening, log, st, o'),
          (
            record {
              same_book = refl;
              same_name = refl;
              seen = f.seen;
              handed = f.handed;
              mine = refl;
              sound = sound_of opening log (set views id w) id w live (set_at views id v w at) o' refl;
            },
            (ready, live, refl),
          ),
        )

first_order : (s : State) → InOrder s [] (opened_as s ∷ [])
first_order s = record {
  legal = tt;
  fits = λ j v at. subst (λ (z : View). FitsHistory s [] z) (one j v at)
      (record {
        ready = refl;
        start = λ _. refl;
        seen = begins_none [];
        handed = begins_none [];
        mine = λ n o. refl;
        map = tt;
      });
  own = λ j v at. subst (λ (z : View). OwnBelow z) (one j v at) (λ n o under. ⊎_elim (λ (is : n ≡ []). nothing n is under) (λ f. f) o.1);
  apart = λ i j v u ne ai aj. absurd (ne (place i v ai ∙ sym (place j u aj)));
  known = λ n. inl refl;
}
  where
    one : (j : ℕ) (v : View) → get_elem? (opened_as s ∷ []) j ≡ some v → opened_as s ≡ v
    one zero v e = some-injective (opened_as s) v e
    one (suc j) v e = absurd (some-ne-none v (sym e))

    place : (j : ℕ) (v : View) → get_elem? (opened_as s ∷ []) j ≡ some v → j ≡ 0
    place zero v e = refl
    place (suc j) v e = absurd (some-ne-none v (sym e))

    nothing : (n : SeatName) → n ≡ [] → Under [] n → ⊥
    nothing n is (b, rest, e) = let h : b ∷ rest ≡ [] = sym e ∙ is in cc

set_first : (views : List View) (id : ℕ) (v w : View) → views ≡ newcomer ∷ [] → get_elem? views id ≡ some v → set views id w ≡ w ∷ []
set_first views id v w is at = ap (λ (l : List View). set l id w) is ∙ go id (subst (λ (l : List View). get_elem? l id ≡ some v) is at)
  where
    go : (i : ℕ) → get_elem? (newcomer ∷ []) i ≡ some v → set (newcomer ∷ []) i w ≡ w ∷ []
    go zero e = refl
    go (suc i) e = absurd (some-ne-none v (sym e))

pub open_turns : (id : ℕ) (v : View) (words : List ℕ) → v.opened ≡ false → Turns KeptInOrder id v (λ _. words) Opens
open_turns id v words closed x views h at =
    let w : View = opened_as (state_of words) in
    ⊎_elim
    (λ (is : views ≡ newcomer ∷ []).
    (w, inr (state_of words, [], refl, subst (λ (l : List View). InOrder (state_of words) [] l) (sym (set_first views id v w is at)) (first_order (state_of words))), refl))
    (λ k. absurd (true≢false (sym ((k.3).fits id v at).ready ∙ closed)))
    h

-- What an asking has left, one event on, and what comes of the event.
use Rattle.std.proofs.Common.{◌≡◌, ℕ, zero, suc, ◌+◌, ◌≤◌, ◌<◌, Bool, true, false, List, [], ◌∷◌, ◌++◌, length, cond, nat_eq, nat_le, nat_lt, Some, None, refl, ap, sym, subst, ◌∙◌, arith, length-append}
use Rattle.std.specs.Prelude.{◌||◌, is_some}
use Rattle.std.proofs.lemmas.Bool.Decides.{nat_tests}
use Rattle.std.proofs.lemmas.List.{append-nil}
use Rattle.dns_base.specs.Header.{header_of}
use Rattle.dns_base.specs.Sections.{first_of}
use Rattle.dns_forward.specs.declared.asking_event.AskingEvent.{AskingEvent}
use Rattle.dns_forward.specs.declared.asking_event.AskingEvent.TheVariants.{Arrived, Tick}
use Rattle.dns_forward.specs.declared.asking_event.AskingOutcome.TheVariants.{OfArrival, OfTick}
use Rattle.dns_forward.specs.declared.asking_event.Ticked.TheVariants.{Nothing, Send, GaveUp}
use Rattle.dns_forward.specs.Asked.{Inquiry, arrival_outcome, deadline, due_ticks, ended_by, first_due, has_ended, is_due, last_from, matching_arrivals, outcome, tick_outcome}
use Rattle.dns_forward.specs.Askings.{HasLeft}
use Rattle.dns_forward.specs.Matching.{matches, with_id}
use Rattle.dns_forward.proofs.Events.{arrived-more, arrived-same, last-more, match-more, stray-more, ticked-more, ticked-same}

-- ---- tests

or_first : (a b : Bool) → (a || b) ≡ false → a ≡ false
or_first true b h = h
or_first false b h = refl

or_second : (a b : Bool) → (a || b) ≡ false → b ≡ false
or_second true b h = absurd (cc)
or_second false b h = h

or_true : (a b : Bool) → b ≡ true → (a || b) ≡ true
or_true true b h = refl
or_true false b h = h

le_true : (a b : ℕ) → a ≤ b → nat_le a b ≡ true
le_true a b h = grind (arith, nat_tests)

le_false : (a b : ℕ) → b < a → nat_le a b ≡ false
le_false a b h = grind (arith, nat_tests)

lt_true : (a b : ℕ) → a < b → nat_lt a b ≡ true
lt_true a b h = grind (arith, nat_tests)

lt_false : (a b : ℕ) → b ≤ a → nat_lt a b ≡ false
lt_false a b h = grind (arith, nat_tests)

true_le : (a b : ℕ) → nat_le a b ≡ true → a ≤ b
true_le a b h = grind (arith, nat_tests)

false_le : (a b : ℕ) → nat_le a b ≡ false → b < a
false_le a b h = grind (arith, nat_tests)

eq_true : (a b : ℕ) → a ≡ b → nat_eq a b ≡ true
eq_true a b h = grind (arith, nat_tests)

eq_false : (a b : ℕ) → b < a → nat_eq a b ≡ false
eq_false a b h = grind (arith, nat_tests)

none_there : (xs : List (List ℕ)) → is_some (first_of xs) ≡ false → xs ≡ []
none_there [] h = refl
none_there (x ∷ xs) h = absurd (cc)

-- ---- an asking that has ended, and one that hasn't

-- what is left if these arrivals matched and these ticks were due
abbrev Left : Inquiry → List (List ℕ) → List ℕ → ℕ → ℕ → Type 0
Left q xs ats left last = HasLeft (ended_by q.tries xs ats) q ats left last

-- what is left after events
abbrev pub LeftBehind : Inquiry → List AskingEvent → ℕ → ℕ → Type 0
LeftBehind q es left last = HasLeft (has_ended q es) q (due_ticks q es) left last

ended_so : (b : Bool) (q : Inquiry) (xs : List (List ℕ)) (ats : List ℕ) (left last : ℕ) → ended_by q.tries xs ats ≡ b → HasLeft b q ats left last → left ≡ 0 → b ≡ true
ended_so true q xs ats left last e h z = refl
ended_so false q xs ats left last e h z =
    let few : length ats < q.tries = false_le q.tries (length ats) (or_second (is_some (first_of xs)) (nat_le q.tries (length ats)) e) in
    let all : left + length ats ≡ q.tries = h.0 in
    absurd (omega arith)

-- if none is left it has ended
ended : (q : Inquiry) (xs : List (List ℕ)) (ats : List ℕ) (left last : ℕ) → Left q xs ats left last → left ≡ 0 → ended_by q.tries xs ats ≡ true
ended q xs ats left last h z = ended_so (ended_by q.tries xs ats) q xs ats left last refl h z

-- if one is left it hasn't, and what is kept is that
pub record Goes (q : Inquiry) (xs : List (List ℕ)) (ats : List ℕ) (left last : ℕ) : Type 0 where
  pub going : ended_by q.tries xs ats ≡ false
  pub all : left + length ats ≡ q.tries
  pub latest : last ≡ last_from q.at ats

goes_so : (b : Bool) (q : Inquiry) (xs : List (List ℕ)) (ats : List ℕ) (left last : ℕ) → ended_by q.tries xs ats ≡ b → HasLeft b q ats left last → (left ≡ 0 → ⊥) → Goes q xs ats left last
goes_so true q xs ats left last e h n = absurd (n h)
goes_so false q xs ats left last e h n = record { going = e; all = h.0; latest = h.1 }

goes : (q : Inquiry) (xs : List (List ℕ)) (ats : List ℕ) (left last : ℕ) → Left q xs ats left last → (left ≡ 0 → ⊥) → Goes q xs ats left last
goes q xs ats left last h n = goes_so (ended_by q.tries xs ats) q xs ats left last refl h n

-- none is left if it has ended
over : (q : Inquiry) (xs : List (List ℕ)) (ats : List ℕ) (left last : ℕ) → ended_by q.tries xs ats ≡ true → left ≡ 0 → Left q xs ats left last
over q xs ats left last e z = subst (λ (b : Bool). HasLeft b q ats left last) (sym e) z

on : (q : Inquiry) (xs : List (List ℕ)) (ats : List ℕ) (left last : ℕ) → ended_by q.tries xs ats ≡ false → left + length ats ≡ q.tries → last ≡ last_from q.at ats → Left q xs ats left last
on q xs ats left last e a l = subst (λ (b : Bool). HasLeft b q ats left last) (sym e) (a, l)

-- what is left after other events that match alike
same_left : (q : Inquiry) (xs ys : List (List ℕ)) (ats bts : List ℕ) (left last : ℕ) → ys ≡ xs → bts ≡ ats → Left q xs ats left last → Left q ys bts left last
same_left q xs ys ats bts left last e f h =
    subst (λ (zs : List (List ℕ)). Left q zs bts left last) (sym e) (subst (λ (cts : List ℕ). Left q xs cts left last) (sym f) h)

still_by_arrivals : (tries : ℕ) (xs ys : List (List ℕ)) (ats : List ℕ) → ended_by tries xs ats ≡ true → ended_by tries (xs ++ ys) ats ≡ true
still_by_arrivals tries [] [] ats h = h
still_by_arrivals tries [] (y ∷ ys) ats h = refl
still_by_arrivals tries (x ∷ xs) ys ats h = refl

still_by_ticks : (tries : ℕ) (xs : List (List ℕ)) (ats bts : List ℕ) → ended_by tries xs ats ≡ true → ended_by tries xs (ats ++ bts) ≡ true
still_by_ticks tries [] ats bts h =
    let a : tries ≤ length ats = true_le tries (length ats) h in
    le_true tries (length (ats ++ bts)) (simp length-append (omega arith))
still_by_ticks tries (x ∷ xs) ats bts h = refl

answered : (tries : ℕ) (xs : List (List ℕ)) (o : List ℕ) (ats : List ℕ) → ended_by tries (xs ++ o ∷ []) ats ≡ true
answered tries [] o ats = refl
answered tries (x ∷ xs) o ats = refl

-- it has ended exactly if none is left
none_left_so : (b : Bool) (q : Inquiry) (xs : List (List ℕ)) (ats : List ℕ) (left last : ℕ) → ended_by q.tries xs ats ≡ b → HasLeft b q ats left last → nat_eq left 0 ≡ b
none_left_so true q xs ats left last e h = eq_true left 0 h
none_left_so false q xs ats left last e h =
    let few : length ats < q.tries = false_le q.tries (length ats) (or_second (is_some (first_of xs)) (nat_le q.tries (length ats)) e) in
    let all : left + length ats ≡ q.tries = h.0 in
    eq_false left 0 (omega arith)

pub none_left : (q : Inquiry) (es : List AskingEvent) (left last : ℕ) → LeftBehind q es left last → nat_eq left 0 ≡ has_ended q es
none_left q es left last h = none_left_so (has_ended q es) q (matching_arrivals q es) (due_ticks q es) left last refl h

-- no tick is due any more if none is left
pub no_deadline : (q : Inquiry) (es : List AskingEvent) (left last : ℕ) → LeftBehind q es left last → left ≡ 0 → deadline q es ≡ None
no_deadline q es left last h z =
    ap (λ (b : Bool). cond b None (Some (first_due q.timeout (last_from q.at (due_ticks q es))))) (ended q (matching_arrivals q es) (due_ticks q es) left last h z)

-- and else from the last send on that is kept
pub deadline_left : (q : Inquiry) (es : List AskingEvent) (left last timeout : ℕ) → LeftBehind q es left last → (left ≡ 0 → ⊥) → timeout ≡ q.timeout → deadline q es ≡ Some (first_due timeout last)
deadline_left q es left last timeout h n t =
    let g = goes q (matching_arrivals q es) (due_ticks q es) left last h n in
    ap (λ (b : Bool). cond b None (Some (first_due q.timeout (last_from q.at (due_ticks q es))))) g.going
    ∙ (ap (λ (k : ℕ). Some (first_due k (last_from q.at (due_ticks q es)))) (sym t) ∙ ap (λ (k : ℕ). Some (first_due timeout k)) (sym g.latest))

-- none is left when it begins but its tries
pub begun : (q : Inquiry) → 1 ≤ q.tries → LeftBehind q [] q.tries q.at
begun q h = on q [] [] q.tries q.at (le_false q.tries 0 (omega arith)) (omega arith) refl

-- ---- arrivals

pub arrived_late : (q : Inquiry) (es : List AskingEvent) (at : ℕ) (o : List ℕ) (left last : ℕ) → LeftBehind q es left last → left ≡ 0
    → LeftBehind q (es ++ Arrived at o ∷ []) left last × (outcome q es (Arrived at o) ≡ OfArrival None)
arrived_late q es at o left last h z =
    let e = ended q (matching_arrivals q es) (due_ticks q es) left last h z in
    let more : Left q (matching_arrivals q es ++ cond (matches q.message q.id o) (o ∷ []) []) (due_ticks q es) left last =
    over q _ _ left last (still_by_arrivals q.tries (matching_arrivals q es) (cond (matches q.message q.id o) (o ∷ []) []) (due_ticks q es) e) z in (
      same_left q _ _ _ _ left last (arrived-more q es at o) (arrived-same q es at o) more,
      ap (λ (b : Bool). OfArrival (cond b None (arrival_outcome q o))) e,
    )

no_answer : (b m : Bool) (x : List ℕ) → m ≡ false → cond b None (cond m (Some x) None) ≡ None
no_answer true m x h = refl
no_answer false true x h = absurd (cc)
no_answer false false x h = refl

pub arrived_stray : (q : Inquiry) (es : List AskingEvent) (at : ℕ) (o : List ℕ) (left last : ℕ) → LeftBehind q es left last → matches q.message q.id o ≡ false
    → LeftBehind q (es ++ Arrived at o ∷ []) left last × (outcome q es (Arrived at o) ≡ OfArrival None)
arrived_stray q es at o left last h m = (
  same_left q _ _ _ _ left last (stray-more q es at o m) (arrived-same q es at o) h,
  ap OfArrival (no_answer (has_ended q es) (matches q.message q.id o) (with_id (header_of q.message).id o) m),
)

pub arrived_answer : (q : Inquiry) (es : List AskingEvent) (at : ℕ) (o : List ℕ) (left last : ℕ) → LeftBehind q es left last → (left ≡ 0 → ⊥) → matches q.message q.id o ≡ true
    → LeftBehind q (es ++ Arrived at o ∷ []) 0 last × (outcome q es (Arrived at o) ≡ OfArrival (Some (with_id (header_of q.message).id o)))
arrived_answer q es at o left last h n m =
    let g = goes q (matching_arrivals q es) (due_ticks q es) left last h n in
    let more : Left q (matching_arrivals q es ++ o ∷ []) (due_ticks q es) 0 last = over q _ _ 0 last (answered q.tries (matching_arrivals q es) o (due_ticks q es)) refl in (
      same_left q _ _ _ _ 0 last (match-more q es at o m) (arrived-same q es at o) more,
      ap (λ (b : Bool). OfArrival (cond b None (arrival_outcome q o))) g.going ∙ ap (λ (b : Bool). OfArrival (cond b (Some (with_id (header_of q.message).id o)) None)) m,
    )

-- ---- ticks

pub ticked_late : (q : Inquiry) (es : List AskingEvent) (at left last : ℕ) → LeftBehind q es left last → left ≡ 0
    → LeftBehind q (es ++ Tick at ∷ []) left last × (outcome q es (Tick at) ≡ OfTick Nothing)
ticked_late q es at left last h z =
    let e = ended q (matching_arrivals q es) (due_ticks q es) left last h z in
    let more : Left q (matching_arrivals q es) (due_ticks q es ++ cond (is_due q.timeout (last_from q.at (due_ticks q es)) at) (at ∷ []) []) left last =
    over q _ _ left last (still_by_ticks q.tries (matching_arrivals q es) (due_ticks q es) (cond (is_due q.timeout (last_from q.at (due_ticks q es)) at) (at ∷ []) []) e) z in (
      same_left q _ _ _ _ left last (ticked-same q es at) (ticked-more q es at) more,
      ap (λ (b : Bool). OfTick (cond b Nothing (tick_outcome q (due_ticks q es) at))) e,
    )

early_so : (q : Inquiry) (es : List AskingEvent) (at left last : ℕ) → LeftBehind q es left last → Goes q (matching_arrivals q es) (due_ticks q es) left last → is_due q.timeout last at ≡ false
    → LeftBehind q (es ++ Tick at ∷ []) left last × (outcome q es (Tick at) ≡ OfTick Nothing)
early_so q es at left last h g d =
    let f : is_due q.timeout (last_from q.at (due_ticks q es)) at ≡ false = ap (λ (t : ℕ). is_due q.timeout t at) (sym g.latest) ∙ d in (
      same_left q _ _ _ _ left last (ticked-same q es at)
          (ticked-more q es at ∙ (ap (λ (b : Bool). due_ticks q es ++ cond b (at ∷ []) []) f ∙ append-nil (due_ticks q es))) h,
      ap (λ (b : Bool). OfTick (cond b Nothing (tick_outcome q (due_ticks q es) at))) g.going
          ∙ ap (λ (b : Bool). OfTick (cond b (cond (nat_lt (suc (length (due_ticks q es))) q.tries) Send GaveUp) Nothing)) f,
    )

early_by : (left : ℕ) (q : Inquiry) (es : List AskingEvent) (at last : ℕ) → LeftBehind q es left last → is_due q.timeout last at ≡ false
    → LeftBehind q (es ++ Tick at ∷ []) left last × (outcome q es (Tick at) ≡ OfTick Nothing)
early_by zero q es at last h d = ticked_late q es at 0 last h refl
early_by (suc left) q es at last h d = early_so q es at (suc left) last h (goes q (matching_arrivals q es) (due_ticks q es) (suc left) last h (λ (z : suc left ≡ 0). absurd (omega arith))) d

pub ticked_early : (q : Inquiry) (es : List AskingEvent) (at left last : ℕ) → LeftBehind q es left last → is_due q.timeout last at ≡ false
    → LeftBehind q (es ++ Tick at ∷ []) left last × (outcome q es (Tick at) ≡ OfTick Nothing)
ticked_early q es at left last h d = early_by left q es at last h d

-- a due tick of an asking that goes on
due_now : (q : Inquiry) (es : List AskingEvent) (at left last : ℕ) → Goes q (matching_arrivals q es) (due_ticks q es) left last → is_due q.timeout last at ≡ true
    → (due_ticks q (es ++ Tick at ∷ []) ≡ due_ticks q es ++ at ∷ []) × (outcome q es (Tick at) ≡ OfTick (cond (nat_lt (suc (length (due_ticks q es))) q.tries) Send GaveUp))
due_now q es at left last g d =
    let f : is_due q.timeout (last_from q.at (due_ticks q es)) at ≡ true = ap (λ (t : ℕ). is_due q.timeout t at) (sym g.latest) ∙ d in (
      ticked-more q es at ∙ ap (λ (b : Bool). due_ticks q es ++ cond b (at ∷ []) []) f,
      ap (λ (b : Bool). OfTick (cond b Nothing (tick_outcome q (due_ticks q es) at))) g.going
          ∙ ap (λ (b : Bool). OfTick (cond b (cond (nat_lt (suc (length (due_ticks q es))) q.tries) Send GaveUp) Nothing)) f,
    )

nothing_matched : (q : Inquiry) (xs : List (List ℕ)) (ats bts : List ℕ) → ended_by q.tries xs ats ≡ false → length bts < q.tries → ended_by q.tries xs bts ≡ false
nothing_matched q xs ats bts e h =
    let n : xs ≡ [] = none_there xs (or_first (is_some (first_of xs)) (nat_le q.tries (length ats)) e) in
    ap (λ (ys : List (List ℕ)). ended_by q.tries ys bts) n ∙ le_false q.tries (length bts) h

pub ticked_again : (q : Inquiry) (es : List AskingEvent) (at left last rest : ℕ) → LeftBehind q es left last → is_due q.timeout last at ≡ true → left ≡ rest + 1 → (rest ≡ 0 → ⊥)
    → LeftBehind q (es ++ Tick at ∷ []) rest at × (outcome q es (Tick at) ≡ OfTick Send)
ticked_again q es at left last rest h d s n =
    let xs = matching_arrivals q es in
    let ats = due_ticks q es in
    let g = goes q xs ats left last h (λ (z : left ≡ 0). absurd (omega arith)) in
    let now = due_now q es at left last g d in
    let all : left + length ats ≡ q.tries = g.all in
    let some : 1 ≤ rest = omega arith in
    let size : length (ats ++ at ∷ []) ≡ length ats + 1 = simp length-append in
    let more : Left q xs (ats ++ at ∷ []) rest at = on q xs (ats ++ at ∷ []) rest at (nothing_matched q xs ats (ats ++ at ∷ []) g.going (omega arith)) (omega arith) (sym (last-more q.at ats at)) in (
      same_left q _ _ _ _ rest at (ticked-same q es at) now.0 more,
      now.1 ∙ ap (λ (b : Bool). OfTick (cond b Send GaveUp)) (lt_true (suc (length ats)) q.tries (omega arith)),
    )

pub ticked_last : (q : Inquiry) (es : List AskingEvent) (at left last rest : ℕ) → LeftBehind q es left last → is_due q.timeout last at ≡ true → left ≡ rest + 1 → rest ≡ 0
    → LeftBehind q (es ++ Tick at ∷ []) rest at × (outcome q es (Tick at) ≡ OfTick GaveUp)
ticked_last q es at left last rest h d s n =
    let xs = matching_arrivals q es in
    let ats = due_ticks q es in
    let g = goes q xs ats left last h (λ (z : left ≡ 0). absurd (omega arith)) in
    let now = due_now q es at left last g d in
    let all : left + length ats ≡ q.tries = g.all in
    let size : length (ats ++ at ∷ []) ≡ length ats + 1 = simp length-append in
    let most : q.tries ≤ length (ats ++ at ∷ []) = omega arith in
    let more : Left q xs (ats ++ at ∷ []) rest at = over q xs (ats ++ at ∷ []) rest at (or_true (is_some (first_of xs)) _ (le_true q.tries (length (ats ++ at ∷ [])) most)) n in (
      same_left q _ _ _ _ rest at (ticked-same q es at) now.0 more,
      now.1 ∙ ap (λ (b : Bool). OfTick (cond b Send GaveUp)) (lt_false (suc (length ats)) q.tries (omega arith)),
    )

-- A look of a client tells nobody else anything, nor the client before it begins.
use Rattle.dns_session.specs.Serving.{Serving}
use Rattle.std.proofs.Common.{◌≡◌, ◌≢◌, ℕ, List, [], ◌∷◌, ◌++◌, Bool, true, false, refl, ap, sym, ◌∙◌, append_assoc}
use Rattle.std.specs.Prelude.{if◌then◌else◌, ◌==◌, not, ◌&&◌, ◌||◌}
use Rattle.std.proofs.lemmas.Bool.{eq-eqb, ne_eqb}
use Rattle.std.proofs.lemmas.List.{append-nil}
use Rattle.std.proofs.Math.Bool.{or-false}
use Rattle.dns_events.specs.declared.event.Event.{Event}
use Rattle.dns_events.specs.declared.event.Step.{Step}
use Rattle.dns_events.specs.declared.event.Step.TheVariants.{Own, Look}
use Rattle.dns_session.specs.After.{slate_after, sent_after}
use Rattle.dns_session.specs.Rule.{rule}
use Rattle.dns_session.specs.Slate.{Slate, Conf, Effect, fresh}
use Rattle.dns_core.specs.Settings.{opening}
use Rattle.dns_core.specs.Own.{is_wide}
use Rattle.dns_core.specs.Sent.{sent}
use Rattle.dns_core.specs.Out.{is_unused}
use Rattle.dns_core.specs.Placed.{Knowledge, book_now, entries, own_events, is_beginning, looks, puts, learns, learned, place, placed, knows, knowledge_at_first}
use Rattle.dns_core.specs.Outs.{placed_slate}
use Rattle.dns_events.specs.declared.settings.Settings.{Settings}
use Rattle.dns_core.proofs.OutLemmas.{sent_after_append}
use Rattle.dns_core.proofs.Plain.{narrow, unused_is}
use Rattle.dns_core.proofs.Placing.{slate_append}
use Rattle.dns_core.proofs.StepBegins.{begin_late}
use Rattle.dns_core.proofs.Tied.{TiedSlate, tied, tied_slate, unused_kept, unused_list, unused_says, now_learns}

pub place_append : (c : ℕ) (k : Knowledge) (q r : List Step) → place c k (q ++ r) ≡ place c k q ++ place c (learned c k q) r
place_append c k [] r = refl
place_append c k (s ∷ q) r = ap (λ es. puts c k s ++ es) (place_append c (learns c k s) q r) ∙ sym (append_assoc (puts c k s) (place c (learns c k s) q) (place c (learned c (learns c k s) q) r))

other_look : (d at secs c : ℕ) (k : Knowledge) (r : List Step) → c ≢ d → place d k (Look at secs c ∷ r) ≡ place d k r
other_look d at secs c k r apart =
    let n : (c == d) ≡ false = ne_eqb c d apart in
    let p : puts d k (Look at secs c) ≡ [] = rw n refl in
    let l : learns d k (Look at secs c) ≡ k = rw n (ap (λ z. let x : Knowledge = record { began = z; seen = k.seen; unheard = k.unheard ++ [] } in x) (or-false k.began) ∙ ap (λ es. let x : Knowledge = record { began = k.began; seen = k.seen; unheard = es } in x) (append-nil k.unheard)) in
    ap (λ es. es ++ place d (learns d k (Look at secs c)) r) p ∙ ap (λ x. place d x r) l

pub others_look : (settings : Settings) (d at secs c : ℕ) (q r : List Step) → c ≢ d → placed settings d (q ++ Look at secs c ∷ r) ≡ placed settings d (q ++ r)
unfolding placed
others_look settings d at secs c q r apart =
    let k = knowledge_at_first settings in
    place_append d k q (Look at secs c ∷ r) ∙ ap (λ es. place d k q ++ es) (other_look d at secs c (learned d k q) r apart) ∙ sym (place_append d k q r)

module _ (answers : Serving) where
  -- an event of its own that is no look says nothing to an unused client
  idle_case : (b : Bool) (k : Knowledge) (e : Event) (sl : Slate) → TiedSlate answers k sl → is_wide e.kind ≡ false → is_unused sl.phase ≡ true → (is_beginning e.kind ≡ true → k.began ≡ true) → is_beginning e.kind ≡ b → rule answers e sl ≡ (sl, [])
  idle_case true k e sl t w u h is =
      let over : sl.conf.over ≡ true = ap (λ (x : Conf). x.over) t.plain.conf ∙ t.over (h is) u in
      begin_late answers e.kind e sl refl is over
  idle_case false k e sl t w u h is =
      let still = unused_kept answers e sl is ∙ u in
      let left = Rattle.dns_core.proofs.Plain.still_unused answers e sl (unused_is sl.phase u) still in
      left ∙ ap (λ (c : Conf). let r : Effect = (record sl { conf = c }, []) in r) (Rattle.dns_core.proofs.Plain.narrow_conf e.kind sl.conf w)

  -- two of the same client, which has not begun: it hears the same in the end
  record Apart (k k' : Knowledge) (sl sl' : Slate) : Type 0 where
    left : TiedSlate answers k sl
    right : TiedSlate answers k' sl'
    unused : is_unused sl.phase ≡ true
    unused' : is_unused sl'.phase ≡ true
    began : k.began ≡ k'.began
    book : book_now k ≡ book_now k'
    hears : slate_after answers sl k.unheard ≡ slate_after answers sl' k'.unheard

  -- the event that a step gives its client, without a look
  kept_case : (w q : Bool) (c : ℕ) (k : Knowledge) (e : Event) (sl : Slate) → TiedSlate answers k sl → is_unused sl.phase ≡ true → (is_beginning e.kind && (e.client == c) ≡ true → k.began ≡ true) → is_wide e.kind ≡ w → (e.client == c) ≡ q
      → (slate_after answers sl (if not w && q then e ∷ [] else []) ≡ sl) × (sent_after answers sl (if not w && q then e ∷ [] else []) ≡ [])
  kept_case false true c k e sl t u h w q =
      let i = idle_case (is_beginning e.kind) k e sl t w u (λ b. h (rw (b, q) refl)) refl in
      (ap (λ (r : Effect). r.0) i, ap (λ (r : Effect). r.1 ++ []) i)
  kept_case false false c k e sl t u h w q = (refl, refl)
  kept_case true q c k e sl t u h w s = (refl, refl)

  no_look_began : (a b : Bool) → (a && not b) ≡ false → a ≡ true → b ≡ true
  no_look_began true true h e = refl
  no_look_began true false h e = cc
  no_look_began false b h e = cc

  kept : (c : ℕ) (k : Knowledge) (s : Step) (sl : Slate) → TiedSlate answers k sl → is_unused sl.phase ≡ true → looks c k.began s ≡ false → (slate_after answers sl (own_events c s) ≡ sl) × (sent_after answers sl (own_events c s) ≡ [])
  kept c k (Own e) sl t u l = kept_case (is_wide e.kind) (e.client == c) c k e sl t u (no_look_began (is_beginning e.kind && (e.client == c)) k.began l) refl refl
  kept c k (Look at secs d) sl t u l = (refl, refl)

  abbrev Claim : ℕ → List Step → Type 0
  Claim c r = (k k' : Knowledge) (sl sl' : Slate) → Apart k k' sl sl' → sent_after answers sl (place c k r) ≡ sent_after answers sl' (place c k' r)

  unlooked : (c : ℕ) (s : Step) (r : List Step) (k k' : Knowledge) (sl sl' : Slate) → Claim c r → Apart k k' sl sl' → looks c k.began s ≡ false → looks c k'.began s ≡ false → sent_after answers sl (place c k (s ∷ r)) ≡ sent_after answers sl' (place c k' (s ∷ r))
  unlooked c s r k k' sl sl' ih a l l' =
      let i = kept c k s sl a.left a.unused l in
      let j = kept c k' s sl' a.right a.unused' l' in
      let p : puts c k s ≡ own_events c s = rw l refl in
      let p' : puts c k' s ≡ own_events c s = rw l' refl in
      let still : slate_after answers sl (puts c k s) ≡ sl = ap (slate_after answers sl) p ∙ i.0 in
      let still' : slate_after answers sl' (puts c k' s) ≡ sl' = ap (slate_after answers sl') p' ∙ j.0 in
      let none : sent_after answers sl (puts c k s) ≡ [] = ap (sent_after answers sl) p ∙ i.1 in
      let none' : sent_after answers sl' (puts c k' s) ≡ [] = ap (sent_after answers sl') p' ∙ j.1 in
      let un : (learns c k s).unheard ≡ k.unheard ++ entries (book_now k) s = rw l refl in
      let un' : (learns c k' s).unheard ≡ k'.unheard ++ entries (book_now k') s = rw l' refl in
      let more : Apart (learns c k s) (learns c k' s) sl sl' = record {
        left = rw still at (tied_slate answers c k s sl a.left);
        right = rw still' at (tied_slate answers c k' s sl' a.right);
        unused = a.unused;
        unused' = a.unused';
        began = ap (λ b. b || Rattle.dns_core.specs.Placed.begins c s) a.began;
        book = now_learns c k s ∙ ap (λ b. Rattle.dns_core.proofs.Tied.book_step b s) a.book ∙ sym (now_learns c k' s);
        hears =
            ap (slate_after answers sl) un ∙ slate_append answers k.unheard (entries (book_now k) s) sl
            ∙ ap (λ x. slate_after answers x (entries (book_now k) s)) a.hears
            ∙ ap (λ b. slate_after answers (slate_after answers sl' k'.unheard) (entries b s)) a.book
            ∙ sym (ap (slate_after answers sl') un' ∙ slate_append answers k'.unheard (entries (book_now k') s) sl');
      } in
      sent_after_append answers sl (puts c k s) (place c (learns c k s) r)
      ∙ ap (λ os. os ++ sent_after answers (slate_after answers sl (puts c k s)) (place c (learns c k s) r)) none
      ∙ ap (λ x. sent_after answers x (place c (learns c k s) r)) still
      ∙ ih (learns c k s) (learns c k' s) sl sl' more
      ∙ sym (sent_after_append answers sl' (puts c k' s) (place c (learns c k' s) r)
      ∙ ap (λ os. os ++ sent_after answers (slate_after answers sl' (puts c k' s)) (place c (learns c k' s) r)) none'
      ∙ ap (λ x. sent_after answers x (place c (learns c k' s) r)) still')

  -- what is heard by a look before it says nothing
  sent_heard : (c : ℕ) (s : Step) (r : List Step) (k : Knowledge) (sl : Slate) → TiedSlate answers k sl → is_unused sl.phase ≡ true → looks c k.began s ≡ true
      → sent_after answers sl (place c k (s ∷ r)) ≡ sent_after answers (slate_after answers sl k.unheard) (own_events c s ++ place c (learns c k s) r)
  sent_heard c s r k sl t u l =
      let p : puts c k s ≡ k.unheard ++ own_events c s = rw l refl in
      ap (λ es. sent_after answers sl (es ++ place c (learns c k s) r)) p
      ∙ ap (sent_after answers sl) (append_assoc k.unheard (own_events c s) (place c (learns c k s) r))
      ∙ sent_after_append answers sl k.unheard (own_events c s ++ place c (learns c k s) r)
      ∙ ap (λ os. os ++ sent_after answers (slate_after answers sl k.unheard) (own_events c s ++ place c (learns c k s) r)) (unused_says answers k.seen k.unheard sl t.enter u)

  looked : (c : ℕ) (s : Step) (r : List Step) (k k' : Knowledge) (sl sl' : Slate) → Apart k k' sl sl' → looks c k.began s ≡ true → looks c k'.began s ≡ true → sent_after answers sl (place c k (s ∷ r)) ≡ sent_after answers sl' (place c k' (s ∷ r))
  looked c s r k k' sl sl' a l l' =
      let e : learns c k s ≡ learns c k' s =
      rw (l, l') (ap (λ b. let x : Knowledge = record { began = b || Rattle.dns_core.specs.Placed.begins c s; seen = book_now k; unheard = [] } in x) a.began ∙ ap (λ b. let x : Knowledge = record { began = k'.began || Rattle.dns_core.specs.Placed.begins c s; seen = b; unheard = [] } in x) a.book) in
      sent_heard c s r k sl a.left a.unused l
      ∙ ap (λ x. sent_after answers x (own_events c s ++ place c (learns c k s) r)) a.hears
      ∙ ap (λ x. sent_after answers (slate_after answers sl' k'.unheard) (own_events c s ++ place c x r)) e
      ∙ sym (sent_heard c s r k' sl' a.right a.unused' l')

  step_apart : (b : Bool) (c : ℕ) (s : Step) (r : List Step) (k k' : Knowledge) (sl sl' : Slate) → Claim c r → Apart k k' sl sl' → looks c k.began s ≡ b → sent_after answers sl (place c k (s ∷ r)) ≡ sent_after answers sl' (place c k' (s ∷ r))
  step_apart true c s r k k' sl sl' ih a l = looked c s r k k' sl sl' a l (ap (λ b. looks c b s) (sym a.began) ∙ l)
  step_apart false c s r k k' sl sl' ih a l = unlooked c s r k k' sl sl' ih a l (ap (λ b. looks c b s) (sym a.began) ∙ l)

  apart : (c : ℕ) (r : List Step) → Claim c r
  apart c [] k k' sl sl' a = refl
  apart c (s ∷ r) k k' sl sl' a = step_apart (looks c k.began s) c s r k k' sl sl' (apart c r) a refl

  module _ (settings : Settings) where
    -- a look of a client that has not begun
    pub early_look : (c at secs : ℕ) (q r : List Step) → is_unused (placed_slate answers settings c q).phase ≡ true → sent answers settings (placed settings c (q ++ Look at secs c ∷ r)) ≡ sent answers settings (placed settings c (q ++ r))
    unfolding sent placed placed_slate knows
    early_look c at secs q r u =
        let o = knowledge_at_first settings in
        let f = fresh (opening settings) in
        let k = learned c o q in
        let sl = slate_after answers f (place c o q) in
        let s = Look at secs c in
        let t = (tied answers settings c q).slate in
        let self = eq-eqb c c refl in
        let l : looks c k.began s ≡ true = self in
        let p : puts c k s ≡ k.unheard = rw self (append-nil k.unheard) in
        let here : slate_after answers sl (puts c k s) ≡ slate_after answers sl k.unheard = ap (slate_after answers sl) p in
        let a : Apart k (learns c k s) sl (slate_after answers sl k.unheard) = record {
          left = t;
          right = rw here at (tied_slate answers c k s sl t);
          unused = u;
          unused' = unused_list answers k.seen k.unheard sl t.enter ∙ u;
          began = sym (or-false k.began);
          book = sym (now_learns c k s);
          hears = rw self refl;
        } in
        ap (sent_after answers f) (place_append c o q (s ∷ r))
        ∙ sent_after_append answers f (place c o q) (place c k (s ∷ r))
        ∙ ap (λ os. sent_after answers f (place c o q) ++ os) (sent_heard c s r k sl t u l ∙ sym (apart c r k (learns c k s) sl (slate_after answers sl k.unheard) a))
        ∙ sym (ap (sent_after answers f) (place_append c o q r) ∙ sent_after_append answers f (place c o q) (place c k r))

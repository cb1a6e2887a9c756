-- What one client is sent, read off what all are sent.
use Rattle.dns_session.specs.Serving.{Serving}
use Rattle.std.proofs.Common.{◌≡◌, ◌≢◌, ℕ, List, [], ◌∷◌, ◌++◌, Bool, true, false, cond, refl, ap, sym, ◌∙◌, subst, append_assoc, ⊎_elim}
use Rattle.std.proofs.lemmas.List.{append-nil}
use Rattle.std.proofs.lemmas.Bool.{cases_eq, eq-eqb, eqb-true, ne_eqb, false_from_ne_true, not-true, and_parts}
use Rattle.std.proofs.lemmas.List.Elements.{filter-append}
use Rattle.std.proofs.lemmas.Map.Keys.{sorted_head, sorted_tail}
use Rattle.std.specs.Prelude.{nat_eq, filter, if◌then◌else◌, not, ◌&&◌}
use Rattle.std.specs.List.{list_any, flat_map}
use Rattle.std.specs.List.Sorted.{IsStrictlySortedBy}
use Rattle.std.specs.Ordering.{nat_cmp}
use Rattle.std.proofs.Math.Bool.{or-true}
use Rattle.dns_events.specs.declared.event.Event.{Event}
use Rattle.dns_events.specs.declared.event.Output.{Output}
use Rattle.dns_events.specs.declared.event.Output.TheVariants.{TurnedAway}
use Rattle.dns_session.specs.Slate.{Slate}
use Rattle.dns_core.specs.Own.{is_wide, concerns, own}
use Rattle.dns_core.specs.Sent.{conf, sent, slate}
use Rattle.dns_core.specs.Out.{is_unused, is_new, is_turned_away, joins, members, gain, heard, turned_away, gained, out}
use Rattle.dns_core.specs.ByClient.{is_for, is_member, was_turned_away}
use Rattle.dns_events.specs.declared.settings.Settings.{Settings}
use Rattle.dns_session_map.proofs.Keys.{less_absent}
use Rattle.dns_core.proofs.OutLemmas.{slate_some, sent_more, sent_still, out_more}
use Rattle.dns_core.proofs.Plain.{unused_is}
use Rattle.dns_core.proofs.Gained.{concerns_own, used_more, new_was, new_became, used_not_new, members_kept, members_away}
use Rattle.dns_core.proofs.Rising.{rises, members_used, new_joins}
use Rattle.dns_core.proofs.Nothing.{member_other}
use Rattle.dns_core.proofs.Named.{AreFor, filter_for, filter_others, rule_for, first_for, wide_begins_nobody, of_client, sent_nothing}

-- neither a member nor turned away: it didn't begin
pub didnt_begin : (u m : Bool) → m ≡ false → (not u && not m) ≡ false → u ≡ true
didnt_begin true m absent h = refl
didnt_begin false true absent h = cc
didnt_begin false false absent h = cc

-- of what is told by number, what is for one is what that one is told
flat_case : (p : ℕ → Bool) (f : ℕ → List Output) (c m : ℕ) (ms : List ℕ) (rest : List Output) → filter (is_for c) (flat_map f (filter p ms)) ≡ rest → (b : Bool) → p m ≡ b
    → filter (is_for c) (flat_map f (cond b (m ∷ filter p ms) (filter p ms))) ≡ filter (is_for c) (if b then f m else []) ++ rest
flat_case p f c m ms rest more true h = filter-append (is_for c) (f m) (flat_map f (filter p ms)) ∙ ap (λ (os : List Output). filter (is_for c) (f m) ++ os) more
flat_case p f c m ms rest more false h = more

other_case : (c m : ℕ) (os : List Output) → c ≢ m → (b : Bool) → (b ≡ true → AreFor m os) → filter (is_for c) (if b then os else []) ≡ []
other_case c m os apart true h = filter_others c m os (h refl) apart
other_case c m os apart false h = refl

flat_absent : (p : ℕ → Bool) (f : ℕ → List Output) (c : ℕ) (ms : List ℕ) → ((d : ℕ) → p d ≡ true → list_any (nat_eq d) ms ≡ true → AreFor d (f d)) → list_any (nat_eq c) ms ≡ false → filter (is_for c) (flat_map f (filter p ms)) ≡ []
flat_absent p f c [] each absent = refl
flat_absent p f c (m ∷ ms) each absent =
    let apart : c ≢ m = λ (e : c ≡ m). let here = eq-eqb c m e in cc in
    let ne = ne_eqb c m apart in
    let rest = flat_absent p f c ms (λ d passes there. each d passes (rw there (or-true (nat_eq d m)))) (rw ne at absent) in
    flat_case p f c m ms [] rest (p m) refl ∙ (append-nil (filter (is_for c) (if p m then f m else [])) ∙ other_case c m (f m) apart (p m) (λ passes. each m passes (rw (eq-eqb m m refl) refl)))

-- of numbers that rise each is told once
flat_of : (p : ℕ → Bool) (f : ℕ → List Output) (c : ℕ) (ms : List ℕ) → IsStrictlySortedBy nat_cmp ms → ((d : ℕ) → p d ≡ true → list_any (nat_eq d) ms ≡ true → AreFor d (f d)) → list_any (nat_eq c) ms ≡ true → filter (is_for c) (flat_map f (filter p ms)) ≡ (if p c then f c else [])
flat_of p f c [] so each there = cc
flat_of p f c (m ∷ ms) so each there =
    let later : (d : ℕ) → p d ≡ true → list_any (nat_eq d) ms ≡ true → AreFor d (f d) = λ d passes is. each d passes (rw is (or-true (nat_eq d m))) in
    ⊎_elim
    (λ (same : m ≡ c).
    let absent : list_any (nat_eq c) ms ≡ false = ap (λ (x : ℕ). list_any (nat_eq x) ms) (sym same) ∙ less_absent m ms (sorted_head nat_cmp m ms so) in
    flat_case p f c m ms [] (flat_absent p f c ms later absent) (p m) refl
    ∙ (append-nil (filter (is_for c) (if p m then f m else []))
    ∙ (ap (λ (x : ℕ). filter (is_for c) (if p x then f x else [])) same
    ∙ own_case c (f c) (p c) (λ passes. each c passes (rw (eq-eqb c m (sym same)) refl)))))
    (λ (apart : m ≢ c).
    let ne = ne_eqb c m (λ (e : c ≡ m). apart (sym e)) in
    let rest = flat_of p f c ms (sorted_tail nat_cmp m ms so) later (rw ne at there) in
    flat_case p f c m ms (if p c then f c else []) rest (p m) refl
    ∙ ap (λ (os : List Output). os ++ (if p c then f c else [])) (other_case c m (f m) (λ (e : c ≡ m). apart (sym e)) (p m) (λ passes. each m passes (rw (eq-eqb m m refl) refl))))
    (cases_eq m c)
  where
    own_case : (c : ℕ) (os : List Output) (b : Bool) → (b ≡ true → AreFor c os) → filter (is_for c) (if b then os else []) ≡ (if b then os else [])
    own_case c os true h = filter_for c os (h refl)
    own_case c os false h = refl

module _ (answers : Serving) (settings : Settings) where
  -- a member is told what is for it, at the event by which it begins and after
  gain_unused : (d : ℕ) (q : List Event) (e : Event) → concerns d e ≡ true → is_unused (slate answers settings d q).phase ≡ true → is_unused (slate answers settings d (q ++ e ∷ [])).phase ≡ false → (w : Bool) → is_wide e.kind ≡ w → AreFor d (gain answers settings d q e)
  gain_unused d q e hears u used true w =
      let still = ap (λ (s : Slate). is_unused s.phase) (slate_some answers settings d q e hears) ∙ wide_begins_nobody answers e (slate answers settings d q) w u in cc
  gain_unused d q e hears u used false w =
      let same : e.client ≡ d = eqb-true e.client d (sym (concerns_own d e w) ∙ hears) in
      subst (λ (c : ℕ). AreFor c (gain answers settings d q e)) same (first_for answers e (slate answers settings d q) (unused_is (slate answers settings d q).phase u))

  gain_case : (d : ℕ) (q : List Event) (e : Event) → concerns d e ≡ true → list_any (nat_eq d) (members answers settings (q ++ e ∷ [])) ≡ true → (u : Bool) → is_unused (slate answers settings d q).phase ≡ u → AreFor d (gain answers settings d q e)
  gain_case d q e hears there true u = gain_unused d q e hears u (members_used answers settings (q ++ e ∷ []) d there) (is_wide e.kind) refl
  gain_case d q e hears there false u = subst (λ (c : ℕ). AreFor c (gain answers settings d q e)) (of_client answers settings d q u) (rule_for answers e (slate answers settings d q) u)

  gain_for : (q : List Event) (e : Event) (d : ℕ) → concerns d e ≡ true → list_any (nat_eq d) (members answers settings (q ++ e ∷ [])) ≡ true → AreFor d (gain answers settings d q e)
  gain_for q e d hears there = gain_case d q e hears there (is_unused (slate answers settings d q).phase) refl

  away_case : (c : ℕ) (q : List Event) (e : Event) (b : Bool) → is_turned_away answers settings q e ≡ b → (b ≡ true → c ≢ e.client) → filter (is_for c) (turned_away answers settings q e) ≡ []
  away_case c q e true h apart = rw h (filter_others c e.client (TurnedAway e.client (conf settings q).stream.accept_connections_at_max ∷ []) (refl, tt) (apart refl))
  away_case c q e false h apart = rw h refl

  -- one that isn't turned away by this event
  gained_member : (c : ℕ) (q : List Event) (e : Event) → (is_turned_away answers settings q e ≡ true → c ≢ e.client) → list_any (nat_eq c) (members answers settings (q ++ e ∷ [])) ≡ true → filter (is_for c) (gained answers settings q e) ≡ (if concerns c e then gain answers settings c q e else [])
  gained_member c q e apart there =
      let ms = members answers settings (q ++ e ∷ []) in
      let f : ℕ → List Output = λ d. gain answers settings d q e in
      filter-append (is_for c) (flat_map f (heard answers settings q e)) (turned_away answers settings q e)
      ∙ (ap (λ (os : List Output). filter (is_for c) (flat_map f (heard answers settings q e)) ++ os) (away_case c q e (is_turned_away answers settings q e) refl apart)
      ∙ (append-nil (filter (is_for c) (flat_map f (heard answers settings q e)))
      ∙ flat_of (λ d. concerns d e) f c ms (rises answers settings (q ++ e ∷ [])) (gain_for q e) there))

  gained_stranger : (c : ℕ) (q : List Event) (e : Event) → list_any (nat_eq c) (members answers settings (q ++ e ∷ [])) ≡ false → filter (is_for c) (gained answers settings q e) ≡ filter (is_for c) (turned_away answers settings q e)
  gained_stranger c q e absent =
      let f : ℕ → List Output = λ d. gain answers settings d q e in
      filter-append (is_for c) (flat_map f (heard answers settings q e)) (turned_away answers settings q e)
      ∙ ap (λ (os : List Output). os ++ filter (is_for c) (turned_away answers settings q e)) (flat_absent (λ d. concerns d e) f c (members answers settings (q ++ e ∷ [])) (gain_for q e) absent)

  for_more : (c : ℕ) (q : List Event) (e : Event) → filter (is_for c) (out answers settings (q ++ e ∷ [])) ≡ filter (is_for c) (out answers settings q) ++ filter (is_for c) (gained answers settings q e)
  for_more c q e = ap (filter (is_for c)) (out_more answers settings q e) ∙ filter-append (is_for c) (out answers settings q) (gained answers settings q e)

  abbrev sent_to : ℕ → List Event → List Output
  sent_to c q = filter (is_for c) (out answers settings q)

  no_out : (c : ℕ) → sent_to c [] ≡ []
  unfolding out
  no_out c = refl

  no_members : (c : ℕ) → list_any (nat_eq c) (members answers settings []) ≡ false
  unfolding members
  no_members c = refl

  was_case : (c : ℕ) (q : List Event) (e : Event) → is_unused (slate answers settings c (q ++ e ∷ [])).phase ≡ true → (b : Bool) → is_unused (slate answers settings c q).phase ≡ b → is_unused (slate answers settings c q).phase ≡ true
  was_case c q e u true is = is
  was_case c q e u false is = let used = used_more answers settings c q e is in cc

  -- a client whose number is unused is no member, and begins with nothing that turns it away
  unused_absent : (c : ℕ) (q : List Event) → is_unused (slate answers settings c q).phase ≡ true → list_any (nat_eq c) (members answers settings q) ≡ false
  unused_absent c q u = false_from_ne_true (list_any (nat_eq c) (members answers settings q)) (λ there. let used = members_used answers settings q c there in let no : ⊥ = cc in no)

  away_new : (q : List Event) (e : Event) → is_turned_away answers settings q e ≡ true → is_new answers settings q e ≡ true
  away_new q e h = (and_parts (is_new answers settings q e) (not (joins answers settings q (members answers settings q) e)) h).0

  unused_apart : (c : ℕ) (q : List Event) (e : Event) → is_unused (slate answers settings c (q ++ e ∷ [])).phase ≡ true → is_turned_away answers settings q e ≡ true → c ≢ e.client
  unused_apart c q e u away same = let became = new_became answers settings q e (away_new q e away) in let u' : is_unused (slate answers settings e.client (q ++ e ∷ [])).phase ≡ true = rw same at u in let no : ⊥ = cc in no

  member_apart : (c : ℕ) (q : List Event) (e : Event) → list_any (nat_eq c) (members answers settings q) ≡ true → is_turned_away answers settings q e ≡ true → c ≢ e.client
  member_apart c q e there away same = let was = new_was answers settings q e (away_new q e away) in let t : list_any (nat_eq e.client) (members answers settings q) ≡ true = rw same at there in let used = members_used answers settings q e.client t in let no : ⊥ = cc in no

  -- to a client that didn't begin nothing is sent
  abbrev Untold : List Event → Type 0
  Untold q = (c : ℕ) → is_unused (slate answers settings c q).phase ≡ true → sent_to c q ≡ []

  untold_more : (q : List Event) (e : Event) → Untold q → Untold (q ++ e ∷ [])
  untold_more q e h c u =
      for_more c q e
      ∙ (ap (λ (os : List Output). os ++ filter (is_for c) (gained answers settings q e)) (h c (was_case c q e u (is_unused (slate answers settings c q).phase) refl))
      ∙ (gained_stranger c q e (unused_absent c (q ++ e ∷ []) u)
      ∙ away_case c q e (is_turned_away answers settings q e) refl (unused_apart c q e u)))

  untold_on : (r q : List Event) → Untold q → Untold (q ++ r)
  untold_on [] q h = subst Untold (sym (append-nil q)) h
  untold_on (x ∷ r) q h = subst Untold (append_assoc q (x ∷ []) r) (untold_on r (q ++ x ∷ []) (untold_more q x h))

  untold : (q : List Event) → Untold q
  untold q = untold_on q [] (λ c u. no_out c)

  -- to a member what its own events send
  abbrev Owns : List Event → Type 0
  Owns q = (c : ℕ) → list_any (nat_eq c) (members answers settings q) ≡ true → sent_to c q ≡ sent answers settings (own c q)

  goes_on : (c : ℕ) (q : List Event) (e : Event) → sent_to c q ≡ sent answers settings (own c q) → (is_turned_away answers settings q e ≡ true → c ≢ e.client) → list_any (nat_eq c) (members answers settings (q ++ e ∷ [])) ≡ true → (b : Bool) → concerns c e ≡ b → sent_to c (q ++ e ∷ []) ≡ sent answers settings (own c (q ++ e ∷ []))
  goes_on c q e so apart there true hears =
      for_more c q e
      ∙ (ap (λ (os : List Output). os ++ filter (is_for c) (gained answers settings q e)) so
      ∙ (ap (λ (os : List Output). sent answers settings (own c q) ++ os) (gained_member c q e apart there ∙ rw hears refl)
      ∙ sym (sent_more answers settings c q e hears)))
  goes_on c q e so apart there false hears =
      for_more c q e
      ∙ (ap (λ (os : List Output). os ++ filter (is_for c) (gained answers settings q e)) so
      ∙ (ap (λ (os : List Output). sent answers settings (own c q) ++ os) (gained_member c q e apart there ∙ rw hears refl)
      ∙ (append-nil (sent answers settings (own c q))
      ∙ sym (sent_still answers settings c q e hears))))

  -- one that is a member since this event
  began : (c : ℕ) (q : List Event) (e : Event) → list_any (nat_eq c) (members answers settings q) ≡ false → list_any (nat_eq c) (members answers settings (q ++ e ∷ [])) ≡ true → (b : Bool) → joins answers settings q (members answers settings q) e ≡ b → (joins answers settings q (members answers settings q) e ≡ true) × (c ≡ e.client)
  began c q e absent there false j = let same = ap (list_any (nat_eq c)) (members_away answers settings q e j) in cc
  began c q e absent there true j =
      ⊎_elim
      (λ (same : c ≡ e.client). (j, same))
      (λ (apart : c ≢ e.client). let other = member_other answers settings q e c apart in cc)
      (cases_eq c e.client)

  owns_case : (q : List Event) (e : Event) → Owns q → (c : ℕ) → list_any (nat_eq c) (members answers settings (q ++ e ∷ [])) ≡ true → (b : Bool) → list_any (nat_eq c) (members answers settings q) ≡ b → sent_to c (q ++ e ∷ []) ≡ sent answers settings (own c (q ++ e ∷ []))
  owns_case q e h c there true is = goes_on c q e (h c is) (member_apart c q e is) there (concerns c e) refl
  owns_case q e h c there false is =
      let b = began c q e is there (joins answers settings q (members answers settings q) e) refl in
      let was : is_unused (slate answers settings c q).phase ≡ true = ap (λ (x : ℕ). is_unused (slate answers settings x q).phase) b.1 ∙ new_was answers settings q e (new_joins answers settings q e (members answers settings q) b.0) in
      let so : sent_to c q ≡ sent answers settings (own c q) = untold q c was ∙ sym (sent_nothing answers settings c q was) in
      goes_on c q e so (λ away. let not_joined = and_parts (is_new answers settings q e) (not (joins answers settings q (members answers settings q) e)) away in let joined = b.0 in cc) there (concerns c e) refl

  owns_on : (r q : List Event) → Owns q → Owns (q ++ r)
  owns_on [] q h = subst Owns (sym (append-nil q)) h
  owns_on (x ∷ r) q h = subst Owns (append_assoc q (x ∷ []) r) (owns_on r (q ++ x ∷ []) (λ c there. owns_case q x h c there (list_any (nat_eq c) (members answers settings q)) refl))

  pub owns : (q : List Event) → Owns q
  owns q = owns_on q [] (λ c there. let none = no_members c in cc)

  -- one that was turned away stays so
  record Away (c : ℕ) (q : List Event) (os : List Output) : Type 0 where
    used : is_unused (slate answers settings c q).phase ≡ false
    absent : list_any (nat_eq c) (members answers settings q) ≡ false
    effect : sent_to c q ≡ os

  still_absent : (c : ℕ) (q : List Event) (x : Event) → is_unused (slate answers settings c q).phase ≡ false → list_any (nat_eq c) (members answers settings q) ≡ false → list_any (nat_eq c) (members answers settings (q ++ x ∷ [])) ≡ false
  still_absent c q x used absent =
      ⊎_elim
      (λ (same : c ≡ x.client).
      let u : is_unused (slate answers settings x.client q).phase ≡ false = rw same at used in
      ap (list_any (nat_eq c)) (members_kept answers settings q x (used_not_new answers settings q x u)) ∙ absent)
      (λ (apart : c ≢ x.client). member_other answers settings q x c apart ∙ absent)
      (cases_eq c x.client)

  used_apart : (c : ℕ) (q : List Event) (x : Event) → is_unused (slate answers settings c q).phase ≡ false → is_turned_away answers settings q x ≡ true → c ≢ x.client
  used_apart c q x used away same = let was = new_was answers settings q x (away_new q x away) in let u : is_unused (slate answers settings x.client q).phase ≡ false = rw same at used in let no : ⊥ = cc in no

  away_more : (c : ℕ) (q : List Event) (os : List Output) (x : Event) → Away c q os → Away c (q ++ x ∷ []) os
  away_more c q os x a =
      let absent = still_absent c q x a.used a.absent in
      record {
        used = used_more answers settings c q x a.used;
        absent = absent;
        effect = for_more c q x
            ∙ (ap (λ (ps : List Output). ps ++ filter (is_for c) (gained answers settings q x)) a.effect
            ∙ (ap (λ (ps : List Output). os ++ ps) (gained_stranger c q x absent ∙ away_case c q x (is_turned_away answers settings q x) refl (used_apart c q x a.used))
            ∙ append-nil os));
      }

  away_on : (c : ℕ) (os : List Output) (r q : List Event) → Away c q os → Away c (q ++ r) os
  away_on c os [] q a = subst (λ (p : List Event). Away c p os) (sym (append-nil q)) a
  away_on c os (x ∷ r) q a = subst (λ (p : List Event). Away c p os) (append_assoc q (x ∷ []) r) (away_on c os r (q ++ x ∷ []) (away_more c q os x a))

  pub turned : (q r : List Event) (e : Event) → is_turned_away answers settings q e ≡ true → sent_to e.client (q ++ e ∷ r) ≡ TurnedAway e.client (conf settings q).stream.accept_connections_at_max ∷ []
  turned q r e away =
      let both = and_parts (is_new answers settings q e) (not (joins answers settings q (members answers settings q) e)) away in
      let out_of = not-true (joins answers settings q (members answers settings q) e) both.1 in
      let was = new_was answers settings q e both.0 in
      let absent = ap (list_any (nat_eq e.client)) (members_away answers settings q e out_of) ∙ unused_absent e.client q was in
      let line = TurnedAway e.client (conf settings q).stream.accept_connections_at_max ∷ [] in
      let says : filter (is_for e.client) (turned_away answers settings q e) ≡ line = rw away (filter_for e.client line (refl, tt)) in
      let first : Away e.client (q ++ e ∷ []) line = record {
        used = new_became answers settings q e both.0;
        absent = absent;
        effect = for_more e.client q e ∙ (ap (λ (os : List Output). os ++ filter (is_for e.client) (gained answers settings q e)) (untold q e.client was) ∙ (gained_stranger e.client q e absent ∙ says));
      } in
      ap (sent_to e.client) (sym (append_assoc q (e ∷ []) r)) ∙ (away_on e.client line r (q ++ e ∷ []) first).effect

  pub strangers : (c : ℕ) (es : List Event) → is_member answers settings c es ≡ false → was_turned_away answers settings c es ≡ false → sent_to c es ≡ []
  strangers c es absent h = untold es c (didnt_begin (is_unused (slate answers settings c es).phase) (is_member answers settings c es) absent h)

  -- a client that wasn't turned away is sent what its own events alone give
  not_away : (c : ℕ) (es : List Event) (m : Bool) → is_member answers settings c es ≡ m → was_turned_away answers settings c es ≡ false → sent_to c es ≡ sent answers settings (own c es)
  not_away c es true there h = owns es c there
  not_away c es false there h =
      let u = didnt_begin (is_unused (slate answers settings c es).phase) (is_member answers settings c es) there h in
      untold es c u ∙ sym (sent_nothing answers settings c es u)

  pub alike : (c : ℕ) (es fs : List Event) → own c es ≡ own c fs → was_turned_away answers settings c es ≡ false → was_turned_away answers settings c fs ≡ false → sent_to c es ≡ sent_to c fs
  alike c es fs same e f =
      not_away c es (is_member answers settings c es) refl e ∙ (ap (sent answers settings) same ∙ sym (not_away c fs (is_member answers settings c fs) refl f))

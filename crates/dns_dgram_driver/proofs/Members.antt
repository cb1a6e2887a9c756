-- One event more of a driver of datagrams: the slates after it, who the members are, and what is sent for it.
use Rattle.std.proofs.Common.{◌≡◌, ◌≢◌, ℕ, List, [], ◌∷◌, ◌++◌, Bool, true, false, cond, refl, ap, sym, ◌∙◌, subst, append_assoc, append-nil, inl, inr}
use Rattle.std.specs.Prelude.{filter, nat_eq, nat_lt, not, ◌&&◌, ◌||◌, if◌then◌else◌}
use Rattle.std.specs.List.{flat_map}
use Rattle.std.proofs.lemmas.Bool.{eq-eqb, ne_eqb}
use Rattle.std.proofs.lemmas.Bool.Decides.{eqb_tells}
use Rattle.dns_events.specs.declared.event.Event.{Event}
use Rattle.dns_events.specs.declared.event.Output.{Output}
use Rattle.dns_session.specs.Serving.{Serving}
use Rattle.dns_session.specs.Slate.{Slate, Conf, Effect, Phase, Unused, Exchange, fresh, conf_rule}
use Rattle.dns_session.specs.Rule.{rule}
use Rattle.dns_events.specs.declared.settings.Settings.{Settings}
use Rattle.dns_recorder.specs.Settings.{opening}
use Rattle.dns_recorder.specs.Own.{is_wide, own, concerns}
use Rattle.dns_recorder.specs.Sent.{conf, conf_after, slate_after, slate}
use Rattle.dns_recorder.specs.Out.{is_unused, is_connection, holds_slot, put, gain, is_new, joins, joined, members, members_after, heard, turned_away, gained}
use Rattle.dns_dgram_driver.specs.Events.{IsDatagramKind, AllDatagramKinds}
use Rattle.dns_dgram_driver.proofs.Slates.{IsPost, Takes, takes, IsPlainIn, plain_slate}

-- ---- one event more

pub kinds_more : (q : List Event) (e : Event) → AllDatagramKinds q → IsDatagramKind e.kind → AllDatagramKinds (q ++ e ∷ [])
kinds_more [] e d k = (k, tt)
kinds_more (x ∷ q) e d k = (d.0, kinds_more q e d.1 k)

pub kinds_before : (q r : List Event) → AllDatagramKinds (q ++ r) → AllDatagramKinds q
kinds_before [] r d = tt
kinds_before (x ∷ q) r d = (d.0, kinds_before q r d.1)

own_some : (c : ℕ) (q : List Event) (e : Event) → concerns c e ≡ true → own c (q ++ e ∷ []) ≡ own c q ++ e ∷ []
own_some c [] e h = rw h refl
own_some c (x ∷ q) e h = (elim (concerns c x) as (λ b. cond b (x ∷ own c (q ++ e ∷ [])) (own c (q ++ e ∷ [])) ≡ cond b (x ∷ own c q) (own c q) ++ e ∷ []) [ true ↦ ap (λ es. x ∷ es) (own_some c q e h) | false ↦ own_some c q e h ])

own_none : (c : ℕ) (q : List Event) (e : Event) → concerns c e ≡ false → own c (q ++ e ∷ []) ≡ own c q
own_none c [] e h = rw h refl
own_none c (x ∷ q) e h = (elim (concerns c x) as (λ b. cond b (x ∷ own c (q ++ e ∷ [])) (own c (q ++ e ∷ [])) ≡ cond b (x ∷ own c q) (own c q)) [ true ↦ ap (λ es. x ∷ es) (own_none c q e h) | false ↦ own_none c q e h ])

after_more : (answers : Serving) (s : Slate) (q : List Event) (e : Event) → slate_after answers s (q ++ e ∷ []) ≡ (rule answers e (slate_after answers s q)).0
after_more answers s [] e = refl
after_more answers s (x ∷ q) e = after_more answers (rule answers x s).0 q e

conf_after_more : (k : Conf) (q : List Event) (e : Event) → conf_after k (q ++ e ∷ []) ≡ conf_rule e.kind (conf_after k q)
conf_after_more k [] e = refl
conf_after_more k (x ∷ q) e = conf_after_more (conf_rule x.kind k) q e

pub conf_more : (settings : Settings) (q : List Event) (e : Event) → conf settings (q ++ e ∷ []) ≡ conf_rule e.kind (conf settings q)
unfolding conf
conf_more settings q e = conf_after_more (opening settings) q e

own_concerns : (c : ℕ) (e : Event) → e.client ≡ c → concerns c e ≡ true
own_concerns c e h = rw (eq-eqb e.client c h) (elim (is_wide e.kind) as (λ b. (b || true) ≡ true) [ true ↦ refl | false ↦ refl ])

wide_concerns : (c : ℕ) (e : Event) → is_wide e.kind ≡ true → concerns c e ≡ true
wide_concerns c e w = rw w refl

other_concerns : (c : ℕ) (e : Event) → is_wide e.kind ≡ false → e.client ≢ c → concerns c e ≡ false
other_concerns c e w ne = rw (w, ne_eqb e.client c ne) refl

module _ (answers : Serving) (settings : Settings) where
  heard_slate : (c : ℕ) (q : List Event) (e : Event) → concerns c e ≡ true → slate answers settings c (q ++ e ∷ []) ≡ (rule answers e (slate answers settings c q)).0
  unfolding slate
  heard_slate c q e h = ap (slate_after answers (fresh (opening settings))) (own_some c q e h) ∙ after_more answers (fresh (opening settings)) (own c q) e

  unheard_slate : (c : ℕ) (q : List Event) (e : Event) → concerns c e ≡ false → slate answers settings c (q ++ e ∷ []) ≡ slate answers settings c q
  unfolding slate
  unheard_slate c q e h = ap (slate_after answers (fresh (opening settings))) (own_none c q e h)

  -- of the client of the event
  pub slate_own : (c : ℕ) (q : List Event) (e : Event) → e.client ≡ c → slate answers settings c (q ++ e ∷ []) ≡ (rule answers e (slate answers settings c q)).0
  slate_own c q e h = heard_slate c q e (own_concerns c e h)

  -- of an event that all clients hear
  pub slate_wide : (c : ℕ) (q : List Event) (e : Event) → is_wide e.kind ≡ true → slate answers settings c (q ++ e ∷ []) ≡ (rule answers e (slate answers settings c q)).0
  slate_wide c q e w = heard_slate c q e (wide_concerns c e w)

  -- of another client
  pub slate_other : (c : ℕ) (q : List Event) (e : Event) → is_wide e.kind ≡ false → e.client ≢ c → slate answers settings c (q ++ e ∷ []) ≡ slate answers settings c q
  slate_other c q e w ne = unheard_slate c q e (other_concerns c e w ne)

  -- ---- what an event does

  pub took : (c : ℕ) (q : List Event) (e : Event) → AllDatagramKinds q → IsDatagramKind e.kind → (is_wide e.kind ≡ false → e.client ≡ c) → Takes c e.kind (slate answers settings c q) (rule answers e (slate answers settings c q))
  took c q e d k mine = takes answers c e (slate answers settings c q) k mine (plain_slate answers settings c q d).plain

-- ---- the members that a client is

abbrev pub those : ℕ → List ℕ → List ℕ
those c ms = filter (λ d. nat_eq c d) ms

those_first : (c n : ℕ) (ns : List ℕ) (b : Bool) → nat_eq c n ≡ b → those c (n ∷ ns) ≡ cond b (n ∷ those c ns) (those c ns)
those_first c n ns b h = rw h refl

those_mine : (c : ℕ) (ns : List ℕ) → those c (c ∷ ns) ≡ c ∷ those c ns
those_mine c ns = those_first c c ns true (eq-eqb c c refl)

those_not : (c n : ℕ) (ns : List ℕ) → c ≢ n → those c (n ∷ ns) ≡ those c ns
those_not c n ns h = those_first c n ns false (ne_eqb c n h)

not_first : (c n : ℕ) (ns : List ℕ) (b : Bool) → nat_eq c n ≡ b → those c (n ∷ ns) ≡ [] → (b ≡ false) × (those c ns ≡ [])
not_first c n ns true h e = let f = those_first c n ns true h in cc
not_first c n ns false h e = (refl, sym (those_first c n ns false h) ∙ e)

those_put : (c : ℕ) (ms : List ℕ) → those c ms ≡ [] → those c (put c ms) ≡ c ∷ []
those_put c [] h = those_mine c []
those_put c (n ∷ ns) h =
    let x = not_first c n ns (nat_eq c n) refl h in
    let no : nat_eq c n ≡ false = x.0 in
    (elim (nat_lt c n) as (λ b. those c (if b then c ∷ n ∷ ns else n ∷ put c ns) ≡ c ∷ []) [
      | true ↦ those_mine c (n ∷ ns) ∙ ap (λ (xs : List ℕ). c ∷ xs) h
      | false ↦ those_first c n (put c ns) false no ∙ those_put c ns x.1
    ])

those_put_not : (c d : ℕ) (ms : List ℕ) → c ≢ d → those c (put d ms) ≡ those c ms
those_put_not c d [] h = those_not c d [] h
those_put_not c d (n ∷ ns) h =
    (elim (nat_lt d n) as (λ b. those c (if b then d ∷ n ∷ ns else n ∷ put d ns) ≡ those c (n ∷ ns)) [
      | true ↦ those_not c d (n ∷ ns) h
      | false ↦ those_first c n (put d ns) (nat_eq c n) refl ∙ ap (λ (xs : List ℕ). cond (nat_eq c n) (n ∷ xs) xs) (those_put_not c d ns h) ∙ sym (those_first c n ns (nat_eq c n) refl)
    ])

plain_exchange : (c : ℕ) (p : Phase) (s : Slate) → IsPlainIn c p s → is_unused p ≡ false → p ≡ Exchange
plain_exchange c Unused s h u = cc
plain_exchange c Exchange s h u = refl
plain_exchange c _ s h u = absurd h

plain_slotless : (c : ℕ) (p : Phase) (s : Slate) → IsPlainIn c p s → is_connection p ≡ false
plain_slotless c Unused s h = refl
plain_slotless c Exchange s h = refl
plain_slotless c _ s h = absurd h

and_true : (b : Bool) → (b && true) ≡ b
and_true true = refl
and_true false = refl

and_not : (b : Bool) → (b && not b) ≡ false
and_not true = refl
and_not false = refl

both : (a b : Bool) → (a && not b) ≡ true → (a ≡ true) × (b ≡ false)
both true true h = cc
both true false h = (refl, refl)
both false b h = cc

neither : (a b : Bool) → (a && not b) ≡ false → (a ≡ false → b ≡ false) → b ≡ a
neither true true h k = refl
neither true false h k = cc
neither false b h k = k refl

module _ (answers : Serving) (settings : Settings) where
  -- the phase of an exchange, and whether a number is unused
  abbrev pub unused : ℕ → List Event → Bool
  unused c q = is_unused (slate answers settings c q).phase

  pub used_exchange : (c : ℕ) (q : List Event) → AllDatagramKinds q → unused c q ≡ false → (slate answers settings c q).phase ≡ Exchange
  used_exchange c q d u = plain_exchange c (slate answers settings c q).phase (slate answers settings c q) (plain_slate answers settings c q d).plain u

  no_slot : (c : ℕ) (q : List Event) → AllDatagramKinds q → holds_slot (slate answers settings c q) ≡ false
  no_slot c q d = rw (plain_slotless c (slate answers settings c q).phase (slate answers settings c q) (plain_slate answers settings c q d).plain) refl

  -- every client that begins joins
  new_joins : (q : List Event) (ms : List ℕ) (e : Event) → AllDatagramKinds (q ++ e ∷ []) → joins answers settings q ms e ≡ is_new answers settings q e
  new_joins q ms e d = rw (no_slot e.client (q ++ e ∷ []) d) (and_true (is_new answers settings q e))

  -- an exchange stays one, at its address
  stays_case : (c : ℕ) (q : List Event) (e : Event) (w : Bool) → is_wide e.kind ≡ w → AllDatagramKinds q → IsDatagramKind e.kind → (slate answers settings c q).phase ≡ Exchange
      → ((slate answers settings c (q ++ e ∷ [])).phase ≡ Exchange) × ((slate answers settings c (q ++ e ∷ [])).addr ≡ (slate answers settings c q).addr)
  stays_case c q e true w d k x = rw (slate_wide answers settings c q e w) ((took answers settings c q e d k (λ h. absurd cc)).stays x)
  stays_case c q e false w d k x = (elim (eqb_tells e.client c) [
    | inl t ↦ rw (slate_own answers settings c q e t.1) ((took answers settings c q e d k (λ _. t.1)).stays x)
    | inr t ↦ rw (slate_other answers settings c q e w t.1) (x, refl)
  ])

  pub stays : (c : ℕ) (q : List Event) (e : Event) → AllDatagramKinds q → IsDatagramKind e.kind → (slate answers settings c q).phase ≡ Exchange
      → ((slate answers settings c (q ++ e ∷ [])).phase ≡ Exchange) × ((slate answers settings c (q ++ e ∷ [])).addr ≡ (slate answers settings c q).addr)
  stays c q e d k x = stays_case c q e (is_wide e.kind) refl d k x

  used_stays : (c : ℕ) (q : List Event) (e : Event) → AllDatagramKinds q → IsDatagramKind e.kind → unused c q ≡ false → unused c (q ++ e ∷ []) ≡ false
  used_stays c q e d k u = rw (stays c q e d k (used_exchange c q d u)).0 refl

  -- the number of a client that doesn't begin is as used as before
  other_use : (c : ℕ) (q : List Event) (e : Event) (w : Bool) → is_wide e.kind ≡ w → AllDatagramKinds q → IsDatagramKind e.kind → e.client ≢ c → unused c (q ++ e ∷ []) ≡ unused c q
  other_use c q e true w d k ne = ap (λ (s : Slate). is_unused s.phase) (slate_wide answers settings c q e w) ∙ ap (λ (t : Effect). is_unused t.0.phase) ((took answers settings c q e d k (λ h. absurd cc)).wide w)
  other_use c q e false w d k ne = ap (λ (s : Slate). is_unused s.phase) (slate_other answers settings c q e w ne)

  old_use : (q : List Event) (e : Event) → AllDatagramKinds q → IsDatagramKind e.kind → is_new answers settings q e ≡ false → unused e.client (q ++ e ∷ []) ≡ unused e.client q
  unfolding is_new
  old_use q e d k n = neither (unused e.client q) (unused e.client (q ++ e ∷ [])) n (used_stays e.client q e d k)

  new_use : (q : List Event) (e : Event) → is_new answers settings q e ≡ true → (unused e.client q ≡ true) × (unused e.client (q ++ e ∷ []) ≡ false)
  unfolding is_new
  new_use q e n = both (unused e.client q) (unused e.client (q ++ e ∷ [])) n

  -- who began is a member, once
  abbrev pub IsOnce : ℕ → List Event → List ℕ → Type 0
  IsOnce c q ms = those c ms ≡ (if unused c q then [] else c ∷ [])

  first_once : (c : ℕ) → IsOnce c [] []
  unfolding slate
  first_once c = refl

  once_began : (q : List Event) (e : Event) (ms : List ℕ) → is_new answers settings q e ≡ true → IsOnce e.client q ms → IsOnce e.client (q ++ e ∷ []) (put e.client ms)
  once_began q e ms n o =
      let u = new_use q e n in
      let none : those e.client ms ≡ [] = rw u.0 at o in
      rw u.1 (those_put e.client ms none)

  once_new : (c : ℕ) (q : List Event) (e : Event) (ms : List ℕ) → AllDatagramKinds q → IsDatagramKind e.kind → is_new answers settings q e ≡ true → IsOnce c q ms → IsOnce c (q ++ e ∷ []) (put e.client ms)
  once_new c q e ms d k n o = (elim (eqb_tells e.client c) [
    | inl t ↦ subst (λ (x : ℕ). IsOnce x q ms → IsOnce x (q ++ e ∷ []) (put e.client ms)) t.1 (once_began q e ms n) o
    | inr t ↦ those_put_not c e.client ms (λ (h : c ≡ e.client). t.1 (sym h)) ∙ rw (other_use c q e (is_wide e.kind) refl d k t.1) o
  ])

  once_old : (c : ℕ) (q : List Event) (e : Event) (ms : List ℕ) → AllDatagramKinds q → IsDatagramKind e.kind → is_new answers settings q e ≡ false → IsOnce c q ms → IsOnce c (q ++ e ∷ []) ms
  once_old c q e ms d k n o = (elim (eqb_tells e.client c) [
    | inl t ↦ let same : unused c (q ++ e ∷ []) ≡ unused c q = subst (λ (x : ℕ). unused x (q ++ e ∷ []) ≡ unused x q) t.1 (old_use q e d k n) in rw same o
    | inr t ↦ rw (other_use c q e (is_wide e.kind) refl d k t.1) o
  ])

  once_joined : (c : ℕ) (q : List Event) (e : Event) (ms : List ℕ) (b : Bool) → AllDatagramKinds q → IsDatagramKind e.kind → is_new answers settings q e ≡ b → IsOnce c q ms → IsOnce c (q ++ e ∷ []) (if b then put e.client ms else ms)
  once_joined c q e ms true d k n o = once_new c q e ms d k n o
  once_joined c q e ms false d k n o = once_old c q e ms d k n o

  once_more : (c : ℕ) (q : List Event) (e : Event) (ms : List ℕ) → AllDatagramKinds q → IsDatagramKind e.kind → IsOnce c q ms → IsOnce c (q ++ e ∷ []) (joined answers settings q ms e)
  once_more c q e ms d k o = rw (new_joins q ms e (kinds_more q e d k)) (once_joined c q e ms (is_new answers settings q e) d k refl o)

  once_after : (c : ℕ) (p : List Event) (ms : List ℕ) (q : List Event) → AllDatagramKinds p → AllDatagramKinds q → IsOnce c p ms → IsOnce c (p ++ q) (members_after answers settings p ms q)
  once_after c p ms [] d k o = rw (append-nil p) o
  once_after c p ms (e ∷ q) d k o =
      subst (λ (es : List Event). IsOnce c es (members_after answers settings p ms (e ∷ q))) (append_assoc p (e ∷ []) q)
      (once_after c (p ++ e ∷ []) (joined answers settings p ms e) q (kinds_more p e d k.0) k.1 (once_more c p e ms d k.0 o))

  -- a client is a member, once, as soon as its number is used
  pub is_once : (c : ℕ) (q : List Event) → AllDatagramKinds q → IsOnce c q (members answers settings q)
  unfolding members
  is_once c q d = once_after c [] [] q tt d (first_once c)

  -- ---- what is sent

  flat_none : (f : ℕ → List Output) (ms : List ℕ) → ((c : ℕ) → f c ≡ []) → flat_map f ms ≡ []
  flat_none f [] h = refl
  flat_none f (c ∷ ms) h = rw (h c) (flat_none f ms h)

  none_away : (q : List Event) (e : Event) → AllDatagramKinds (q ++ e ∷ []) → turned_away answers settings q e ≡ []
  none_away q e d = rw (new_joins q (members answers settings q) e d, and_not (is_new answers settings q e)) refl

  heard_those : (e : Event) (ms : List ℕ) → is_wide e.kind ≡ false → filter (λ c. concerns c e) ms ≡ those e.client ms
  heard_those e ms w = simp w

  gained_case : (q : List Event) (e : Event) (w : Bool) → is_wide e.kind ≡ w → AllDatagramKinds q → IsDatagramKind e.kind → flat_map (λ c. gain answers settings c q e) (heard answers settings q e) ≡ (rule answers e (slate answers settings e.client q)).1
  gained_case q e true w d k =
      flat_none (λ c. gain answers settings c q e) (heard answers settings q e) (λ c. ap (λ (t : Effect). t.1) ((took answers settings c q e d k (λ h. absurd cc)).wide w))
      ∙ sym (ap (λ (t : Effect). t.1) ((took answers settings e.client q e d k (λ h. absurd cc)).wide w))
  gained_case q e false w d k =
      ap (flat_map (λ c. gain answers settings c q e)) (heard_those e (members answers settings (q ++ e ∷ [])) w ∙ is_once e.client (q ++ e ∷ []) (kinds_more q e d k))
      ∙ (elim (unused e.client (q ++ e ∷ [])) as (λ b. unused e.client (q ++ e ∷ []) ≡ b → flat_map (λ c. gain answers settings c q e) (if b then [] else e.client ∷ []) ≡ (rule answers e (slate answers settings e.client q)).1) [
        | true ↦ λ u. sym ((took answers settings e.client q e d k (λ _. refl)).quiet (sym (ap (λ (s : Slate). is_unused s.phase) (slate_own answers settings e.client q e refl)) ∙ u))
        | false ↦ λ u. append-nil (gain answers settings e.client q e)
      ]) refl

  -- what is sent for an event is what the rule says at its client's slate
  pub gained_is : (q : List Event) (e : Event) → AllDatagramKinds q → IsDatagramKind e.kind → gained answers settings q e ≡ (rule answers e (slate answers settings e.client q)).1
  gained_is q e d k =
      ap (λ (os : List Output). flat_map (λ c. gain answers settings c q e) (heard answers settings q e) ++ os) (none_away q e (kinds_more q e d k))
      ∙ append-nil (flat_map (λ c. gain answers settings c q e) (heard answers settings q e)) ∙ gained_case q e (is_wide e.kind) refl d k

  -- an event that all clients hear sends nothing
  pub gained_wide : (q : List Event) (e : Event) → AllDatagramKinds q → IsDatagramKind e.kind → is_wide e.kind ≡ true → gained answers settings q e ≡ []
  gained_wide q e d k w = gained_is q e d k ∙ ap (λ (t : Effect). t.1) ((took answers settings e.client q e d k (λ h. absurd cc)).wide w)

  mine_or_wide : (e : Event) → is_wide e.kind ≡ false → e.client ≡ e.client
  mine_or_wide e h = refl

  -- one datagram at most, to the event's client
  pub gained_posts : (q : List Event) (e : Event) → AllDatagramKinds q → IsDatagramKind e.kind → IsPost e.client (gained answers settings q e)
  gained_posts q e d k = rw (gained_is q e d k) (took answers settings e.client q e d k (mine_or_wide e)).posts

-- Who hears an event, who begins with it, and who are members then.
use Rattle.dns_session.specs.Serving.{Serving}
use Rattle.std.proofs.Common.{◌≡◌, ◌≢◌, ℕ, List, [], ◌∷◌, ◌++◌, ◌+◌, length, Bool, true, false, refl, ap, sym, ◌∙◌}
use Rattle.std.specs.Prelude.{nat_eq, not, ◌&&◌}
use Rattle.std.specs.List.{list_any}
use Rattle.std.proofs.lemmas.Bool.{eq-eqb, ne_eqb, and_parts, not-true}
use Rattle.std.proofs.Math.Bool.{and-false, and-not_self, or-true}
use Rattle.dns_events.specs.declared.event.Event.{Event}
use Rattle.dns_session.specs.Slate.{Slate, Effect, Conf, conf_rule}
use Rattle.dns_session.specs.Rule.{rule}
use Rattle.dns_core.specs.Own.{is_wide, concerns}
use Rattle.dns_core.specs.Settings.{opening}
use Rattle.dns_core.specs.Sent.{conf, conf_after, slate}
use Rattle.dns_core.specs.Out.{is_unused, holds_slot, is_new, taken, joins, members, put, turned_away}
use Rattle.dns_events.specs.declared.settings.Settings.{Settings}
use Rattle.dns_core.proofs.OutLemmas.{slate_some, slate_none, members_more}
use Rattle.dns_core.proofs.Counted.{filter_same, absent_other, filter_put, filter_put_not}
use Rattle.dns_core.proofs.Plain.{narrow_conf, rule_used}

pub concerns_same : (e : Event) → concerns e.client e ≡ true
concerns_same e = rw (eq-eqb e.client e.client refl) (or-true (is_wide e.kind))

pub concerns_all : (c : ℕ) (e : Event) → is_wide e.kind ≡ true → concerns c e ≡ true
concerns_all c e w = rw w refl

pub concerns_own : (c : ℕ) (e : Event) → is_wide e.kind ≡ false → concerns c e ≡ nat_eq e.client c
concerns_own c e w = rw w refl

pub concerns_other : (c : ℕ) (e : Event) → is_wide e.kind ≡ false → c ≢ e.client → concerns c e ≡ false
concerns_other c e w ne = concerns_own c e w ∙ ne_eqb e.client c (λ h. ne (sym h))

conf_after_snoc : (k : Conf) (q : List Event) (e : Event) → conf_after k (q ++ e ∷ []) ≡ conf_rule e.kind (conf_after k q)
conf_after_snoc k [] e = refl
conf_after_snoc k (x ∷ q) e = conf_after_snoc (conf_rule x.kind k) q e

pub conf_more : (settings : Settings) (q : List Event) (e : Event) → conf settings (q ++ e ∷ []) ≡ conf_rule e.kind (conf settings q)
unfolding conf
conf_more settings q e = conf_after_snoc (opening settings) q e

pub conf_kept : (settings : Settings) (q : List Event) (e : Event) → is_wide e.kind ≡ false → conf settings (q ++ e ∷ []) ≡ conf settings q
conf_kept settings q e w = conf_more settings q e ∙ narrow_conf e.kind (conf settings q) w

pub unused_as_before : (a b : Bool) → (a && not b) ≡ false → (a ≡ false → b ≡ false) → b ≡ a
unused_as_before true true n h = refl
unused_as_before true false n h = cc
unused_as_before false b n h = h refl

module _ (answers : Serving) (settings : Settings) where
  pub slate_same : (q : List Event) (e : Event) → slate answers settings e.client (q ++ e ∷ []) ≡ (rule answers e (slate answers settings e.client q)).0
  slate_same q e = slate_some answers settings e.client q e (concerns_same e)

  pub slate_other : (c : ℕ) (q : List Event) (e : Event) → is_wide e.kind ≡ false → c ≢ e.client → slate answers settings c (q ++ e ∷ []) ≡ slate answers settings c q
  slate_other c q e w ne = slate_none answers settings c q e (concerns_other c e w ne)

  -- slates that are alike stay so
  slate_alike_case : (c : ℕ) (q p : List Event) (e : Event) → slate answers settings c q ≡ slate answers settings c p → (b : Bool) → concerns c e ≡ b → slate answers settings c (q ++ e ∷ []) ≡ slate answers settings c (p ++ e ∷ [])
  slate_alike_case c q p e same true h = slate_some answers settings c q e h ∙ ap (λ (s : Slate). (rule answers e s).0) same ∙ sym (slate_some answers settings c p e h)
  slate_alike_case c q p e same false h = slate_none answers settings c q e h ∙ same ∙ sym (slate_none answers settings c p e h)

  pub slate_alike : (c : ℕ) (q p : List Event) (e : Event) → slate answers settings c q ≡ slate answers settings c p → slate answers settings c (q ++ e ∷ []) ≡ slate answers settings c (p ++ e ∷ [])
  slate_alike c q p e same = slate_alike_case c q p e same (concerns c e) refl

  -- a used number stays used
  used_case : (c : ℕ) (q : List Event) (e : Event) → is_unused (slate answers settings c q).phase ≡ false → (b : Bool) → concerns c e ≡ b → is_unused (slate answers settings c (q ++ e ∷ [])).phase ≡ false
  used_case c q e u true h = ap (λ (s : Slate). is_unused s.phase) (slate_some answers settings c q e h) ∙ rule_used answers e (slate answers settings c q) u
  used_case c q e u false h = ap (λ (s : Slate). is_unused s.phase) (slate_none answers settings c q e h) ∙ u

  pub used_more : (c : ℕ) (q : List Event) (e : Event) → is_unused (slate answers settings c q).phase ≡ false → is_unused (slate answers settings c (q ++ e ∷ [])).phase ≡ false
  used_more c q e u = used_case c q e u (concerns c e) refl

  -- a client begins if its number was unused before, and is used after
  pub new_was : (q : List Event) (e : Event) → is_new answers settings q e ≡ true → is_unused (slate answers settings e.client q).phase ≡ true
  unfolding is_new
  new_was q e n = (and_parts (is_unused (slate answers settings e.client q).phase) (not (is_unused (slate answers settings e.client (q ++ e ∷ [])).phase)) n).0

  pub new_became : (q : List Event) (e : Event) → is_new answers settings q e ≡ true → is_unused (slate answers settings e.client (q ++ e ∷ [])).phase ≡ false
  unfolding is_new
  new_became q e n = not-true (is_unused (slate answers settings e.client (q ++ e ∷ [])).phase) (and_parts (is_unused (slate answers settings e.client q).phase) (not (is_unused (slate answers settings e.client (q ++ e ∷ [])).phase)) n).1

  pub used_not_new : (q : List Event) (e : Event) → is_unused (slate answers settings e.client q).phase ≡ false → is_new answers settings q e ≡ false
  unfolding is_new
  used_not_new q e u = rw u refl

  pub unused_not_new : (q : List Event) (e : Event) → is_unused (slate answers settings e.client (q ++ e ∷ [])).phase ≡ true → is_new answers settings q e ≡ false
  unfolding is_new
  unused_not_new q e u = rw u (and-false (is_unused (slate answers settings e.client q).phase))

  pub idle_not_new : (q : List Event) (e : Event) → rule answers e (slate answers settings e.client q) ≡ (slate answers settings e.client q, []) → is_new answers settings q e ≡ false
  unfolding is_new
  idle_not_new q e idle =
      let same : slate answers settings e.client (q ++ e ∷ []) ≡ slate answers settings e.client q = slate_same q e ∙ ap (λ (t : Effect). t.0) idle in
      rw same (and-not_self (is_unused (slate answers settings e.client q).phase))

  -- with an event by which it doesn't begin, the number of its client is as used as before
  pub unused_kept : (q : List Event) (e : Event) → is_new answers settings q e ≡ false → is_unused (slate answers settings e.client (q ++ e ∷ [])).phase ≡ is_unused (slate answers settings e.client q).phase
  unfolding is_new
  unused_kept q e n = unused_as_before (is_unused (slate answers settings e.client q).phase) (is_unused (slate answers settings e.client (q ++ e ∷ [])).phase) n (used_more e.client q e)

  pub members_kept : (q : List Event) (e : Event) → is_new answers settings q e ≡ false → members answers settings (q ++ e ∷ []) ≡ members answers settings q
  members_kept q e n = members_more answers settings q e ∙ rw n refl

  pub members_joined : (q : List Event) (e : Event) → joins answers settings q (members answers settings q) e ≡ true → members answers settings (q ++ e ∷ []) ≡ put e.client (members answers settings q)
  members_joined q e j = members_more answers settings q e ∙ rw j refl

  pub members_away : (q : List Event) (e : Event) → joins answers settings q (members answers settings q) e ≡ false → members answers settings (q ++ e ∷ []) ≡ members answers settings q
  members_away q e j = members_more answers settings q e ∙ rw j refl

  pub none_away : (q : List Event) (e : Event) → is_new answers settings q e ≡ false → turned_away answers settings q e ≡ []
  none_away q e n = rw n refl

  -- slates that stay hold the same slots
  pub taken_still : (q : List Event) (e : Event) (ms : List ℕ) → ((c : ℕ) → list_any (nat_eq c) ms ≡ true → holds_slot (slate answers settings c (q ++ e ∷ [])) ≡ holds_slot (slate answers settings c q)) → taken answers settings (q ++ e ∷ []) ms ≡ taken answers settings q ms
  unfolding taken
  taken_still q e ms still = ap length (filter_same (λ c. holds_slot (slate answers settings c (q ++ e ∷ []))) (λ c. holds_slot (slate answers settings c q)) ms still)

  -- and so do those of others
  pub taken_absent : (q : List Event) (e : Event) (ms : List ℕ) → is_wide e.kind ≡ false → list_any (nat_eq e.client) ms ≡ false → taken answers settings (q ++ e ∷ []) ms ≡ taken answers settings q ms
  taken_absent q e ms w absent = taken_still q e ms (λ c there. ap holds_slot (slate_other c q e w (absent_other e.client c ms absent there)))

  -- one more member, which holds a slot or doesn't
  pub taken_put : (q : List Event) (e : Event) (ms : List ℕ) → is_wide e.kind ≡ false → holds_slot (slate answers settings e.client (q ++ e ∷ [])) ≡ true → list_any (nat_eq e.client) ms ≡ false → taken answers settings (q ++ e ∷ []) (put e.client ms) ≡ taken answers settings q ms + 1
  unfolding taken
  taken_put q e ms w held absent = filter_put (λ c. holds_slot (slate answers settings c (q ++ e ∷ []))) e.client ms held ∙ ap (λ (n : ℕ). n + 1) (taken_absent q e ms w absent)

  pub taken_put_not : (q : List Event) (e : Event) (ms : List ℕ) → is_wide e.kind ≡ false → holds_slot (slate answers settings e.client (q ++ e ∷ [])) ≡ false → list_any (nat_eq e.client) ms ≡ false → taken answers settings (q ++ e ∷ []) (put e.client ms) ≡ taken answers settings q ms
  unfolding taken
  taken_put_not q e ms w free absent = filter_put_not (λ c. holds_slot (slate answers settings c (q ++ e ∷ []))) e.client ms free ∙ taken_absent q e ms w absent

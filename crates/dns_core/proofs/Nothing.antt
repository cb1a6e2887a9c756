-- Events that change nothing for anybody.
use Rattle.dns_session.specs.Serving.{Serving}
use Rattle.std.proofs.Common.{◌≡◌, ◌≢◌, ℕ, List, [], ◌∷◌, ◌++◌, length, Bool, true, false, refl, ap, sym, ◌∙◌, append_assoc, ⊎_elim}
use Rattle.std.proofs.lemmas.List.{append-nil}
use Rattle.std.proofs.Math.Seq.{take-append_seam}
use Rattle.std.proofs.lemmas.Bool.{cases_eq}
use Rattle.std.specs.Prelude.{nat_eq, nat_lt, filter, if◌then◌else◌, not, ◌&&◌}
use Rattle.std.specs.List.{list_any, flat_map}
use Rattle.dns_events.specs.declared.event.Event.{Event}
use Rattle.dns_events.specs.declared.event.Output.{Output}
use Rattle.dns_events.specs.declared.event.Output.TheVariants.{TurnedAway}
use Rattle.dns_session.specs.Slate.{Slate, Effect, Conf, conf_rule, fresh}
use Rattle.dns_session.specs.Rule.{rule}
use Rattle.dns_core.specs.Own.{is_wide, concerns}
use Rattle.dns_core.specs.Sent.{conf, slate}
use Rattle.dns_core.specs.Out.{is_unused, holds_slot, is_new, taken, has_room, joins, put, members, gain, heard, is_turned_away, turned_away, gained, out_after, out}
use Rattle.dns_core.specs.ByClient.{IsPrefix}
use Rattle.dns_events.specs.declared.settings.Settings.{Settings}
use Rattle.dns_core.proofs.Counted.{filter_same, put_other}
use Rattle.dns_core.proofs.Plain.{plain, narrow_conf}
use Rattle.dns_core.proofs.OutLemmas.{slate_some, slate_none}
use Rattle.dns_core.proofs.Gained.{conf_more, concerns_other, slate_same, slate_other, slate_alike, used_more, used_not_new, idle_not_new, unused_kept, members_kept, members_joined, members_away, none_away}
use Rattle.dns_core.proofs.Heard.{flat_same, flat_none}

module _ (answers : Serving) (settings : Settings) where
  -- two lists of events after which everything goes on alike
  pub record Alike (q p : List Event) : Type 0 where
    pub same_members : members answers settings q ≡ members answers settings p
    pub slates : (c : ℕ) → list_any (nat_eq c) (members answers settings q) ≡ true → slate answers settings c q ≡ slate answers settings c p
    pub unused : (c : ℕ) → is_unused (slate answers settings c q).phase ≡ is_unused (slate answers settings c p).phase
    pub confs : conf settings q ≡ conf settings p

  fresh_alike : (q p : List Event) (c : ℕ) → Alike q p → is_unused (slate answers settings c q).phase ≡ true → slate answers settings c q ≡ slate answers settings c p
  fresh_alike q p c h u = (plain answers settings c q).unused u ∙ (ap fresh h.confs ∙ sym ((plain answers settings c p).unused (sym (h.unused c) ∙ u)))

  new_case : (q p : List Event) (x : Event) (b : Bool) → Alike q p → is_unused (slate answers settings x.client q).phase ≡ b → is_new answers settings q x ≡ is_new answers settings p x
  unfolding is_new
  new_case q p x true h u =
      let same = fresh_alike q p x.client h u in
      rw (slate_alike answers settings x.client q p x same, same) refl
  new_case q p x false h u = used_not_new answers settings q x u ∙ sym (used_not_new answers settings p x (sym (h.unused x.client) ∙ u))

  new_alike : (q p : List Event) (x : Event) → Alike q p → is_new answers settings q x ≡ is_new answers settings p x
  new_alike q p x h = new_case q p x (is_unused (slate answers settings x.client q).phase) h refl

  room_alike : (q p : List Event) → Alike q p → has_room answers settings q (members answers settings q) ≡ has_room answers settings p (members answers settings p)
  unfolding has_room taken
  room_alike q p h =
      let held = ap length (filter_same (λ c. holds_slot (slate answers settings c q)) (λ c. holds_slot (slate answers settings c p)) (members answers settings q) (λ c there. ap holds_slot (h.slates c there))) ∙ ap (λ (ms : List ℕ). length (filter (λ c. holds_slot (slate answers settings c p)) ms)) h.same_members in
      ap (λ (n : ℕ). nat_lt n (conf settings q).stream.max_concurrent_connections) held ∙ ap (λ k. nat_lt (length (filter (λ c. holds_slot (slate answers settings c p)) (members answers settings p))) k.stream.max_concurrent_connections) h.confs

  joins_case : (q p : List Event) (x : Event) (b : Bool) → Alike q p → is_unused (slate answers settings x.client q).phase ≡ b → joins answers settings q (members answers settings q) x ≡ joins answers settings p (members answers settings p) x
  joins_case q p x true h u =
      let same = slate_alike answers settings x.client q p x (fresh_alike q p x.client h u) in
      rw (new_alike q p x h, same, room_alike q p h) refl
  joins_case q p x false h u = rw (used_not_new answers settings q x u, used_not_new answers settings p x (sym (h.unused x.client) ∙ u)) refl

  joins_alike : (q p : List Event) (x : Event) → Alike q p → joins answers settings q (members answers settings q) x ≡ joins answers settings p (members answers settings p) x
  joins_alike q p x h = joins_case q p x (is_unused (slate answers settings x.client q).phase) h refl

  members_case : (q p : List Event) (x : Event) (b : Bool) → Alike q p → joins answers settings q (members answers settings q) x ≡ b → members answers settings (q ++ x ∷ []) ≡ members answers settings (p ++ x ∷ [])
  members_case q p x true h j = members_joined answers settings q x j ∙ (ap (put x.client) h.same_members ∙ sym (members_joined answers settings p x (sym (joins_alike q p x h) ∙ j)))
  members_case q p x false h j = members_away answers settings q x j ∙ (h.same_members ∙ sym (members_away answers settings p x (sym (joins_alike q p x h) ∙ j)))

  members_alike : (q p : List Event) (x : Event) → Alike q p → members answers settings (q ++ x ∷ []) ≡ members answers settings (p ++ x ∷ [])
  members_alike q p x h = members_case q p x (joins answers settings q (members answers settings q) x) h refl

  other_case : (q : List Event) (x : Event) (c : ℕ) → c ≢ x.client → (b : Bool) → joins answers settings q (members answers settings q) x ≡ b → list_any (nat_eq c) (members answers settings (q ++ x ∷ [])) ≡ list_any (nat_eq c) (members answers settings q)
  other_case q x c apart true j = ap (list_any (nat_eq c)) (members_joined answers settings q x j) ∙ put_other c x.client (members answers settings q) apart
  other_case q x c apart false j = ap (list_any (nat_eq c)) (members_away answers settings q x j)

  pub member_other : (q : List Event) (x : Event) (c : ℕ) → c ≢ x.client → list_any (nat_eq c) (members answers settings (q ++ x ∷ [])) ≡ list_any (nat_eq c) (members answers settings q)
  member_other q x c apart = other_case q x c apart (joins answers settings q (members answers settings q) x) refl

  -- those that are members after an event had the same slates before it
  was_here : (q p : List Event) (x : Event) (b : Bool) → Alike q p → is_unused (slate answers settings x.client q).phase ≡ b → list_any (nat_eq x.client) (members answers settings (q ++ x ∷ [])) ≡ true → slate answers settings x.client q ≡ slate answers settings x.client p
  was_here q p x true h u there = fresh_alike q p x.client h u
  was_here q p x false h u there = h.slates x.client (ap (list_any (nat_eq x.client)) (sym (members_kept answers settings q x (used_not_new answers settings q x u))) ∙ there)

  was_alike : (q p : List Event) (x : Event) → Alike q p → (c : ℕ) → list_any (nat_eq c) (members answers settings (q ++ x ∷ [])) ≡ true → slate answers settings c q ≡ slate answers settings c p
  was_alike q p x h c there =
      ⊎_elim
      (λ (same : c ≡ x.client).
      let t : list_any (nat_eq x.client) (members answers settings (q ++ x ∷ [])) ≡ true = rw same at there in
      rw same (was_here q p x (is_unused (slate answers settings x.client q).phase) h refl t))
      (λ (apart : c ≢ x.client). h.slates c (sym (member_other q x c apart) ∙ there))
      (cases_eq c x.client)

  unused_case : (q p : List Event) (x : Event) (c : ℕ) (b : Bool) → Alike q p → is_unused (slate answers settings c q).phase ≡ b → is_unused (slate answers settings c (q ++ x ∷ [])).phase ≡ is_unused (slate answers settings c (p ++ x ∷ [])).phase
  unused_case q p x c true h u = ap (λ (s : Slate). is_unused s.phase) (slate_alike answers settings c q p x (fresh_alike q p c h u))
  unused_case q p x c false h u = used_more answers settings c q x u ∙ sym (used_more answers settings c p x (sym (h.unused c) ∙ u))

  alike_more : (q p : List Event) (x : Event) → Alike q p → Alike (q ++ x ∷ []) (p ++ x ∷ [])
  alike_more q p x h = record {
    same_members = members_alike q p x h;
    slates = λ c there. slate_alike answers settings c q p x (was_alike q p x h c there);
    unused = λ c. unused_case q p x c (is_unused (slate answers settings c q).phase) h refl;
    confs = conf_more settings q x ∙ (ap (conf_rule x.kind) h.confs ∙ sym (conf_more settings p x));
  }

  gains_alike : (q p : List Event) (x : Event) → Alike q p → flat_map (λ c. gain answers settings c q x) (heard answers settings q x) ≡ flat_map (λ c. gain answers settings c p x) (heard answers settings p x)
  gains_alike q p x h =
      flat_same (λ c. gain answers settings c q x) (λ c. gain answers settings c p x) (λ c. concerns c x) (members answers settings (q ++ x ∷ [])) (λ c hears there. ap (λ (s : Slate). (rule answers x s).1) (was_alike q p x h c there))
      ∙ ap (λ (ms : List ℕ). flat_map (λ c. gain answers settings c p x) (filter (λ c. concerns c x) ms)) (members_alike q p x h)

  away_alike : (q p : List Event) (x : Event) → Alike q p → turned_away answers settings q x ≡ turned_away answers settings p x
  away_alike q p x h =
      let line : Conf → Bool → List Output = λ k b. if b then TurnedAway x.client k.stream.accept_connections_at_max ∷ [] else [] in
      ap (λ (b : Bool). line (conf settings q) (b && not (joins answers settings q (members answers settings q) x))) (new_alike q p x h)
      ∙ (ap (λ (b : Bool). line (conf settings q) (is_new answers settings p x && not b)) (joins_alike q p x h)
      ∙ ap (λ (k : Conf). line k (is_turned_away answers settings p x)) h.confs)

  gained_alike : (q p : List Event) (x : Event) → Alike q p → gained answers settings q x ≡ gained answers settings p x
  gained_alike q p x h =
      ap (λ (os : List Output). os ++ turned_away answers settings q x) (gains_alike q p x h)
      ∙ ap (λ (os : List Output). flat_map (λ c. gain answers settings c p x) (heard answers settings p x) ++ os) (away_alike q p x h)

  pub out_alike : (r q p : List Event) → Alike q p → out_after answers settings q r ≡ out_after answers settings p r
  out_alike [] q p h = refl
  out_alike (x ∷ r) q p h =
      ap (λ (os : List Output). os ++ out_after answers settings (q ++ x ∷ []) r) (gained_alike q p x h)
      ∙ ap (λ (os : List Output). gained answers settings p x ++ os) (out_alike r (q ++ x ∷ []) (p ++ x ∷ []) (alike_more q p x h))

  pub out_split : (p q r : List Event) → out_after answers settings p (q ++ r) ≡ out_after answers settings p q ++ out_after answers settings (p ++ q) r
  out_split p [] r = ap (λ (x : List Event). out_after answers settings x r) (sym (append-nil p))
  out_split p (x ∷ q) r = ap (λ (os : List Output). gained answers settings p x ++ os) (out_split (p ++ x ∷ []) q r ∙ ap (λ (y : List Event). out_after answers settings (p ++ x ∷ []) q ++ out_after answers settings y r) (append_assoc p (x ∷ []) q)) ∙ sym (append_assoc (gained answers settings p x) (out_after answers settings (p ++ x ∷ []) q) (out_after answers settings (p ++ x ∷ q) r))

  -- an event that leaves all alike, and for which nothing is sent, changes nothing
  skipped : (q r : List Event) (e : Event) → gained answers settings q e ≡ [] → Alike (q ++ e ∷ []) q → out answers settings (q ++ e ∷ r) ≡ out answers settings (q ++ r)
  unfolding out
  skipped q r e none alike =
      out_split [] q (e ∷ r)
      ∙ (ap (λ (os : List Output). out_after answers settings [] q ++ os) (ap (λ (os : List Output). os ++ out_after answers settings (q ++ e ∷ []) r) none ∙ out_alike r (q ++ e ∷ []) q alike)
      ∙ sym (out_split [] q r))

  -- an event of one client by which it doesn't begin, and that changes nothing of it, if it is a member, changes nothing at all
  pub nothing : (q r : List Event) (e : Event) → is_wide e.kind ≡ false → is_new answers settings q e ≡ false
      → (list_any (nat_eq e.client) (members answers settings q) ≡ true → rule answers e (slate answers settings e.client q) ≡ (slate answers settings e.client q, []))
      → out answers settings (q ++ e ∷ r) ≡ out answers settings (q ++ r)
  nothing q r e w n idle =
      let ms = members_kept answers settings q e n in
      let quiet : (c : ℕ) → concerns c e ≡ true → list_any (nat_eq c) (members answers settings (q ++ e ∷ [])) ≡ true → gain answers settings c q e ≡ [] = λ c hears there. ⊎_elim
      (λ (same : c ≡ e.client).
      let t : list_any (nat_eq e.client) (members answers settings q) ≡ true = rw (same, ms) at there in
      rw same (ap (λ (t : Effect). t.1) (idle t)))
      (λ (apart : c ≢ e.client). let unheard = concerns_other c e w apart in cc)
      (cases_eq c e.client) in
      let none : gained answers settings q e ≡ [] = rw (none_away answers settings q e n, flat_none (λ c. gain answers settings c q e) (λ c. concerns c e) (members answers settings (q ++ e ∷ [])) quiet) refl in
      skipped q r e none (record {
        same_members = ms;
        slates = λ c there. ⊎_elim
            (λ (same : c ≡ e.client).
            let t : list_any (nat_eq e.client) (members answers settings q) ≡ true = rw (same, ms) at there in
            rw same (slate_same answers settings q e ∙ ap (λ (t : Effect). t.0) (idle t)))
            (λ (apart : c ≢ e.client). slate_other answers settings c q e w apart)
            (cases_eq c e.client);
        unused = λ c. ⊎_elim
            (λ (same : c ≡ e.client). rw same (unused_kept answers settings q e n))
            (λ (apart : c ≢ e.client). ap (λ (s : Slate). is_unused s.phase) (slate_other answers settings c q e w apart))
            (cases_eq c e.client);
        confs = conf_more settings q e ∙ narrow_conf e.kind (conf settings q) w;
      })

  idle_case : (q : List Event) (e : Event) (c : ℕ) → rule answers e (slate answers settings c q) ≡ (slate answers settings c q, []) → (b : Bool) → concerns c e ≡ b → slate answers settings c (q ++ e ∷ []) ≡ slate answers settings c q
  idle_case q e c idle true h = slate_some answers settings c q e h ∙ ap (λ (t : Effect). t.0) idle
  idle_case q e c idle false h = slate_none answers settings c q e h

  -- an event that changes nothing of anybody, nor the configurations
  pub nothing_wide : (q r : List Event) (e : Event) → conf_rule e.kind (conf settings q) ≡ conf settings q
      → ((c : ℕ) → rule answers e (slate answers settings c q) ≡ (slate answers settings c q, []))
      → out answers settings (q ++ e ∷ r) ≡ out answers settings (q ++ r)
  nothing_wide q r e k idle =
      let n = idle_not_new answers settings q e (idle e.client) in
      let none : gained answers settings q e ≡ [] = rw (none_away answers settings q e n, flat_none (λ c. gain answers settings c q e) (λ c. concerns c e) (members answers settings (q ++ e ∷ [])) (λ c hears there. ap (λ (t : Effect). t.1) (idle c))) refl in
      skipped q r e none (record {
        same_members = members_kept answers settings q e n;
        slates = λ c there. idle_case q e c (idle c) (concerns c e) refl;
        unused = λ c. ap (λ (s : Slate). is_unused s.phase) (idle_case q e c (idle c) (concerns c e) refl);
        confs = conf_more settings q e ∙ k;
      })

  -- what all are sent for the first of some events is the front of what they are sent for all
  pub out_front : (p r : List Event) → IsPrefix (out answers settings p) (out answers settings (p ++ r))
  unfolding out
  out_front p r = rw (out_split [] p r) (take-append_seam (out_after answers settings [] p) (out_after answers settings p r))

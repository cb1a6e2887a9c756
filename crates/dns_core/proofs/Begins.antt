-- A server after an event by which a client begins, or is turned away.
use Rattle.dns_session.specs.Serving.{Serving}
use Rattle.std.proofs.Common.{◌≡◌, ◌≢◌, ℕ, ◌+◌, List, [], ◌∷◌, ◌++◌, None, Bool, true, false, refl, ap, sym, ◌∙◌, ⊎_elim}
use Rattle.std.specs.Prelude.{nat_eq, nat_lt, if◌then◌else◌, not, ◌&&◌, ◌||◌}
use Rattle.std.specs.List.{list_any}
use Rattle.std.specs.Ordering.{nat_cmp}
use Rattle.std.specs.BTreeMap.{BTreeMap, get}
use Rattle.std.specs.BTreeSet.{BTreeSet, contains}
use Rattle.std.proofs.lemmas.Bool.{cases_eq, eq-eqb, ne_eqb, not-false}
use Rattle.dns_core.specs.Serves.{EntersWith}
use Rattle.dns_core.proofs.OutLemmas.{one_longer}
use Rattle.dns_core.proofs.KeptCore.{entered, entered_at, none_stands, nothing_held}
use Rattle.dns_events.specs.declared.look.Look.{Look}
use Rattle.dns_admission.specs.Machine.{has_slot}
use Rattle.dns_service.specs.Answer.{Answer}
use Rattle.dns_events.specs.declared.event.Event.{Event}
use Rattle.dns_events.specs.declared.event.Output.{Output}
use Rattle.dns_events.specs.declared.event.Output.TheVariants.{TurnedAway}
use Rattle.dns_service.specs.declared.polled.PolledRequest.{PolledRequest}
use Rattle.dns_session.specs.Slate.{Slate, Conf, IsUnused, fresh, conf_of}
use Rattle.dns_session.specs.Rule.{rule}
use Rattle.dns_session.specs.Stands.{Stands, state_is_spent}
use Rattle.dns_session.specs.declared.client.ClientCore.{ClientCore}
use Rattle.dns_core.specs.Own.{is_wide}
use Rattle.dns_core.specs.Sent.{slate}
use Rattle.dns_core.specs.Out.{is_unused, holds_slot, is_new, joins, has_room, taken, members, put, gained}
use Rattle.dns_core.specs.Server.{Serves}
use Rattle.dns_events.specs.declared.settings.Settings.{Settings}
use Rattle.dns_core.specs.declared.server.Server.{Server}
use Rattle.dns_core.proofs.Counted.{put_there, put_other}
use Rattle.dns_core.proofs.Gained.{conf_kept, slate_same, slate_other, members_joined, members_away, taken_absent, taken_put, taken_put_not}
use Rattle.dns_core.proofs.Heard.{gained_joined, gained_away}
use Rattle.dns_core.proofs.Plain.{plain}

-- a slot is free, or none is needed
may_join : (held room : Bool) → held ≡ false → (not held || room) ≡ true
may_join held room h = ap (λ (b : Bool). not b || room) h

module _ (answers : Serving) (settings : Settings) where
  new_is : (q : List Event) (e : Event) → is_unused (slate answers settings e.client q).phase ≡ true → is_unused (rule answers e (slate answers settings e.client q)).0.phase ≡ false → is_new answers settings q e ≡ true
  unfolding is_new
  new_is q e u opens =
      let after : is_unused (slate answers settings e.client (q ++ e ∷ [])).phase ≡ false = ap (λ (s : Slate). is_unused s.phase) (slate_same answers settings q e) ∙ opens in
      ap (λ (b : Bool). b && not (is_unused (slate answers settings e.client (q ++ e ∷ [])).phase)) u ∙ ap not after

module _ {W R F : Type 0} (answer : PolledRequest F R → ℕ → Answer) (answers : Serving) (settings : Settings) where
  -- what holds of a client that begins
  pub record IsNew (q : List Event) (e : Event) (old : Server W R F) : Type 0 where
    pub narrow : is_wide e.kind ≡ false
    pub is_new : is_new answers settings q e ≡ true
    pub opens : is_unused (rule answers e (slate answers settings e.client q)).0.phase ≡ false
    pub no_core : get nat_cmp old.clients e.client ≡ None
    pub no_member : list_any (nat_eq e.client) (members answers settings q) ≡ false

  -- an unused number's slate is fresh, by the configurations of the book
  pub record IsFresh (q : List Event) (e : Event) (old : Server W R F) : Type 0 where
    pub unused : is_unused (slate answers settings e.client q).phase ≡ true
    pub fresh : IsUnused (slate answers settings e.client q)
    pub shown : (slate answers settings e.client q).conf ≡ conf_of old.book

  pub fresh_from : (old : Server W R F) (q : List Event) (e : Event) → contains nat_cmp old.used e.client ≡ false → Serves answer answers settings q old → IsFresh q e old
  fresh_from old q e free h =
      let s = slate answers settings e.client q in
      let u : is_unused s.phase ≡ true = not-false (is_unused s.phase) (sym (h.used e.client) ∙ free) in
      let pl = plain answers settings e.client q in
      record { unused = u; fresh = pl.unused u ∙ ap fresh (sym pl.conf); shown = pl.conf ∙ sym h.shown }

  pub new_from : (old : Server W R F) (q : List Event) (e : Event) → is_wide e.kind ≡ false → IsFresh q e old → is_unused (rule answers e (slate answers settings e.client q)).0.phase ≡ false → Serves answer answers settings q old → IsNew q e old
  new_from old q e n f opens h =
      let s = slate answers settings e.client q in
      let none = nothing_held answer answers (get nat_cmp old.clients e.client) (list_any (nat_eq e.client) (members answers settings q)) s f.unused (h.clients e.client) in
      record { narrow = n; is_new = new_is answers settings q e f.unused opens; opens = opens; no_core = none.0; no_member = none.1 }

  -- the number of a client that begins is used
  used_goes : (old : Server W R F) (u : BTreeSet ℕ) (q : List Event) (e : Event) → IsNew q e old
      → ((c : ℕ) → contains nat_cmp u c ≡ (if nat_eq c e.client then true else contains nat_cmp old.used c))
      → Serves answer answers settings q old
      → (c : ℕ) → contains nat_cmp u c ≡ not (is_unused (slate answers settings c (q ++ e ∷ [])).phase)
  used_goes old u q e new hu h c =
      ⊎_elim
      (λ (same : c ≡ e.client). hu c ∙ rw (same, eq-eqb e.client e.client refl, slate_same answers settings q e, new.opens) refl)
      (λ (apart : c ≢ e.client). hu c ∙ rw (ne_eqb c e.client apart, slate_other answers settings c q e new.narrow apart) (h.used c))
      (cases_eq c e.client)

  -- a client begins, with what is kept of it
  pub begin_goes : (old : Server W R F) (m : BTreeMap ℕ (ClientCore W R F)) (u : BTreeSet ℕ) (b : Look) (core : ClientCore W R F) (q : List Event) (e : Event) (outs : List Output) → IsNew q e old
      → joins answers settings q (members answers settings q) e ≡ true
      → b.taken ≡ taken answers settings (q ++ e ∷ []) (put e.client (members answers settings q))
      → conf_of b ≡ conf_of old.book
      → b.version ≡ old.book.version
      → core.version ≡ b.version
      → (outs ≡ (rule answers e (slate answers settings e.client q)).1) × Stands answer answers core (rule answers e (slate answers settings e.client q)).0
      → EntersWith answer answers old.clients m old.used u core e.client
      → Serves answer answers settings q old
      → (outs ≡ gained answers settings q e) × Serves answer answers settings (q ++ e ∷ []) (record { clients = m; used = u; book = b })
  begin_goes old m u b core q e outs new joins slots shown version begun st w h =
      let s = slate answers settings e.client q in
      let ms = members_joined answers settings q e joins in (
        st.0 ∙ sym (gained_joined answers settings q e new.narrow joins),
        record {
          clients = λ c. ⊎_elim
              (λ (same : c ≡ e.client). rw (same, ms, put_there e.client (members answers settings q), slate_same answers settings q e, w.here) (entered answer answers (get nat_cmp old.clients e.client) core (rule answers e s).0 (state_is_spent core.state) (w.spent (rule answers e s).0 st.1) st.1 new.no_core))
              (λ (apart : c ≢ e.client). rw (ms, put_other c e.client (members answers settings q) apart, slate_other answers settings c q e new.narrow apart, w.others c apart) (h.clients c))
              (cases_eq c e.client);
          versions = λ c. ⊎_elim
              (λ (same : c ≡ e.client). rw (same, w.here) (entered_at (get nat_cmp old.clients e.client) core b.version (state_is_spent core.state) begun new.no_core))
              (λ (apart : c ≢ e.client). rw (w.others c apart, version) (h.versions c))
              (cases_eq c e.client);
          used = used_goes old u q e new w.used h;
          slots = slots ∙ ap (taken answers settings (q ++ e ∷ [])) (sym ms);
          shown = shown ∙ (h.shown ∙ sym (conf_kept settings q e new.narrow));
          few = one_longer q e b.version (rw version h.few);
        },
      )

  -- whether a slot is free
  pub room_is : (old : Server W R F) (q : List Event) → Serves answer answers settings q old → has_slot old.book ≡ has_room answers settings q (members answers settings q)
  unfolding has_room
  room_is old q h = ap (λ (n : ℕ). nat_lt n old.book.stream.max_concurrent_connections) h.slots ∙ ap (λ (k : Conf). nat_lt (taken answers settings q (members answers settings q)) k.stream.max_concurrent_connections) h.shown

  -- an exchange joins, and takes no slot
  pub exchange_joins : (old : Server W R F) (q : List Event) (e : Event) → IsNew q e old → holds_slot (rule answers e (slate answers settings e.client q)).0 ≡ false → joins answers settings q (members answers settings q) e ≡ true
  exchange_joins old q e new free =
      ap (λ (b : Bool). b && (not (holds_slot (slate answers settings e.client (q ++ e ∷ []))) || has_room answers settings q (members answers settings q))) new.is_new
      ∙ may_join (holds_slot (slate answers settings e.client (q ++ e ∷ []))) (has_room answers settings q (members answers settings q)) (ap holds_slot (slate_same answers settings q e) ∙ free)

  pub exchange_slots : (old : Server W R F) (q : List Event) (e : Event) → IsNew q e old → holds_slot (rule answers e (slate answers settings e.client q)).0 ≡ false → Serves answer answers settings q old → old.book.taken ≡ taken answers settings (q ++ e ∷ []) (put e.client (members answers settings q))
  exchange_slots old q e new free h = h.slots ∙ sym (taken_put_not answers settings q e (members answers settings q) new.narrow (ap holds_slot (slate_same answers settings q e) ∙ free) new.no_member)

  -- a connection joins if a slot is free, and takes it
  connection_joins : (old : Server W R F) (q : List Event) (e : Event) (room : Bool) → IsNew q e old → holds_slot (rule answers e (slate answers settings e.client q)).0 ≡ true → has_slot old.book ≡ room → Serves answer answers settings q old → joins answers settings q (members answers settings q) e ≡ room
  connection_joins old q e room new held slot h =
      ap (λ (b : Bool). b && (not (holds_slot (slate answers settings e.client (q ++ e ∷ []))) || has_room answers settings q (members answers settings q))) new.is_new
      ∙ (ap (λ (b : Bool). not b || has_room answers settings q (members answers settings q)) (ap holds_slot (slate_same answers settings q e) ∙ held)
      ∙ (sym (room_is old q h) ∙ slot))

  pub connection_room : (old : Server W R F) (q : List Event) (e : Event) → IsNew q e old → holds_slot (rule answers e (slate answers settings e.client q)).0 ≡ true → has_slot old.book ≡ true → Serves answer answers settings q old → joins answers settings q (members answers settings q) e ≡ true
  connection_room old q e new held slot h = connection_joins old q e true new held slot h

  pub connection_slots : (old : Server W R F) (q : List Event) (e : Event) → IsNew q e old → holds_slot (rule answers e (slate answers settings e.client q)).0 ≡ true → Serves answer answers settings q old → old.book.taken + 1 ≡ taken answers settings (q ++ e ∷ []) (put e.client (members answers settings q))
  connection_slots old q e new held h = ap (λ (n : ℕ). n + 1) h.slots ∙ sym (taken_put answers settings q e (members answers settings q) new.narrow (ap holds_slot (slate_same answers settings q e) ∙ held) new.no_member)

  -- every slot is taken
  pub away_goes : (old : Server W R F) (u : BTreeSet ℕ) (b : Look) (q : List Event) (e : Event) (outs : List Output) → IsNew q e old
      → holds_slot (rule answers e (slate answers settings e.client q)).0 ≡ true
      → has_slot old.book ≡ false
      → b ≡ old.book
      → ((c : ℕ) → contains nat_cmp u c ≡ (if nat_eq c e.client then true else contains nat_cmp old.used c))
      → outs ≡ TurnedAway e.client old.book.stream.accept_connections_at_max ∷ []
      → Serves answer answers settings q old
      → (outs ≡ gained answers settings q e) × Serves answer answers settings (q ++ e ∷ []) (record old { used = u; book = b })
  away_goes old u b q e outs new held full is hu said h =
      let away = connection_joins old q e false new held full h in
      let ms = members_away answers settings q e away in (
        said ∙ (ap (λ (k : Conf). TurnedAway e.client k.stream.accept_connections_at_max ∷ []) h.shown ∙ sym (gained_away answers settings q e new.narrow new.is_new away)),
        record {
          clients = λ c. ⊎_elim
              (λ (same : c ≡ e.client). rw (same, ms, new.no_member) (none_stands answer answers (get nat_cmp old.clients e.client) (slate answers settings e.client (q ++ e ∷ [])) new.no_core))
              (λ (apart : c ≢ e.client). rw (ms, slate_other answers settings c q e new.narrow apart) (h.clients c))
              (cases_eq c e.client);
          versions = λ c. rw is (h.versions c);
          used = used_goes old u q e new hu h;
          slots = ap (λ (x : Look). x.taken) is ∙ (h.slots ∙ sym (ap (taken answers settings (q ++ e ∷ [])) ms ∙ taken_absent answers settings q e (members answers settings q) new.narrow new.no_member));
          shown = ap conf_of is ∙ (h.shown ∙ sym (conf_kept settings q e new.narrow));
          few = one_longer q e b.version (rw is h.few);
        },
      )

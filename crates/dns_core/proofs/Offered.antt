-- A server after a datagram, and after an offer.
use Rattle.dns_session.specs.Serving.{Serving}
use Rattle.std.proofs.Common.{◌≡◌, ℕ, ◌≤◌, ◌⊎◌, List, [], ◌∷◌, ◌++◌, Bool, true, false, refl, ap, sym, ◌∙◌, subst, ⊎_elim, inl, inr, lt-ltb}
use Rattle.std.specs.Prelude.{nat_eq, if◌then◌else◌, not}
use Rattle.std.specs.Ordering.{nat_cmp}
use Rattle.std.specs.BTreeMap.{BTreeMap}
use Rattle.std.specs.BTreeSet.{BTreeSet, contains}
use Rattle.std.proofs.lemmas.Bool.{le-ltb, not-true}
use Rattle.dns_core.specs.Serves.{EntersWith}
use Rattle.dns_name.specs.declared.address.SocketAddr.{SocketAddr}
use Rattle.dns_admission.specs.declared.call.Call.TheVariants.{Admit}
use Rattle.dns_events.specs.declared.look.Look.{Look}
use Rattle.dns_admission.specs.declared.admission.Admission.TheVariants.{Admitted, Full}
use Rattle.dns_admission.specs.Admissions.{Admits}
use Rattle.dns_admission.specs.Machine.{state_after, has_slot, limit_of, admitted}
use Rattle.dns_service.specs.Answer.{Answer}
use Rattle.dns_events.specs.declared.event.Event.{Event}
use Rattle.dns_events.specs.declared.event.EventKind.TheVariants.{Datagram, Offer}
use Rattle.dns_events.specs.declared.event.Output.{Output}
use Rattle.dns_events.specs.declared.event.Output.TheVariants.{TurnedAway}
use Rattle.dns_service.specs.declared.polled.PolledRequest.{PolledRequest}
use Rattle.dns_session.specs.Slate.{Slate, Effect, Conf, IsUnused, conf_of}
use Rattle.dns_session.specs.Connections.{opened}
use Rattle.dns_session.specs.Datagrams.{datagram}
use Rattle.dns_session.specs.Rule.{rule}
use Rattle.dns_session.specs.Stands.{Stands}
use Rattle.dns_session.specs.declared.client.ClientCore.{ClientCore}
use Rattle.dns_core.specs.Own.{is_wide}
use Rattle.dns_core.specs.Out.{is_unused, holds_slot, gained}
use Rattle.dns_core.specs.Sent.{slate}
use Rattle.dns_core.specs.Server.{Serves}
use Rattle.dns_events.specs.declared.settings.Settings.{Settings}
use Rattle.dns_core.specs.declared.server.Server.{Server}
use Rattle.dns_core.proofs.Late.{late_datagram, late_offer}
use Rattle.dns_core.proofs.Plain.{plain, unused_is, begun, offered, used_datagram, used_offer}
use Rattle.dns_core.proofs.AfterOwnEvent.{idle_goes}
use Rattle.dns_core.proofs.Begins.{fresh_from, new_from, begin_goes, exchange_joins, exchange_slots, connection_room, connection_slots, away_goes}

-- a look at a book shows a shutdown if that is shut down
pub shut_as : (look book : Look) → look ≡ book → look.closed ≡ true → book.closed ≡ true
shut_as look book is h = ap (λ (x : Look). x.closed) (sym is) ∙ h

module _ {W R F : Type 0} (answer : PolledRequest F R → ℕ → Answer) (answers : Serving) (settings : Settings) where
  -- a slate shows whether the book is closed, and whether its number is used
  closed_over : (old : Server W R F) (q : List Event) (c : ℕ) → old.book.closed ≡ true → Serves answer answers settings q old → (slate answers settings c q).conf.over ≡ true
  closed_over old q c closed h = ap (λ (k : Conf). k.over) ((plain answers settings c q).conf ∙ sym h.shown) ∙ closed

  number_used : (old : Server W R F) (q : List Event) (c : ℕ) → contains nat_cmp old.used c ≡ true → Serves answer answers settings q old → is_unused (slate answers settings c q).phase ≡ false
  number_used old q c used h = not-true (is_unused (slate answers settings c q).phase) (sym (h.used c) ∙ used)

  -- nothing begins under a used number, nor once the server shut down
  pub datagram_late : (old : Server W R F) (q : List Event) (e : Event) (addr : SocketAddr) (o : List ℕ) (outs : List Output) → e.kind ≡ Datagram addr o
      → (old.book.closed ≡ true) ⊎ (contains nat_cmp old.used e.client ≡ true) → outs ≡ [] → Serves answer answers settings q old
      → (outs ≡ gained answers settings q e) × Serves answer answers settings (q ++ e ∷ []) old
  datagram_late old q e addr o outs kind late none h =
      let s = slate answers settings e.client q in
      let idle : rule answers e s ≡ (s, []) = ⊎_elim
      (λ (closed : old.book.closed ≡ true). late_datagram answers e addr o s kind (closed_over old q e.client closed h))
      (λ (used : contains nat_cmp old.used e.client ≡ true). used_datagram answers e addr o s kind (number_used old q e.client used h))
      late in
      idle_goes answer answers settings old old.book q e outs (ap is_wide kind) idle none refl h

  offer_idle : (old : Server W R F) (b : Look) (q : List Event) (e : Event) (addr : SocketAddr) (outs : List Output) → e.kind ≡ Offer addr
      → (old.book.closed ≡ true) ⊎ (contains nat_cmp old.used e.client ≡ true) → outs ≡ [] → b ≡ old.book → Serves answer answers settings q old
      → (outs ≡ gained answers settings q e) × Serves answer answers settings (q ++ e ∷ []) (record old { book = b })
  offer_idle old b q e addr outs kind late none same h =
      let s = slate answers settings e.client q in
      let idle : rule answers e s ≡ (s, []) = ⊎_elim
      (λ (closed : old.book.closed ≡ true). late_offer answers e addr s kind (closed_over old q e.client closed h))
      (λ (used : contains nat_cmp old.used e.client ≡ true). used_offer answers e addr s kind (number_used old q e.client used h))
      late in
      idle_goes answer answers settings old b q e outs (ap is_wide kind) idle none same h

  pub offer_used : (old : Server W R F) (q : List Event) (e : Event) (addr : SocketAddr) (outs : List Output) → e.kind ≡ Offer addr → contains nat_cmp old.used e.client ≡ true → outs ≡ [] → Serves answer answers settings q old
      → (outs ≡ gained answers settings q e) × Serves answer answers settings (q ++ e ∷ []) old
  offer_used old q e addr outs kind used none h = offer_idle old old.book q e addr outs kind (inr used) none refl h

  pub offer_closed : (old : Server W R F) (b : Look) (q : List Event) (e : Event) (addr : SocketAddr) (outs : List Output) → e.kind ≡ Offer addr → old.book.closed ≡ true → b ≡ state_after old.book Admit → outs ≡ [] → Serves answer answers settings q old
      → (outs ≡ gained answers settings q e) × Serves answer answers settings (q ++ e ∷ []) (record old { book = b })
  offer_closed old b q e addr outs kind closed is none h = offer_idle old b q e addr outs kind (inl closed) none (is ∙ rw closed refl) h

  -- a datagram before that makes an exchange
  pub datagram_goes : (old : Server W R F) (m : BTreeMap ℕ (ClientCore W R F)) (u : BTreeSet ℕ) (core : ClientCore W R F) (q : List Event) (e : Event) (addr : SocketAddr) (o : List ℕ) (outs : List Output) → e.kind ≡ Datagram addr o
      → old.book.closed ≡ false → contains nat_cmp old.used e.client ≡ false
      → ((s : Slate) → IsUnused s → s.conf ≡ conf_of old.book → (outs ≡ (datagram e.client addr e.at e.secs o s).1) × Stands answer answers core (datagram e.client addr e.at e.secs o s).0)
      → core.version ≡ old.book.version
      → EntersWith answer answers old.clients m old.used u core e.client
      → Serves answer answers settings q old
      → (outs ≡ gained answers settings q e) × Serves answer answers settings (q ++ e ∷ []) (record old { clients = m; used = u })
  datagram_goes old m u core q e addr o outs kind running free st version w h =
      let s = slate answers settings e.client q in
      let f = fresh_from answer answers settings old q e free h in
      let not_over : s.conf.over ≡ false = ap (λ (k : Conf). k.over) f.shown ∙ running in
      let is : rule answers e s ≡ datagram e.client addr e.at e.secs o s = begun answers e s addr o kind (unused_is s.phase f.unused) not_over in
      let opens : is_unused (rule answers e s).0.phase ≡ false = ap (λ (t : Effect). is_unused t.0.phase) is in
      let new = new_from answer answers settings old q e (ap is_wide kind) f opens h in
      let no_slot : holds_slot (rule answers e s).0 ≡ false = ap (λ (t : Effect). holds_slot t.0) is in
      begin_goes answer answers settings old m u old.book core q e outs new (exchange_joins answer answers settings old q e new no_slot)
      (exchange_slots answer answers settings old q e new no_slot h) refl refl version
      (subst (λ (t : Effect). (outs ≡ t.1) × Stands answer answers core t.0) (sym is) (st s f.fresh f.shown)) w h

  -- an offer makes a connection, if a slot is free
  pub offer_goes : (old : Server W R F) (m : BTreeMap ℕ (ClientCore W R F)) (u : BTreeSet ℕ) (b look : Look) (core : ClientCore W R F) (q : List Event) (e : Event) (addr : SocketAddr) (outs : List Output) → e.kind ≡ Offer addr
      → contains nat_cmp old.used e.client ≡ false → Admits old.book (Admitted look) → b ≡ state_after old.book Admit → outs ≡ []
      → ((s : Slate) → IsUnused s → s.conf ≡ conf_of look → Stands answer answers core (opened e.client addr e.at s))
      → core.version ≡ look.version
      → EntersWith answer answers old.clients m old.used u core e.client
      → Serves answer answers settings q old
      → (outs ≡ gained answers settings q e) × Serves answer answers settings (q ++ e ∷ []) (record { clients = m; used = u; book = b })
  offer_goes old m u b look core q e addr outs kind free admits after none st version w h =
      let s = slate answers settings e.client q in
      let f = fresh_from answer answers settings old q e free h in
      let running : old.book.closed ≡ false = admits.0 in
      let room : has_slot old.book ≡ true = lt-ltb old.book.taken (limit_of old.book) admits.1 in
      let same : b ≡ admitted old.book = after ∙ rw (running, room) refl in
      let not_over : s.conf.over ≡ false = ap (λ (k : Conf). k.over) f.shown ∙ running in
      let is : rule answers e s ≡ (opened e.client addr e.at s, []) = offered answers e s addr kind (unused_is s.phase f.unused) not_over in
      let opens : is_unused (rule answers e s).0.phase ≡ false = ap (λ (t : Effect). is_unused t.0.phase) is in
      let new = new_from answer answers settings old q e (ap is_wide kind) f opens h in
      let held : holds_slot (rule answers e s).0 ≡ true = ap (λ (t : Effect). holds_slot t.0) is ∙ ap (λ (x : Slate). not x.freed) f.fresh in
      begin_goes answer answers settings old m u b core q e outs new (connection_room answer answers settings old q e new held room h)
      (ap (λ (x : Look). x.taken) same ∙ connection_slots answer answers settings old q e new held h) (ap conf_of same) (ap (λ (x : Look). x.version) same) (version ∙ ap (λ (x : Look). x.version) (admits.2 ∙ sym same))
      (subst (λ (t : Effect). (outs ≡ t.1) × Stands answer answers core t.0) (sym is) (none, st s f.fresh (f.shown ∙ sym (ap conf_of admits.2)))) w h

  -- and else it is turned away
  pub offer_away : (old : Server W R F) (u : BTreeSet ℕ) (b : Look) (taken limit : ℕ) (accepted : Bool) (q : List Event) (e : Event) (addr : SocketAddr) (outs : List Output) → e.kind ≡ Offer addr
      → contains nat_cmp old.used e.client ≡ false → Admits old.book (Full taken limit accepted) → b ≡ state_after old.book Admit
      → outs ≡ TurnedAway e.client accepted ∷ []
      → ((c : ℕ) → contains nat_cmp u c ≡ (if nat_eq c e.client then true else contains nat_cmp old.used c))
      → Serves answer answers settings q old
      → (outs ≡ gained answers settings q e) × Serves answer answers settings (q ++ e ∷ []) (record old { used = u; book = b })
  offer_away old u b taken limit accepted q e addr outs kind free admits after said hu h =
      let s = slate answers settings e.client q in
      let f = fresh_from answer answers settings old q e free h in
      let running : old.book.closed ≡ false = admits.0 in
      let le : limit_of old.book ≤ old.book.taken = rw (← admits.3, ← admits.2) admits.1 in
      let full : has_slot old.book ≡ false = le-ltb old.book.taken (limit_of old.book) le in
      let same : b ≡ old.book = after ∙ rw (running, full) refl in
      let not_over : s.conf.over ≡ false = ap (λ (k : Conf). k.over) f.shown ∙ running in
      let is : rule answers e s ≡ (opened e.client addr e.at s, []) = offered answers e s addr kind (unused_is s.phase f.unused) not_over in
      let opens : is_unused (rule answers e s).0.phase ≡ false = ap (λ (t : Effect). is_unused t.0.phase) is in
      let new = new_from answer answers settings old q e (ap is_wide kind) f opens h in
      let held : holds_slot (rule answers e s).0 ≡ true = ap (λ (t : Effect). holds_slot t.0) is ∙ ap (λ (x : Slate). not x.freed) f.fresh in
      away_goes answer answers settings old u b q e outs new held full same hu (said ∙ ap (λ (x : Bool). TurnedAway e.client x ∷ []) admits.4) h
